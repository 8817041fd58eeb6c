-- Each node is later than itself, and what is later than a later node is later.
use Rattle.std.proofs.Common.{◌≡◌, ◌⊎◌, inl, inr, List, refl, ◌∙◌}
use Rattle.edit_sums.specs.SumLaws.{store_below_refl, store_below_trans}
use Rattle.edit_sums.specs.Sums.{sum_of}
use Rattle.edit_log.specs.declared.logs.{LogHead.{LogHead}, LogRow.{LogRow}}
use Rattle.edit_log.specs.Logs.{edits_in}
use Rattle.durable_node.specs.Nodes.{Node}
use Rattle.node_exchange.specs.Later.{IsLater}

module _ {L : Type 0} (is_honest : L → Type 0) (head : L → LogHead) (may_leave : L → List LogRow → Type 0) where
  pub later_same : (n : Node L) → IsLater is_honest head may_leave n n
  later_same n = record { kept = store_below_refl n.replica.store; writer = refl; heads = refl; honest = λ h. h; crash = λ h left may. inl may }

  pub later_then : (a b c : Node L) → IsLater is_honest head may_leave a b → IsLater is_honest head may_leave b c
      → IsLater is_honest head may_leave a c
  later_then a b c p q = record {
    kept = store_below_trans a.replica.store b.replica.store c.replica.store p.kept q.kept;
    writer = q.writer ∙ p.writer;
    heads = q.heads ∙ p.heads;
    honest = λ h. p.honest (q.honest h);
    crash = λ h left may. elim (q.crash h left may) [
      | inl before ↦ p.crash (q.honest h) left before
      | inr above ↦ inr (store_below_trans a.replica.store b.replica.store (sum_of (edits_in left)) p.kept above)
    ];
  }
