-- Nodes that are later than others.
use Rattle.std.proofs.Common.{◌≡◌, ◌⊎◌, ap, inl, inr, List, subst, sym, ◌∙◌}
use Rattle.edit_sums.specs.SumLaws.{store_below_refl}
use Rattle.edit_sums.specs.Sums.{EntryMap, IsStoreBelow, sum_of}
use Rattle.edit_log.specs.declared.logs.{LogHead.{LogHead}, LogRow.{LogRow}}
use Rattle.edit_log.specs.Logs.{edits_in}
use Rattle.replica_store.specs.Replicas.{Replicated}
use Rattle.durable_node.specs.Nodes.{Node}
use Rattle.node_exchange.specs.Later.{IsLater}

module _ {L : Type 0} (is_honest : L → Type 0) (head : L → LogHead) (may_leave : L → List LogRow → Type 0) where
  -- a node that holds more in memory alone
  pub later_in_memory : (a b : Node L) → b.log ≡ a.log → b.replica.writer ≡ a.replica.writer → IsStoreBelow a.replica.store b.replica.store → IsLater is_honest head may_leave a b
  later_in_memory a b log writer kept = record {
    kept = kept;
    writer = writer;
    heads = ap head log;
    honest = subst is_honest log;
    crash = λ h left may. inl (subst (λ (l : L). may_leave l left) log may);
  }

  -- a commit
  pub later_committed : (a b : Node L) → b.replica ≡ a.replica → head b.log ≡ head a.log → (is_honest b.log → is_honest a.log)
      → (is_honest b.log → (left : List LogRow) → may_leave b.log left → may_leave a.log left ⊎ (sum_of (edits_in left) ≡ b.replica.store)) → IsLater is_honest head may_leave a b
  later_committed a b same heads honest found = record {
    kept = subst (λ (r : Replicated). IsStoreBelow a.replica.store r.store) (sym same) (store_below_refl a.replica.store);
    writer = ap (λ (r : Replicated). r.writer) same;
    heads = heads;
    honest = honest;
    crash = λ h left may. elim (found h left may) [
      | inl before ↦ inl before
      | inr comes ↦ inr (subst (λ (s : EntryMap). IsStoreBelow a.replica.store s) (sym (comes ∙ ap (λ (r : Replicated). r.store) same)) (store_below_refl a.replica.store))
    ];
  }
