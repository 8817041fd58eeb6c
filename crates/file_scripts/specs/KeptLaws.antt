-- What is held is found again.
use Rattle.std.proofs.Common.{List, subst, sym, ◌∙◌}
use Rattle.edit_sums.specs.Sums.{EntryMap, IsStoreBelow}
use Rattle.edit_sums.specs.SumLaws.{store_below_refl}
use Rattle.edit_log.specs.declared.logs.LogRow.{LogRow}
use Rattle.durable_node.specs.Nodes.{Node}
use Rattle.durable_node.specs.RowLaws.{sum_moved}
use Rattle.file_scripts.specs.Kept.{IsFoundIn, IsHeldIn}

pub found_from_held : {L : Type 0} (is_honest : L → Type 0) (held : L → List LogRow)
    (may_leave : L → List LogRow → Type 0) (node : Node L) (s : EntryMap)
    → IsHeldIn is_honest held may_leave node s → IsFoundIn is_honest may_leave node s
found_from_held is_honest held may_leave node s is = record {
  store = subst (λ (t : EntryMap). IsStoreBelow s t) (sym is.store) (store_below_refl s);
  left = λ honest rows may. subst (λ (t : EntryMap). IsStoreBelow s t) (sym (is.sum honest) ∙ sum_moved (held node.log) rows (is.lasts honest rows may)) (store_below_refl s);
}
