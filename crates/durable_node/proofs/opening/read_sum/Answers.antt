use Rattle.std.proofs.Common.{ap, arith, List, subst, sym, ◌∙◌}
use Rattle.std.specs.Prelude.{IsPermutation}
use Rattle.std.proofs.lemmas.List.{take_at}
use Rattle.std.proofs.lemmas.List.Sorted.{IsPermutation-trans}
use Rattle.edit_sums.specs.Sums.{sum_of}
use Rattle.edit_log.specs.declared.logs.LogRow.{LogRow}
use Rattle.edit_log.specs.Logs.{edits_in}
use Rattle.durable_node.specs.RowLaws.{sum_moved}
use Rattle.durable_node.proofs.opening.read_sum.Goals as goal

pub returns-clause-sum : goal.returns-clause-sum
returns-clause-sum g c honest =
    let held = g.L.EditLog.held c.args.log.now in
    let ordered = c.last_place_first.new.rows in
    let moved : IsPermutation c.in_ok-rows.rows.items ordered = subst (λ (l : List LogRow). IsPermutation l ordered) c.deref_mut.ensures.value c.last_place_first.ensures.moved in
    c.in_ok-sum.ensures.sum ∙ ap (λ (l : List LogRow). sum_of (edits_in l)) (take_at ordered _ c.in_ok-rows.rows.len (omega (arith, c.last_place_first.auto.rows, c.deref_mut.ensures.len)))
    ∙ sym (sum_moved held ordered (IsPermutation-trans _ _ _ (c.in_ok-rows.ensures.rows honest) moved))
