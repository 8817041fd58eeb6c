use Rattle.std.proofs.Common.{◌≡◌, ◌∷◌, [], map, sym, ap, ◌∙◌, subst}
use Rattle.std.specs.Prelude.{IsPermutation}
use Rattle.std.proofs.lemmas.List.Sorted.{IsPermutation-sym}
use Rattle.sqlite.proofs.Callers.{one_permutation}
use Rattle.sqlite.specs.Held.{state}
use Rattle.sqlite_log.specs.Cells.{head_shown}
use Rattle.sqlite_log.specs.States.{heads_of}
use Rattle.sqlite_log.proofs.Steps.{if_ok_then, one_element}
use Rattle.sqlite_log.proofs.reading.read_head.Goals as goal

pub returns-clause-head : goal.returns-clause-head
returns-clause-head g c clean =
    let rows = c.in-Ok.rows.items in
    let one : rows ≡ c.row-item.result ∷ [] = sym c.as_slice.ensures.value ∙ one_element c.as_slice.result.now c.row-item.result c.in-len1.len_at_least c.in-len1.len_below c.row-item.is in
    let heads = heads_of (state g.S.Store c.args.conn.now) in
    let only : heads ≡ head_shown c.row-item.result ∷ [] =
    one_permutation (head_shown c.row-item.result) heads (IsPermutation-sym heads _ (subst (λ rs. IsPermutation heads (map head_shown rs)) one (c.in-Ok.ensures.shown clean))) in
    if_ok_then c.read_head_row.result _ _ (λ head is. only ∙ ap (λ h. h ∷ []) (sym is)) c.read_head_row.ensures.head
