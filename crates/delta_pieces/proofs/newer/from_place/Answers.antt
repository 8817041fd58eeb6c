use Rattle.std.proofs.Common.{◌≡◌}
use Rattle.delta_pieces.proofs.{Passes.{find_past}, Prelude.{and_parts, ap, below_all, find, is_less, is_lt, is_sorted, IsTrue, Less, List, place_cmp, PlaceParts, subst, sym, Version, ◌∙◌}}
use Rattle.delta_pieces.proofs.newer.from_place.Goals as goal

pub loop-next-preserved : goal.loop-next-preserved
loop-next-preserved c =
    let next = c.in-Some.next.now in
    let further = c.in-Some.further.now in
    let is = c.in-Some.ensures.cases.0 in
    let below : place_cmp next.0 c.args.placed.now.0 ≡ Less = is_less _ (ap is_lt (sym c.order_of.ensures.order) ∙ sym c.is_lt.ensures ∙ c.if-not-is_lt.false) in
    record {
      sorted = (and_parts (below_all place_cmp next.0 further) _ (subst (λ (l : List (PlaceParts × Version)). IsTrue (is_sorted place_cmp l)) is c.loop-next.invariant.sorted)).1;
      held = λ q not_below. sym (find_past c.args.placed.now.0 q next further below not_below) ∙ ap (find place_cmp q) (sym is) ∙ c.loop-next.invariant.held q not_below;
    }
