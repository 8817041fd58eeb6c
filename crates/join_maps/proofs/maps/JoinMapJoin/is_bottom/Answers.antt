use Rattle.join_maps.proofs.Prelude.{arith, eqb-true, least_exactly_empty, length, refl, subst}
use Rattle.join_maps.specs.Held.{IsHeldMap}
use Rattle.join_maps.proofs.maps.JoinMapJoin.is_bottom.Goals as goal

pub returns-in-Alone-clause-least : goal.returns-in-Alone-clause-least
returns-in-Alone-clause-least g c =
    let map = subst (IsHeldMap g.K.Ord.cmp g.V.Join.below g.V.Join.is_valid) c.in-Alone.is c.self.invariant in
    rw (← c.self.view_is, c.in-Alone.is) (
      λ t. cc (t),
      λ least.
          let none = (least_exactly_empty g.K.Ord.cmp g.V.Join.below g.met.K.Ord.total g.V.Join.is_valid c.in-Alone.field-1 (length c.in-Alone.field-1) refl map.0).1 least in
          absurd (omega (arith, map.1, eqb-true (length c.in-Alone.field-1) 0 none)),
    )

pub returns-in-Runs-clause-least : goal.returns-in-Runs-clause-least
returns-in-Runs-clause-least g c =
    let map = subst (IsHeldMap g.K.Ord.cmp g.V.Join.below g.V.Join.is_valid) c.in-Runs.is c.self.invariant in
    rw (c.is_empty.ensures.empty, ← c.self.view_is, c.in-Runs.is)
    (least_exactly_empty g.K.Ord.cmp g.V.Join.below g.met.K.Ord.total g.V.Join.is_valid _ _ refl map.map)
