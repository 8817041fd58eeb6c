use Rattle.std.proofs.Common.{◌≡◌}
use Rattle.join_maps.proofs.{HeldPairs.{run_is_mapped}, Prelude.{arith, refl, subst, sym, ◌∙◌}}
use Rattle.join_maps.specs.Held.{IsHeldMap}
use Rattle.join_maps.proofs.held.Held.spread.Goals as goal

pub returns-clause-map : goal.returns-clause-map
returns-clause-map g c =
    let pairs : c.push_reserved.new.self.items ≡ c.in-Alone-replace.alone = rw (c.push_reserved.ensures.items, c.in_ok-run.ensures.items, c.only.ensures.only) refl in
    let map = subst (IsHeldMap g.K.Ord.cmp g.V.Join.below g.V.Join.is_valid) (c.in-Alone.is ∙ sym c.in-Alone-replace.ensures.value) c.requires.map in
    rw (c.of_run.ensures.run, pairs)
    (run_is_mapped g.K.Ord.cmp g.V.Join.below g.V.Join.is_valid c.in-Alone-replace.alone (omega (arith, map.1)) map.0)
