use Rattle.std.proofs.Common.{◌<◌}
use Rattle.parallel_load.proofs.{Prelude.{ap, arith, length, List, Name, NameLoad, put_load, sym, ◌∙◌}, UnitsPut.{next_holds, with_length, with_more}}
use Rattle.parallel_load.proofs.loaded.with_units.Goals as goal

pub put_unit-requires : goal.put_unit-requires
put_unit-requires c =
    let below : c.in-Some.index < length c.args.names.items =
    next_holds (λ u. u.0 < length c.args.names.items) c.args.units.items c.into_iter-index-iterator.result c.loop-index.index-iterator c.next.new.self c.loop-index.yielded
    (c.in-Some.index, c.in-Some.unit) c.into_iter-index-iterator.ensures.into_iter_gives.0 c.loop-index.yielded_by c.in-Some.ensures.steps c.requires.within in
    let count = ap length c.loop-index.invariant ∙ with_length c.args.names.items c.loop-index.yielded in
    record { within = omega (arith, below, count) }

pub loop-index-preserved : goal.loop-index-preserved
loop-index-preserved c =
    c.put_unit.ensures.put ∙ ap (λ (ps : List (Name × NameLoad)). put_load ps c.in-Some.index c.in-Some.unit) c.loop-index.invariant
    ∙ sym (with_more c.args.names.items c.loop-index.yielded (c.in-Some.index, c.in-Some.unit))
