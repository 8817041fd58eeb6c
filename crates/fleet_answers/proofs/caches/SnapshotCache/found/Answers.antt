use Rattle.std.proofs.Common.{◌-◌, ◌≡◌, ◌≤◌}
use Rattle.fleet_answers.proofs.Prelude.{ap, arith, drop, IsSnapshotBefore, length, length-drop, List, PlaceParts, subst, sym, take, take_all, ◌∙◌}
use Rattle.fleet_answers.proofs.caches.SnapshotCache.found.Goals as goal

pub renewed-made-requires-clause-before : goal.renewed-made-requires-clause-before
renewed-made-requires-clause-before g c =
    let mark = c.in-Some.field-0.mark in
    let listed = c.deref.result.now in
    let left = drop mark listed in
    let n = length-drop mark listed in
    let all : take (length listed - mark) left ≡ left = take_all (length listed - mark) left (omega (arith, n)) in
    subst (IsSnapshotBefore c.in-Some.field-0.snapshot c.args.store.now)
    (sym (all ∙ ap (drop mark) c.deref.ensures.value)) c.in-Some.ensures.taken.snapshot_is
