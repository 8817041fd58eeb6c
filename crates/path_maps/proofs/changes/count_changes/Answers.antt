use Rattle.std.proofs.Common.{◌+◌, ◌≡◌}
use Rattle.path_maps.proofs.Prelude.{additions, ap, arith, ascends, Bor, Compared, Entry, entry_cmp, is_ascending, is_lt, List, Option, option_copied, PlaceParts, subst, sym, ◌∙◌}
use Rattle.path_maps.proofs.Ascends.{additions_zipped, ascend_none, ascends_zipped, room_added, room_changed}
use Rattle.std.specs.FinMap as finmap
use Rattle.path_maps.proofs.changes.count_changes.Goals as goal

pub overflow_add-changes : goal.overflow_add-changes
overflow_add-changes c =
    let at = ap (λ (x : Option (Bor Entry)). option_copied x) c.in-None.is in
    let so_far = subst (λ (bs : List (Compared PlaceParts)). c.loop-placed.changes.changed + ascends_zipped bs ≡ ascends c.args.store.now (finmap.entries c.args.other.now)) c.in-Some.ensures.first c.loop-placed.invariant.0 in
    let room = room_changed c.loop-placed.changes.changed (c.in-Some.placed, option_copied c.in-Some.held) c.next_entry.new.self c.args.store.now (finmap.entries c.args.other.now) (ascend_none _ _ at) so_far in
    let most = c.entries_zipped-both.ensures.within in
    let len = finmap.len-entries c.args.other.now in
    omega (arith, room, most, len)

pub overflow_add-changes-in-None : goal.overflow_add-changes-in-None
overflow_add-changes-in-None c =
    let at = ap (λ (x : Option (Bor Entry)). option_copied x) c.in-None.is in
    let so_far = subst (λ (bs : List (Compared PlaceParts)). c.loop-placed.changes.added + additions_zipped bs ≡ additions c.args.store.now (finmap.entries c.args.other.now)) c.in-Some.ensures.first c.loop-placed.invariant.1 in
    let room = room_added c.loop-placed.changes.added (c.in-Some.placed, option_copied c.in-Some.held) c.next_entry.new.self c.args.store.now (finmap.entries c.args.other.now) at so_far in
    let most = c.entries_zipped-both.ensures.within in
    let len = finmap.len-entries c.args.other.now in
    omega (arith, room, most, len)

pub overflow_add-changes-then-is_lt : goal.overflow_add-changes-then-is_lt
overflow_add-changes-then-is_lt c =
    let greater = ap (λ (y : Option (Bor Entry)). is_ascending (option_copied y) c.in-Some.placed.1) c.in-Some-held.is ∙ ap (λ (x : Entry). is_lt (entry_cmp c.in-Some-held.entry.now x)) (sym c.entry.ensures.entry) ∙ sym (ap is_lt c.cmp.ensures) ∙ sym c.is_lt.ensures ∙ c.if-is_lt.true in
    let so_far = subst (λ (bs : List (Compared PlaceParts)). c.loop-placed.changes.changed + ascends_zipped bs ≡ ascends c.args.store.now (finmap.entries c.args.other.now)) c.in-Some.ensures.first c.loop-placed.invariant.0 in
    let room = room_changed c.loop-placed.changes.changed (c.in-Some.placed, option_copied c.in-Some.held) c.next_entry.new.self c.args.store.now (finmap.entries c.args.other.now) greater so_far in
    let most = c.entries_zipped-both.ensures.within in
    let len = finmap.len-entries c.args.other.now in
    omega (arith, room, most, len)
