use Rattle.std.proofs.Common.{◌+◌, ◌≡◌}
use Rattle.path_maps.proofs.{Ascends.{additions_zipped, room_added}, Prelude.{additions, ap, arith, Bor, Compared, Entry, false, is_some, List, None, not, Option, option_copied, PlaceParts, refl, Some, subst, ◌∙◌}}
use Rattle.std.specs.FinMap as finmap
use Rattle.path_maps.proofs.differences.find_unlike.Goals as goal

none_held : (x : Option (Bor Entry)) → is_some x ≡ false → option_copied x ≡ None
none_held None h = refl
none_held (Some x) h = cc (h)

pub overflow_add-found : goal.overflow_add-found
overflow_add-found c =
    let at = none_held c.in-Some.held (c.is_none.ensures ∙ ap not c.if-is_none.true) in
    let so_far = subst (λ (bs : List (Compared PlaceParts)). c.loop-placed.found.added + additions_zipped bs ≡ additions c.args.older.now (finmap.entries c.args.store.now)) c.in-Some.ensures.first c.loop-placed.invariant.1 in
    let room = room_added c.loop-placed.found.added (c.in-Some.placed, option_copied c.in-Some.held) c.next_entry.new.self c.args.older.now (finmap.entries c.args.store.now) at so_far in
    let most = c.entries_zipped-both.ensures.within in
    let len = finmap.len-entries c.args.store.now in
    omega (arith, room, most, len)
