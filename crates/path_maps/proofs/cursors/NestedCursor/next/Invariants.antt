use Rattle.std.proofs.Common.{◌++◌, ◌≡◌}
use Rattle.path_maps.proofs.Prelude.{flat_map, in_hand, length}
use Rattle.path_maps.proofs.cursors.NestedCursor.next.Given as goal

abbrev pub invariant-loop-item : goal.invariant-loop-item
invariant-loop-item g l =
    in_hand g.C.Cursor.left l.fn.self.inner ++ flat_map g.C.Cursor.left (g.O.Cursor.left l.fn.self.outer)
    ≡ in_hand g.C.Cursor.left l.self.inner ++ flat_map g.C.Cursor.left (g.O.Cursor.left l.self.outer)

abbrev pub decreases-loop-item : goal.decreases-loop-item
decreases-loop-item g l = length (g.O.Cursor.left l.self.outer)
