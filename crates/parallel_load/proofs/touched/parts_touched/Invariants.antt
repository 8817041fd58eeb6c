use Rattle.parallel_load.proofs.Prelude.{All, HasParts, take}
use Rattle.parallel_load.proofs.touched.parts_touched.Given as goal

abbrev pub invariant-loop-place : goal.invariant-loop-place
invariant-loop-place l = All (HasParts l.viewer l.parts.items) (take l.place-index l.touched)
