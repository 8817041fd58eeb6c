use Rattle.inverse_deps.proofs.{Mounting.{ByMountsAt}, Prelude.{[], AreMade, get_or, HasAdded}}
use Rattle.inverse_deps.proofs.mounts.given_rows.Given as goal

abbrev pub invariant-loop-index : goal.invariant-loop-index
invariant-loop-index l = AreMade (λ k row. HasAdded (get_or l.own k []) (ByMountsAt l.loaded k) row) l.index l.rows.items
