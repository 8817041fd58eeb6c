use Rattle.parallel_load.proofs.Prelude.{All, host_view_of, KeepsLinkTargets, take}
use Rattle.parallel_load.proofs.touched.keeps_link_targets.Given as goal

abbrev pub invariant-loop-place : goal.invariant-loop-place
invariant-loop-place l = All (KeepsLinkTargets l.loaded.viewer l.loaded.words (host_view_of l.store l.loaded.viewer)) (take l.place-index l.touched)
