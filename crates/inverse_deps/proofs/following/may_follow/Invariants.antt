use Rattle.inverse_deps.proofs.Prelude.{AreMade, IsMayList}
use Rattle.inverse_deps.proofs.following.may_follow.Given as goal

abbrev pub invariant-loop-index : goal.invariant-loop-index
invariant-loop-index l = AreMade (IsMayList l.names l.before l.given) l.index l.may
