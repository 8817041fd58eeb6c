use Rattle.std.proofs.Common.{map, take, ◌≡◌}
use Rattle.exchange_session.proofs.asking.places_within.Given as goal

abbrev pub invariant-loop-version : goal.invariant-loop-version
invariant-loop-version l = l.places.items ≡ map (λ v. v.0) (take l.version-index l.here)
