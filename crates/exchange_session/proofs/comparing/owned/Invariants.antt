use Rattle.std.proofs.Common.{take, ◌≡◌}
use Rattle.exchange_session.proofs.comparing.owned.Given as goal

abbrev pub invariant-loop-version : goal.invariant-loop-version
invariant-loop-version l = l.owned.items ≡ take l.version-index l.versions
