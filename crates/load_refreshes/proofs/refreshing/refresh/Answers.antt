use Rattle.std.proofs.Common.{rules}
use Rattle.load_refreshes.proofs.refreshing.refresh.Goals as goal

pub returns-in-None-clause-load : goal.returns-in-None-clause-load
returns-in-None-clause-load c = search rules
