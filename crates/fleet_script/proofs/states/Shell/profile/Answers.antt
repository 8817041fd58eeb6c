use Rattle.fleet_script.proofs.{Goes.{profile_set}, Prelude.{kept_in}}
use Rattle.fleet_script.proofs.states.Shell.profile.Goals as goal

pub returns-clause-done : goal.returns-clause-done
returns-clause-done c = profile_set (kept_in c.args.self.now) c.args.profile c.in_ok-text.text c.in_ok-text.ensures.items
