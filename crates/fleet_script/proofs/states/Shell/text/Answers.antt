use Rattle.fleet_script.proofs.{Goes.{reads}, Prelude.{kept_in, RendersText}}
use Rattle.fleet_script.proofs.states.Shell.text.Goals as goal

pub returns : goal.returns
returns c = record { done = reads (kept_in c.args.self.now) c.render_text.result c.args.node.now c.in_ok-replica.replica.now c.store.result.now (RendersText c.args.place.now) c.in_ok-replica.ensures.found c.store.ensures.store c.render_text.ensures.rendered }
