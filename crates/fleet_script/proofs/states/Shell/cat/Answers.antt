use Rattle.fleet_script.proofs.{Goes.{reads}, Prelude.{kept_in, RendersFiles}}
use Rattle.fleet_script.proofs.states.Shell.cat.Goals as goal

pub returns : goal.returns
returns c = record { done = reads (kept_in c.args.self.now) c.render_files.result c.args.node.now c.in_ok-replica.replica.now c.store.result.now (RendersFiles c.args.host c.args.unit.now) c.in_ok-replica.ensures.found c.store.ensures.store c.render_files.ensures.rendered }
