use Rattle.fleet_script.proofs.{Goes.{reads}, Prelude.{kept_in, refl, RendersCrowd}}
use Rattle.fleet_script.proofs.states.Shell.crowd.Goals as goal

pub returns : goal.returns
returns g c = record { done = reads (kept_in c.args.self.now) c.render_crowd.result c.args.node.now c.in_ok-replica.replica.now c.in_ok-replica.replica.now.store (RendersCrowd c.args.seats c.args.edits) c.in_ok-replica.ensures.found refl c.render_crowd.ensures.rendered }
