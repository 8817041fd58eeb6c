use Rattle.std.proofs.Common.{◌+◌}
use Rattle.fragment_choice.proofs.{Gathering.{gathers_none}, Levels.{gathers_each, gathers_more}, Prelude.{arith, IsLeadingInstance, IsLeadingInstanceOfAny, take}}
use Rattle.fragment_choice.proofs.aliases.AliasIndex.gather_instances.Goals as goal

pub loop-owner-init : goal.loop-owner-init
loop-owner-init c = gathers_none (IsLeadingInstanceOfAny c.args.self.now c.args.name.now (take 0 c.args.owners.now)) c.args.others.now.keys (λ n l. l)

pub loop-owner-preserved : goal.loop-owner-preserved
loop-owner-preserved c =
    gathers_more (IsLeadingInstance c.args.self.now c.args.name.now) c.args.owners.now c.loop-owner.owner-index (c.loop-owner.owner-index + 1) c.owner-item.result c.owner-item.result c.args.others.now.keys c.loop-owner.others.keys c.add_instance.new.others.keys
    c.loop-owner-test.true (omega arith) c.owner-item.is c.loop-owner.invariant c.in_ok-add_instance.ensures.gathered

pub returns : goal.returns
returns c = record {
  gathered = gathers_each (IsLeadingInstance c.args.self.now c.args.name.now) c.args.owners.now c.loop-owner.owner-index c.args.others.now.keys c.loop-owner.others.keys c.loop-owner-test.false c.loop-owner.invariant;
}
