use Rattle.std.proofs.Common.{◌+◌}
use Rattle.fragment_choice.proofs.{Gathering.{gathers_none}, Levels.{gathers_each, gathers_more}, Prelude.{arith, Gathers, Leads, LeadsToAny, List, Name, subst, take}}
use Rattle.fragment_choice.proofs.aliases.AliasIndex.after.Goals as goal

pub loop-name-init : goal.loop-name-init
loop-name-init c = gathers_none (LeadsToAny c.args.self.now (take 0 c.args.level.now)) c.new-next.result.keys (λ n l. l)

pub loop-name-preserved : goal.loop-name-preserved
loop-name-preserved c =
    gathers_more (λ m n. Leads c.args.self.now n m) c.args.level.now c.loop-name.name-index (c.loop-name.name-index + 1) c.name-item.result c.name-item.result c.new-next.result.keys c.loop-name.next.keys c.gather_after.new.others.keys
    c.loop-name-test.true (omega arith) c.name-item.is c.loop-name.invariant c.in_ok-gather_after.ensures.gathered

pub returns : goal.returns
returns c =
    let all = gathers_each (λ m n. Leads c.args.self.now n m) c.args.level.now c.loop-name.name-index c.new-next.result.keys c.loop-name.next.keys c.loop-name-test.false c.loop-name.invariant in
    record { gathered = subst (λ (old : List Name). Gathers (LeadsToAny c.args.self.now c.args.level.now) old c.loop-name.next.keys) c.new-next.ensures.empty all }
