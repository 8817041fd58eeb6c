use Rattle.std.proofs.Common.{◌+◌}
use Rattle.fragment_choice.proofs.{Indexing.{collects_level, collects_levels, collects_none, IsOwnBelow}, Prelude.{All, All-nil, arith, HasOwnLinkTargets, keys_of, subst, sym}}
use Rattle.fragment_choice.proofs.aliases.linked_targets.Goals as goal

pub loop-level-init : goal.loop-level-init
loop-level-init c = record {
  linked = collects_none (IsOwnBelow c.args.view.now 0) (keys_of c.new-targets.result.items) (λ n l. absurd (let lt = l.1 in omega arith));
  own = subst (All (HasOwnLinkTargets c.args.view.now)) (sym c.new-targets.ensures.items) (All-nil (HasOwnLinkTargets c.args.view.now));
}

pub loop-level-preserved : goal.loop-level-preserved
loop-level-preserved c = record {
  linked =
      collects_level c.args.view.now c.loop-level.level (c.loop-level.level + 1) (keys_of c.new-targets.result.items) (keys_of c.loop-level.targets.items) (keys_of c.add_linked.new.targets.items) (omega arith)
      c.loop-level.invariant.linked c.in_ok-add_linked.ensures.added;
  own = c.in_ok-add_linked.ensures.own c.loop-level.invariant.own;
}

pub returns : goal.returns
returns c = record {
  targets = record {
    linked =
        (collects_levels c.args.view.now c.loop-level.level (keys_of c.new-targets.result.items) (keys_of c.loop-level.targets.items) (λ l h. let all = c.loop-level-test.false in omega (arith, h, all)) c.loop-level.invariant.linked).found;
    words = c.loop-level.invariant.own;
  };
}
