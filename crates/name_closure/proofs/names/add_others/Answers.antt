use Rattle.std.proofs.Common.{◌≡◌}
use Rattle.name_closure.proofs.{Others.{apart_more, others_kept, others_more}, Prelude.{append_assoc, false, IsTrue, keys_of, rules, sym, true≢false, ◌∙◌}}
use Rattle.name_closure.proofs.names.add_others.Goals as goal

pub loop-node-preserved-in-Continue-1 : goal.loop-node-preserved-in-Continue-1
loop-node-preserved-in-Continue-1 g c =
    let other : c.is_own.result ≡ false = search rules in
    record {
      others = rw (c.in_ok-push.ensures.items, ← append_assoc) (others_more (keys_of c.args.pairs.now) _ _ c.in-Some.node c.loop-node.invariant.others);
      apart = λ ascending old. rw c.in_ok-push.ensures.items (apart_more (keys_of c.args.pairs.now) c.loop-node.names.items c.in-Some.node (c.loop-node.invariant.apart ascending old) (λ own. true≢false (sym (c.is_own.ensures.seen ascending own) ∙ other)));
    }

pub loop-node-preserved : goal.loop-node-preserved
loop-node-preserved g c =
    let own : IsTrue c.is_own.result = search rules in
    record {
      others = rw (← append_assoc) (others_kept (keys_of c.args.pairs.now) _ _ c.in-Some.node (c.is_own.ensures.own own) c.loop-node.invariant.others);
      apart = c.loop-node.invariant.apart;
    }
