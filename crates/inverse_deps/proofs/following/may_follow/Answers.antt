use Rattle.inverse_deps.proofs.Prelude.{IsMayList, length, made_more, refl, ◌∙◌}
use Rattle.inverse_deps.proofs.{Linking.{row_within}, Pulling.{may_list}}
use Rattle.inverse_deps.proofs.following.may_follow.Goals as goal

pub may_follow_of-requires-clause-within : goal.may_follow_of-requires-clause-within
may_follow_of-requires-clause-within c =
    row_within c.args.given.now (length c.args.names.now) c.requires.within c.loop-index.index c.loop-index-test.true c.as_slice-deps.result.now c.index-given-index.result
    (c.as_slice-deps.ensures.elements ∙ c.get.ensures.value) c.index-given-index.is (length c.args.names.now) refl

pub loop-index-preserved : goal.loop-index-preserved
loop-index-preserved c =
    made_more (IsMayList c.args.names.now c.args.before.now c.args.given.now) c.loop-index.index _ _ c.deref.result.now c.loop-index.invariant c.in_ok-push.ensures.added
    (may_list c.args.names.now c.args.before.now c.args.given.now c.loop-index.index c.loop-index-test.true c.as_slice-deps.result.now c.index-given-index.result
    (c.as_slice-deps.ensures.elements ∙ c.get.ensures.value) c.index-given-index.is c.neighbors.result.now c.neighbors.ensures c.may_follow_of.new.indices.items c.put_in_order.new.nodes.items c.deref.result.now
    c.in_ok-may_follow_of.ensures.may c.put_in_order.ensures.ascending c.put_in_order.ensures.members c.deref.ensures.value)
