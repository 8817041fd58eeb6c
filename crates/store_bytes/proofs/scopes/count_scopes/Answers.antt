use Rattle.std.proofs.Common.{arith, length-drop}
use Rattle.store_bytes.proofs.Scoping.{counted_from, one_scope_more}
use Rattle.store_bytes.proofs.scopes.count_scopes.Goals as goal

pub loop-start-smaller : goal.loop-start-smaller
loop-start-smaller c =
    let count = counted_from c.args.list.now c.loop-start.start c.leading_of-start.result c.index-list-start.result c.index-list-start.is c.leading_of-start.ensures.count in
    let more = one_scope_more c.args.list.now c.loop-start.start c.leading_of-start.result c.index-list-start.result c.loop-start-test.true c.index-list-start.is count in
    let some = more.0 in
    let test = c.loop-start-test.true in
    omega (arith, some, test)

pub loop-start-preserved : goal.loop-start-preserved
loop-start-preserved c =
    let count = counted_from c.args.list.now c.loop-start.start c.leading_of-start.result c.index-list-start.result c.index-list-start.is c.leading_of-start.ensures.count in
    let more = one_scope_more c.args.list.now c.loop-start.start c.leading_of-start.result c.index-list-start.result c.loop-start-test.true c.index-list-start.is count in
    let some = more.0 in
    let one = more.1 in
    let test = c.loop-start-test.true in
    let left = length-drop c.loop-start.start c.args.list.now in
    let within = c.leading_of-start.ensures.within in
    let few = c.loop-start.invariant.1.0 in
    let so_far = c.loop-start.invariant.1.1 in
    (omega (arith, within, left, test), (omega (arith, some, few), omega (arith, one, so_far)))
