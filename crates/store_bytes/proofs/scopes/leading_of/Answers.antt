use Rattle.std.proofs.Common.{◌≡◌, ◌+◌, ◌∙◌, sym, drop, arith}
use Rattle.store_bytes.specs.Parts.{leading}
use Rattle.store_bytes.proofs.Scoping.{leading_none, not_false}
use Rattle.store_bytes.proofs.scopes.leading_of.Goals as goal

pub returns-then-ne-clause-count : goal.returns-then-ne-clause-count
returns-then-ne-clause-count c =
    let none = leading_none c.args.scope.now c.args.list.now c.loop-index.index c.index-list-index.result c.loop-index-test.true c.index-list-index.is
    (not_false _ (sym c.ne.ensures ∙ c.if-ne.true)) in
    let so_far : leading c.args.scope.now c.args.list.now ≡ c.loop-index.index + leading c.args.scope.now (drop c.loop-index.index c.args.list.now) = c.loop-index.invariant in
    omega (arith, none, so_far)
