use Rattle.std.proofs.Common.{◌≡◌, ◌+◌, drop}
use Rattle.store_bytes.specs.Parts.{leading}
use Rattle.store_bytes.proofs.scopes.leading_of.Given as goal

abbrev pub invariant-loop-index : goal.invariant-loop-index
invariant-loop-index l = leading l.scope l.list ≡ l.index + leading l.scope (drop l.index l.list)
