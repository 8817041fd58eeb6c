use Rattle.std.proofs.Common.{◌≡◌, ◌++◌, length}
use Rattle.std.specs.List.{flat_map}
use Rattle.store_bytes.specs.ListSpelling.{pair, pairs}
use Rattle.store_bytes.specs.Parts.{parted}
use Rattle.store_bytes.specs.PartingLaws.{AreFit}
use Rattle.store_bytes.specs.Spelling.{entry, path, scope}
use Rattle.store_bytes.proofs.scopes.put_each.Given as goal

-- what was written so far and what the rest is written as; and all fit, if those of the rest do
abbrev pub invariant-loop-own : goal.invariant-loop-own
invariant-loop-own l = record {
  written : l.out.items ++ flat_map (pair scope (pairs path entry)) (parted l.rest) ≡ l.fn.out.items ++ flat_map (pair scope (pairs path entry)) (parted l.list);
  fits : AreFit (parted l.rest) → AreFit (parted l.list);
}

abbrev pub decreases-loop-own : goal.decreases-loop-own
decreases-loop-own l = length l.rest
