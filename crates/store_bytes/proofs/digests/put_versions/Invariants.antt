use Rattle.std.proofs.Common.{◌≡◌, ◌++◌, drop, length, take}
use Rattle.std.specs.List.{AllByRecursion, flat_map}
use Rattle.byte_fields.specs.Spelling.{number}
use Rattle.store_bytes.specs.ListSpelling.{pair}
use Rattle.store_bytes.specs.Spelling.{IsPlace, IsVersion, place, version}
use Rattle.store_bytes.proofs.digests.put_versions.Given as goal

abbrev pub invariant-loop-place : goal.invariant-loop-place
invariant-loop-place l = record {
  written : l.out.items ≡ l.fn.out.items ++ (number (length l.list) ++ flat_map (pair place version) (take l.place-index l.list));
  fits : AllByRecursion (λ p. IsPlace p.0 × IsVersion p.1) (drop l.place-index l.list) → AllByRecursion (λ p. IsPlace p.0 × IsVersion p.1) l.list;
}
