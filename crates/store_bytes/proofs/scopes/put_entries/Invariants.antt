use Rattle.std.proofs.Common.{◌≡◌, ◌++◌, drop, length, take}
use Rattle.std.specs.List.{AllByRecursion, flat_map}
use Rattle.byte_fields.specs.Spelling.{number}
use Rattle.load_path.specs.Paths.{IsPath}
use Rattle.store_bytes.specs.ListSpelling.{pair}
use Rattle.store_bytes.specs.Parts.{by_path}
use Rattle.store_bytes.specs.Spelling.{entry, IsEntry, path}
use Rattle.store_bytes.proofs.scopes.put_entries.Given as goal

abbrev pub invariant-loop-place : goal.invariant-loop-place
invariant-loop-place l = record {
  written : l.out.items ≡ l.fn.out.items ++ (number (length l.own) ++ flat_map (pair path entry) (by_path (take l.place-index l.own)));
  fits : AllByRecursion (λ p. IsPath p.0 × IsEntry p.1) (by_path (drop l.place-index l.own)) → AllByRecursion (λ p. IsPath p.0 × IsEntry p.1) (by_path l.own);
}
