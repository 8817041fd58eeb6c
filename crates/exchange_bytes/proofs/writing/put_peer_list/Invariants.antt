use Rattle.std.proofs.Common.{◌≡◌, ◌++◌, drop, length, take}
use Rattle.std.specs.List.{AllByRecursion, flat_map}
use Rattle.byte_fields.specs.Spelling.{number}
use Rattle.exchange_bytes.specs.Spelling.{IsPeer, peer}
use Rattle.exchange_bytes.proofs.writing.put_peer_list.Given as goal

abbrev pub invariant-loop-it : goal.invariant-loop-it
invariant-loop-it l = record {
  written : l.out.items ≡ l.fn.out.items ++ (number (length l.list) ++ flat_map peer (take l.it-index l.list));
  fits : AllByRecursion IsPeer (drop l.it-index l.list) → AllByRecursion IsPeer l.list;
}
