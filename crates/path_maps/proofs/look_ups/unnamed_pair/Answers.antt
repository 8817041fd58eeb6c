use Rattle.std.proofs.Common.{◌==◌}
use Rattle.path_maps.proofs.{LookUps.{unnamed_nowhere}, Prelude.{[], ap, bytes_cmp, find, is_sorted, IsTrue, length, subst, ◌∙◌}}
use Rattle.path_maps.proofs.look_ups.unnamed_pair.Goals as goal

pub returns-else-is_empty : goal.returns-else-is_empty
returns-else-is_empty g c =
    let filled = c.if-is_empty.ensures in
    let sorted = subst (λ es. IsTrue (is_sorted bytes_cmp es)) c.in_ok-first.ensures.first c.requires.sorted in
    record {
      found =
          ap (find bytes_cmp []) c.in_ok-first.ensures.first
          ∙ unnamed_nowhere c.in_ok-first.first.now c.next.new.self sorted (λ named.
          let empty = ap (λ bytes. length bytes == 0) (c.as_slice.ensures.bytes ∙ named) in
          cc (filled, empty));
    }
