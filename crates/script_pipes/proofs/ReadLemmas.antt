-- Steps of reading a source to its end.
use Rattle.std.proofs.Common.{◌++◌, ◌+◌, ◌<◌, ◌≡◌, ◌≤◌, ◌⊎◌}
use Rattle.script_pipes.proofs.Prelude.{arith, Consumes, Consumes-append, Consumes-keeps, count_with, count_with-le, count_with-le_succ, FailedSince, FailedSince-before, FailedSince-count_with, inl, inr, Keeps, length, length-append, List, Option, subst, sym, true, ℕ, ⊎_elim}

-- The state of the loop: the script so far was read, within the limits, and each turn that didn't fail returned a byte.
pub record IsReadTo (old now : Option (List ℕ)) (reads_before reads failures_before failures turn : ℕ) (script : List ℕ) : Type 0 where
  pub consumes : Consumes old now script
  pub within : length script ≤ 16777216
  pub asked : reads ≤ reads_before + turn
  pub kept : failures_before ≤ failures
  pub gave : FailedSince failures_before failures ⊎ (turn ≤ length script)

-- a read returned more bytes
pub read_more : (old now next : Option (List ℕ)) (reads_before reads reads_next failures_before failures failures_next turn : ℕ) (script bytes : List ℕ)
    → IsReadTo old now reads_before reads failures_before failures turn script → Consumes now next bytes → 0 < length bytes → length script + length bytes ≤ 16777216
    → reads_next ≡ count_with true reads → failures_next ≡ failures → IsReadTo old next reads_before reads_next failures_before failures_next (turn + 1) (script ++ bytes)
read_more old now next reads_before reads reads_next failures_before failures failures_next turn script bytes so_far took some fits asked same =
    let long = length-append script bytes in
    record {
      consumes = Consumes-append old now next script bytes so_far.consumes took;
      within = omega (arith, long);
      asked = omega (arith, so_far.asked, asked, count_with-le_succ reads);
      kept = omega (arith, so_far.kept);
      gave = ⊎_elim
          (λ (failed : FailedSince failures_before failures). inl (subst (λ v. FailedSince failures_before v) (sym same) failed))
          (λ gave. inr (omega (arith, long, gave)))
          so_far.gave;
    }

-- a read was interrupted
pub read_again : (old now next : Option (List ℕ)) (reads_before reads reads_next failures_before failures failures_next turn : ℕ) (script : List ℕ)
    → IsReadTo old now reads_before reads failures_before failures turn script → Keeps now next → reads_next ≡ count_with true reads → failures_next ≡ count_with true failures
    → IsReadTo old next reads_before reads_next failures_before failures_next (turn + 1) script
read_again old now next reads_before reads reads_next failures_before failures failures_next turn script so_far kept asked counted =
    let up = count_with-le failures in
    let failed = subst (λ v. FailedSince failures v) (sym counted) (FailedSince-count_with failures) in
    record {
      consumes = Consumes-keeps old now next script so_far.consumes kept;
      within = so_far.within;
      asked = omega (arith, so_far.asked, asked, count_with-le_succ reads);
      kept = omega (arith, so_far.kept, up, counted);
      gave = inl (FailedSince-before failures_before failures failures_next so_far.kept (omega (arith, up, counted)) failed);
    }
