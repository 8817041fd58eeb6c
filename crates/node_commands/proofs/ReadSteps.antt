-- Steps of reading a source to its end, within a limit.
use Rattle.std.proofs.Common.{◌++◌, ◌+◌, ◌<◌, ◌≡◌, ◌≤◌, ◌⊎◌, arith, inl, inr, length, length-append, List, Option, subst, sym, true, ℕ, ⊎_elim}
use Rattle.std.specs.Io.KnownBytes.{Consumes, Keeps}
use Rattle.script_pipes.specs.{Failures.{count_with, FailedSince}, FailuresLaws.{count_with-le, FailedSince-before, FailedSince-count_with}, KnownBytesLaws.{Consumes-append, Consumes-keeps}}

-- The state of the loop: the input so far was read, within the limits, and each turn that didn't fail returned a byte.
pub record IsReadTo (old now : Option (List ℕ)) (limit failures_before failures turn : ℕ) (input : List ℕ) : Type 0 where
  pub consumes : Consumes old now input
  pub within : length input ≤ limit
  pub kept : failures_before ≤ failures
  pub gave : FailedSince failures_before failures ⊎ (turn ≤ length input)

-- a read returned more bytes
pub read_more : (old now next : Option (List ℕ)) (limit failures_before failures failures_next turn : ℕ) (input bytes : List ℕ)
    → IsReadTo old now limit failures_before failures turn input → Consumes now next bytes → 0 < length bytes → length input + length bytes ≤ limit
    → failures_next ≡ failures → IsReadTo old next limit failures_before failures_next (turn + 1) (input ++ bytes)
read_more old now next limit failures_before failures failures_next turn input bytes so_far took some fits same =
    let long = length-append input bytes in
    record {
      consumes = Consumes-append old now next input bytes so_far.consumes took;
      within = omega (arith, long);
      kept = omega (arith, so_far.kept);
      gave = ⊎_elim
          (λ (failed : FailedSince failures_before failures). inl (subst (λ v. FailedSince failures_before v) (sym same) failed))
          (λ gave. inr (omega (arith, long, gave, some)))
          so_far.gave;
    }

-- a read was interrupted
pub read_again : (old now next : Option (List ℕ)) (limit failures_before failures failures_next turn : ℕ) (input : List ℕ)
    → IsReadTo old now limit failures_before failures turn input → Keeps now next → failures_next ≡ count_with true failures
    → IsReadTo old next limit failures_before failures_next (turn + 1) input
read_again old now next limit failures_before failures failures_next turn input so_far kept counted =
    let up = count_with-le failures in
    let failed = subst (λ v. FailedSince failures v) (sym counted) (FailedSince-count_with failures) in
    record {
      consumes = Consumes-keeps old now next input so_far.consumes kept;
      within = so_far.within;
      kept = omega (arith, so_far.kept, up, counted);
      gave = inl (FailedSince-before failures_before failures failures_next so_far.kept (omega (arith, up, counted)) failed);
    }
