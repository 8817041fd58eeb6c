-- Counts of failures over several calls.
use Rattle.std.proofs.Common.{◌+◌, ◌≤◌}
use Rattle.script_pipes.specs.{Failures.{count_with, FailedSince}, Prelude.{arith, cases_lt, nat_tests, true, ℕ, ⊎_elim}}

-- a count never decreases
pub count_with-le : (count : ℕ) → count ≤ count_with true count
count_with-le count = grind (arith, nat_tests)

pub count_with-le_succ : (count : ℕ) → count_with true count ≤ count + 1
count_with-le_succ count = grind (arith, nat_tests)

-- one more call failed
pub FailedSince-count_with : (count : ℕ) → FailedSince count (count_with true count)
FailedSince-count_with count = λ low. grind (arith, nat_tests)

-- a failure since a later moment is a failure since an earlier one
pub FailedSince-before : (old mid new : ℕ) → old ≤ mid → mid ≤ new → FailedSince mid new → FailedSince old new
FailedSince-before old mid new earlier later failed = λ low. ⊎_elim
    (λ below. omega (arith, failed below))
    (λ stopped. omega arith)
    (cases_lt mid 18446744073709551615)

-- a failure up to a moment is a failure up to a later one
pub FailedSince-then : (old mid new : ℕ) → FailedSince old mid → mid ≤ new → FailedSince old new
FailedSince-then old mid new failed later = λ low. omega (arith, failed low)
