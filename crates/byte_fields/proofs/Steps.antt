-- One byte of a number.
use Rattle.std.proofs.Common.{◌≡◌, ℕ, zero, suc, ◌+◌, ◌-◌, ◌%◌, ◌/◌, ◌<◌, ◌≤◌, List, [], ◌∷◌, Err, refl, ap, arith}
use Rattle.std.proofs.lemmas.Bool.{le-ltb, lt-ltb}
use Rattle.byte_fields.specs.declared.faults.SpellingFault.TheVariants.{Number}
use Rattle.byte_fields.specs.Spelling.{number_within}
use Rattle.byte_fields.specs.Reading.{◌>>=◌, byte_at, from_low, number_at_most}

pub no_bytes : (bytes : List ℕ) → number_at_most 0 bytes ≡ Err Number
unfolding number_at_most
no_bytes bytes = refl

pub more_bytes : (most : ℕ) (bytes : List ℕ) → 0 < most → number_at_most most bytes ≡ (byte_at bytes >>= from_low (number_at_most (most - 1)))
unfolding number_at_most
more_bytes zero bytes lt = absurd (omega arith)
more_bytes (suc k) bytes lt = ap (λ j. byte_at bytes >>= from_low (number_at_most j)) (omega arith)

pub no_byte : (n : ℕ) → number_within 0 n ≡ []
unfolding number_within
no_byte n = refl

pub last_byte : (most n : ℕ) → 0 < most → n < 128 → number_within most n ≡ n ∷ []
unfolding number_within
last_byte zero n some lt = absurd (omega arith)
last_byte (suc k) n some lt = let few = lt-ltb n 128 lt in rw few refl

pub next_byte : (most less n : ℕ) → most ≡ suc less → 128 ≤ n → number_within most n ≡ (n % 128 + 128) ∷ number_within less (n / 128)
unfolding number_within
next_byte zero less n e le = absurd (omega arith)
next_byte (suc k) less n e le =
    let many = le-ltb n 128 le in
    let same : k ≡ less = omega arith in
    rw (many, same) refl
