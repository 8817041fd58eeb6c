-- One step of reading a number.
use Rattle.std.proofs.Common.{◌*◌, ◌+◌, ◌-◌, ◌<◌, ◌^◌, ◌≡◌, ◌≤◌}
use Rattle.script_words.proofs.Prelude.{add-one, arith, cases_Bool, digit_value, false, get_or, is_ascii_digit, length, List, list_all, list_all_at, nat_tests, pow-suc, sym, true, true≢false, ℕ, ⊎_elim, ◌∙◌}

-- each element of a list of digits is a digit
pub digit_at : (digits : List ℕ) (i : ℕ) → list_all is_ascii_digit digits ≡ true → i < length digits → (48 ≤ get_or digits i 0) × (get_or digits i 0 ≤ 57)
digit_at digits i all lt = ⊎_elim
    (λ (is : is_ascii_digit (get_or digits i 0) ≡ true). (grind (arith, nat_tests), grind (arith, nat_tests)))
    (λ (no : is_ascii_digit (get_or digits i 0) ≡ false). absurd (true≢false (sym all ∙ list_all_at is_ascii_digit digits i 0 lt no)))
    (cases_Bool (is_ascii_digit (get_or digits i 0)))

pub digit_value_at : (b : ℕ) → 48 ≤ b → b ≤ 57 → digit_value b ≡ b - 48
digit_value_at b low high = grind (arith, nat_tests)

-- one more digit is one more power of ten
pub below_power : (value d i : ℕ) → value < 10 ^ i → d ≤ 9 → value * 10 + d < 10 ^ (i + 1)
below_power value d i small digit = rw (add-one, pow-suc) (omega arith)
