-- Numbers written in decimal are read back.
use Rattle.std.proofs.Common.{◌++◌, ◌+◌, ◌<◌, ◌^◌, ◌≡◌, ◌≤◌}
use Rattle.script_words.specs.Prelude.{and_from, ap, arith, cond-true, decimal, decimal_nonempty, digits_decimal, digits_value, digits_value-decimal, is_ascii_digit, IsDigitsTest, IsNumeralModel, le-leb, length, length-append, length-replicate, List, list_all, lt-ltb, numerals_by_value, refl, replicate, rules, Some, suc, true, zero, ℕ, ◌∙◌}
use Rattle.script_words.specs.Numbers.{is_number, number_of}

-- each byte is a decimal digit
abbrev AreDigits : List ℕ → Type 0
AreDigits digits = list_all is_ascii_digit digits ≡ true

tells_digits : IsDigitsTest AreDigits
tells_digits = search rules

own : IsNumeralModel AreDigits (digits_value 10)
own = numerals_by_value _ tells_digits

zeros_are_digits : (k : ℕ) (digits : List ℕ) → AreDigits digits → AreDigits (replicate k 48 ++ digits)
zeros_are_digits zero digits all = all
zeros_are_digits (suc k) digits all = zeros_are_digits k digits all

digits_value-zeros : (k : ℕ) (digits : List ℕ) → digits_value 10 (replicate k 48 ++ digits) ≡ digits_value 10 digits
digits_value-zeros zero digits = refl
digits_value-zeros (suc k) digits = digits_value-zeros k digits

-- A number below 2^32 written in decimal is read back, even with leading zeros, up to 10 digits.
pub number_of-decimal : (n k : ℕ) → n < 2 ^ 32 → k + length (decimal n) ≤ 10 → number_of (replicate k 48 ++ decimal n) ≡ Some n
unfolding number_of
number_of-decimal n k small fits =
    let word = replicate k 48 ++ decimal n in
    let long : length word ≡ k + length (decimal n) = length-append (replicate k 48) (decimal n) ∙ ap (λ m. m + length (decimal n)) (length-replicate k 48) in
    let some = decimal_nonempty n (omega arith) in
    let value : digits_value 10 word ≡ n = digits_value-zeros k (decimal n) ∙ digits_value-decimal own n (omega arith) in
    let digits = zeros_are_digits k (decimal n) (digits_decimal own n (omega arith)) in
    let is : is_number word ≡ true =
    and_from _ _ (and_from _ _ (and_from _ _ (lt-ltb 0 (length word) (omega arith)) (le-leb (length word) 10 (omega arith))) digits) (le-leb (digits_value 10 word) 4294967295 (omega arith)) in
    cond-true _ _ _ is ∙ ap Some value
