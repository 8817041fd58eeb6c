-- The parts of a line, as searches find them.
use Rattle.std.proofs.Common.{◌&&◌, ◌+◌, ◌<◌, ◌≡◌}
use Rattle.section_reader.proofs.Prelude.{and_from, ap, arith, Bool, cond-false, cond-true, drop, false, get_or, is_equals, key_in, le-ltb, length, List, lt-ltb, ltb, None, position_or_len, position_or_len_is, refl, Some, take, trimmed, true, value_in, ℕ, ◌∙◌}
use Rattle.section_reader.specs.Parts.{pair_of}

not_so : (b : Bool) → (b ≡ true → ⊥) → b ≡ false
not_so true none = absurd (none refl)
not_so false none = refl

pub and_nothing : (a b : Bool) → b ≡ false → (a && b) ≡ false
and_nothing true b is = is
and_nothing false b is = refl

-- the first equals sign is here
equals_at : (text : List ℕ) (at : ℕ) → at < length text → is_equals (get_or text at 0) ≡ true → ((k : ℕ) → k < at → is_equals (get_or text k 0) ≡ true → ⊥) → position_or_len is_equals text ≡ at
equals_at text at lt is none = position_or_len_is is_equals text at 0 (omega arith) (λ k h. not_so _ (none k h)) (λ h. is)

-- there is no equals sign
pub pair_of-plain : (text : List ℕ) → ((k : ℕ) → k < length text → is_equals (get_or text k 0) ≡ true → ⊥) → pair_of text ≡ None
unfolding pair_of
pair_of-plain text none =
    let place : position_or_len is_equals text ≡ length text = position_or_len_is is_equals text (length text) 0 (omega arith) (λ k h. not_so _ (none k h)) (λ h. absurd (omega arith)) in
    let past : ltb (position_or_len is_equals text) (length text) ≡ false = le-ltb _ _ (omega arith) in
    cond-false _ _ _ (ap (λ b. b && ltb 0 (length (key_in text))) past)

-- the key before the first equals sign is empty
pub pair_of-keyless : (text : List ℕ) (at : ℕ) → at < length text → is_equals (get_or text at 0) ≡ true → ((k : ℕ) → k < at → is_equals (get_or text k 0) ≡ true → ⊥)
    → length (trimmed (take at text)) ≡ 0 → pair_of text ≡ None
unfolding pair_of
pair_of-keyless text at lt is none empty =
    let place = equals_at text at lt is none in
    let key : key_in text ≡ trimmed (take at text) = ap (λ n. trimmed (take n text)) place in
    let short : ltb 0 (length (key_in text)) ≡ false = le-ltb _ _ (omega (arith, ap length key)) in
    cond-false _ _ _ (and_nothing _ _ short)

-- the key and the value are on both sides of the first equals sign
pub pair_of-both : (text : List ℕ) (at : ℕ) → at < length text → is_equals (get_or text at 0) ≡ true → ((k : ℕ) → k < at → is_equals (get_or text k 0) ≡ true → ⊥)
    → 0 < length (trimmed (take at text)) → pair_of text ≡ Some (trimmed (take at text), trimmed (drop (at + 1) text))
unfolding pair_of
pair_of-both text at lt is none some =
    let place = equals_at text at lt is none in
    let key : key_in text ≡ trimmed (take at text) = ap (λ n. trimmed (take n text)) place in
    let value : value_in text ≡ trimmed (drop (at + 1) text) = ap (λ n. trimmed (drop (n + 1) text)) place in
    let test = and_from _ _ (lt-ltb (position_or_len is_equals text) (length text) (omega arith)) (lt-ltb 0 (length (key_in text)) (omega (arith, ap length key))) in
    cond-true _ _ _ test ∙ ap (λ k. Some (k, value_in text)) key ∙ ap (λ v. Some (trimmed (take at text), v)) value
