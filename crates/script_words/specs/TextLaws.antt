-- A text spells at most one list of bytes, which is found byte by byte from the left, and any bytes can be spelled.
use Rattle.std.proofs.Common.{◌++◌, ◌==◌, ◌∷◌, ◌≡◌, ◌≢◌}
use Rattle.script_words.specs.Prelude.{[], AllByRecursion, and_from, ap, cases_Bool, cond-false, cond-true, digit_value, eqb-false, eqb-true, false, List, lt-ltb, ne_eqb, None, refl, Some, subst, sym, true, ℕ, ⊎_elim, ◌∙◌}
use Rattle.script_words.specs.Text.{backslash, byte_read, IsSpelling, itself, line_feed, Spells, tab, two_digits, with_doubled}

-- a spelling is read as its byte, whatever follows it
pub byte_read-spelling : (part rest : List ℕ) (byte : ℕ) → IsSpelling part byte → byte_read (part ++ rest) ≡ Some (byte, rest)
byte_read-spelling part rest byte (itself is plain) = ap (λ v. byte_read (v ++ rest)) is ∙ cond-false _ _ _ (ne_eqb byte 92 plain)
byte_read-spelling part rest byte (line_feed is named) = ap (λ v. byte_read (v ++ rest)) is ∙ ap (λ b. Some (b, rest)) (sym named)
byte_read-spelling part rest byte (tab is named) = ap (λ v. byte_read (v ++ rest)) is ∙ ap (λ b. Some (b, rest)) (sym named)
byte_read-spelling part rest byte (backslash is named) = ap (λ v. byte_read (v ++ rest)) is ∙ ap (λ b. Some (b, rest)) (sym named)
byte_read-spelling part rest byte (two_digits high low is h l named) =
    ap (λ v. byte_read (v ++ rest)) is
    ∙ cond-true _ _ _ (and_from _ _ (lt-ltb (digit_value high) 16 h) (lt-ltb (digit_value low) 16 l))
    ∙ ap (λ b. Some (b, rest)) (sym named)

pub same_read : (p q : ℕ × List ℕ) → Some p ≡ Some q → p ≡ q
same_read p q e = cc

pub none_read : (p : ℕ × List ℕ) → None ≡ Some p → ⊥
none_read p e = cc

-- The bytes that a text spells are the byte that is read first, and those that the rest spells.
pub spells_read : (text rest bytes : List ℕ) (byte : ℕ) → byte_read text ≡ Some (byte, rest) → Spells text bytes
    → (later : List ℕ) × (bytes ≡ byte ∷ later) × Spells rest later
unfolding Spells
spells_read text rest [] byte read spells = absurd (none_read (byte, rest) (sym (ap byte_read spells) ∙ read))
spells_read text rest (b ∷ bytes) byte read spells =
    let same = same_read (b, spells.1) (byte, rest) (sym (byte_read-spelling spells.0 spells.1 b spells.3) ∙ sym (ap byte_read spells.2) ∙ read) in
    let first : b ≡ byte = ap (λ (p : ℕ × List ℕ). p.0) same in
    let after : spells.1 ≡ rest = ap (λ (p : ℕ × List ℕ). p.1) same in
    (bytes, ap (λ v. v ∷ bytes) first, subst (λ v. Spells v bytes) after spells.4)

-- If no byte can be read from a text, it spells nothing, unless it is empty.
pub spells_none : (text : List ℕ) (byte : ℕ) (bytes : List ℕ) → byte_read text ≡ None → Spells text (byte ∷ bytes) → ⊥
unfolding Spells
spells_none text byte bytes read spells =
    none_read (byte, spells.1) (sym read ∙ ap byte_read spells.2 ∙ byte_read-spelling spells.0 spells.1 byte spells.3)

-- A text spells at most one list of bytes.
pub spells_one : (text first second : List ℕ) → Spells text first → Spells text second → first ≡ second
unfolding Spells
spells_one text [] [] p q = refl
spells_one text [] (b ∷ second) p q = absurd (none_read (b, q.1) (sym (ap byte_read p) ∙ ap byte_read q.2 ∙ byte_read-spelling q.0 q.1 b q.3))
spells_one text (b ∷ first) second p q =
    let cut = spells_read text p.1 second b (ap byte_read p.2 ∙ byte_read-spelling p.0 p.1 b p.3) q in
    ap (λ v. b ∷ v) (spells_one p.1 first cut.0 p.4 cut.2) ∙ sym cut.1

-- A text without a backslash spells itself.
pub spells_plain : (bytes : List ℕ) → AllByRecursion (λ b. b ≢ 92) bytes → Spells bytes bytes
unfolding Spells
spells_plain [] plain = refl
spells_plain (b ∷ bytes) plain = (b ∷ [], bytes, refl, itself refl plain.0, spells_plain bytes plain.1)

-- Bytes with each backslash doubled spell the original bytes.
pub spells_doubled : (bytes : List ℕ) → Spells (with_doubled bytes) bytes
unfolding Spells
spells_doubled [] = refl
spells_doubled (b ∷ bytes) = ⊎_elim
    (λ (is : (b == 92) ≡ true). let part = cond-true _ (92 ∷ 92 ∷ []) (b ∷ []) is in (_, with_doubled bytes, refl, backslash part (eqb-true b 92 is), spells_doubled bytes))
    (λ (is : (b == 92) ≡ false). let part = cond-false _ (92 ∷ 92 ∷ []) (b ∷ []) is in (_, with_doubled bytes, refl, itself part (eqb-false b 92 is), spells_doubled bytes))
    (cases_Bool (b == 92))
