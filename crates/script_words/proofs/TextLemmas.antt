-- Steps of reading a text.
use Rattle.std.proofs.Common.{◌++◌, ◌+◌, ◌<◌, ◌==◌, ◌∷◌, ◌≡◌, ◌≢◌, ◌⊎◌}
use Rattle.script_words.proofs.Prelude.{[], All-take_before, AllByRecursion, and_parts, ap, append-nil, append_assoc, arith, backslash, Bool, byte_read, cond, cond-false, cut_around, drop, eqb-false, eqb-true, escape_read, false, get_or, hex_read, inl, inr, IsBadText, IsSpelling, itself, length, line_feed, List, ltb-true, ne_eqb, None, none_read, recursion_from_All, refl, same_read, Some, spells_none, spells_read, subst, sym, tab, take, take_all, true, two_digits, ℕ, ⊎_elim, ◌∙◌}
use Rattle.script_words.specs.Text.{Spells}

by_test : {A : Type 0} (t : Bool) (x y z : A) → cond t x y ≡ z → ((t ≡ true) × (x ≡ z)) ⊎ ((t ≡ false) × (y ≡ z))
by_test true x y z e = inl (refl, e)
by_test false x y z e = inr (refl, e)

-- `front` followed by the text begins with a spelling of the byte, and the rest follows
abbrev Begins : List ℕ → List ℕ → List ℕ → ℕ → Type 0
Begins front text rest byte = (part : List ℕ) × (front ++ text ≡ part ++ rest) × IsSpelling part byte

hex_begins : (text rest : List ℕ) (byte : ℕ) → hex_read text ≡ Some (byte, rest) → Begins (92 ∷ 120 ∷ []) text rest byte
hex_begins [] rest byte read = absurd (none_read _ read)
hex_begins (high ∷ []) rest byte read = absurd (none_read _ read)
hex_begins (high ∷ low ∷ text) rest byte read = ⊎_elim
    (λ t.
    let digits = and_parts _ _ t.0 in
    let same = same_read _ _ t.1 in (
      92 ∷ 120 ∷ high ∷ low ∷ [],
      ap (λ (p : ℕ × List ℕ). 92 ∷ 120 ∷ high ∷ low ∷ p.1) same,
      two_digits high low refl (ltb-true _ _ digits.0) (ltb-true _ _ digits.1) (sym (ap (λ (p : ℕ × List ℕ). p.0) same)),
    ))
    (λ t. absurd (none_read _ t.1))
    (by_test _ _ _ _ read)

-- both are the result of one read
abbrev AreReadAlike : ℕ × List ℕ → ℕ × List ℕ → Type 0
AreReadAlike p q = Some p ≡ Some q

-- a letter that stands for a byte
letter_begins : (letter name byte code : ℕ) (text rest : List ℕ) → (letter == name) ≡ true → AreReadAlike (code, text) (byte, rest) → (92 ∷ letter ∷ text ≡ 92 ∷ name ∷ rest) × (byte ≡ code)
letter_begins letter name byte code text rest is read =
    let same = same_read (code, text) (byte, rest) read in (
      ap (λ v. 92 ∷ v ∷ text) (eqb-true letter name is) ∙ ap (λ (p : ℕ × List ℕ). 92 ∷ name ∷ p.1) same,
      sym (ap (λ (p : ℕ × List ℕ). p.0) same),
    )

escape_begins : (text rest : List ℕ) (byte : ℕ) → escape_read text ≡ Some (byte, rest) → Begins (92 ∷ []) text rest byte
escape_begins [] rest byte read = absurd (none_read _ read)
escape_begins (letter ∷ text) rest byte read = ⊎_elim
    (λ t. let named = letter_begins letter 110 byte 10 text rest t.0 t.1 in (92 ∷ 110 ∷ [], named.0, line_feed refl named.1))
    (λ t. ⊎_elim
    (λ t. let named = letter_begins letter 116 byte 9 text rest t.0 t.1 in (92 ∷ 116 ∷ [], named.0, tab refl named.1))
    (λ t. ⊎_elim
    (λ t. let named = letter_begins letter 92 byte 92 text rest t.0 t.1 in (92 ∷ 92 ∷ [], named.0, backslash refl named.1))
    (λ t. ⊎_elim
    (λ t. let begins = hex_begins text rest byte t.1 in (begins.0, ap (λ v. 92 ∷ v ∷ text) (eqb-true letter 120 t.0) ∙ begins.1, begins.2))
    (λ t. absurd (none_read _ t.1))
    (by_test _ _ _ _ t.1))
    (by_test _ _ _ _ t.1))
    (by_test _ _ _ _ t.1))
    (by_test _ _ _ _ read)

byte_begins : (text rest : List ℕ) (byte : ℕ) → byte_read text ≡ Some (byte, rest) → Begins [] text rest byte
byte_begins [] rest byte read = absurd (none_read _ read)
byte_begins (b ∷ text) rest byte read = ⊎_elim
    (λ t. let begins = escape_begins text rest byte t.1 in (begins.0, ap (λ v. v ∷ text) (eqb-true b 92 t.0) ∙ begins.1, begins.2))
    (λ t.
    let same = same_read (b, text) (byte, rest) t.1 in
    let first : b ≡ byte = ap (λ (p : ℕ × List ℕ). p.0) same in (
      b ∷ [],
      ap (λ (p : ℕ × List ℕ). b ∷ p.1) same,
      itself (ap (λ v. v ∷ []) first) (λ is. eqb-false b 92 t.0 (first ∙ is)),
    ))
    (by_test _ _ _ _ read)

-- The text spells exactly the bytes read so far, followed by what the rest spells.
pub record IsReadTo (text done rest : List ℕ) : Type 0 where
  pub joins : (bytes : List ℕ) → Spells rest bytes → Spells text (done ++ bytes)
  pub parts : (bytes : List ℕ) → Spells text bytes → (later : List ℕ) × (bytes ≡ done ++ later) × Spells rest later

pub read_none : (text : List ℕ) → IsReadTo text [] text
read_none text = record { joins = λ bytes s. s; parts = λ bytes s. (bytes, refl, s) }

pub read_more : (text done rest after : List ℕ) (byte : ℕ) → IsReadTo text done rest → byte_read rest ≡ Some (byte, after) → IsReadTo text (done ++ byte ∷ []) after
unfolding Spells
read_more text done rest after byte so_far read =
    let begins = byte_begins rest after byte read in
    record {
      joins = λ bytes s. subst (λ v. Spells text v) (sym (append_assoc done (byte ∷ []) bytes)) (so_far.joins (byte ∷ bytes) (begins.0, after, begins.1, begins.2, s));
      parts = λ bytes s.
          let later = so_far.parts bytes s in
          let cut = spells_read rest after later.0 byte read later.2 in
          (cut.0, later.1 ∙ ap (λ v. done ++ v) cut.1 ∙ sym (append_assoc done (byte ∷ []) cut.0), cut.2);
    }

-- bytes without a backslash are read as they stand
read_plain : (text done front back : List ℕ) → AllByRecursion (λ b. b ≢ 92) front → IsReadTo text done (front ++ back) → IsReadTo text (done ++ front) back
read_plain text done [] back plain so_far = rw append-nil so_far
read_plain text done (b ∷ front) back plain so_far =
    let one = read_more text done (b ∷ front ++ back) (front ++ back) b so_far (cond-false _ _ _ (ne_eqb b 92 plain.0)) in
    subst (λ v. IsReadTo text v back) (append_assoc done (b ∷ []) front) (read_plain text (done ++ b ∷ []) front back plain.1 one)

-- the bytes before a text's first backslash
pub read_before : (text done rest : List ℕ) (at : ℕ) → at < length rest → get_or rest at 0 ≡ 92 → ((k : ℕ) → k < at → get_or rest k 0 ≢ 92) → IsReadTo text done rest
    → IsReadTo text (done ++ take at rest) (92 ∷ drop (at + 1) rest)
read_before text done rest at lt is before so_far =
    read_plain text done (take at rest) (92 ∷ drop (at + 1) rest)
    (recursion_from_All (λ b. b ≢ 92) (take at rest) (All-take_before (λ b. b ≢ 92) rest at (omega (arith, lt)) before))
    (subst (λ v. IsReadTo text done v) (cut_around rest at 92 lt is) so_far)

-- The text ends without another backslash.
pub read_all : (text done rest : List ℕ) → ((k : ℕ) → k < length rest → get_or rest k 0 ≢ 92) → IsReadTo text done rest → Spells text (done ++ rest)
unfolding Spells
read_all text done rest plain so_far =
    let all = subst (λ v. AllByRecursion (λ b. b ≢ 92) v) (take_all (length rest) rest (omega arith))
    (recursion_from_All (λ b. b ≢ 92) (take (length rest) rest) (All-take_before (λ b. b ≢ 92) rest (length rest) (omega arith) plain)) in
    let end = read_plain text done rest [] all (subst (λ v. IsReadTo text done v) (sym (append-nil rest)) so_far) in
    subst (λ v. Spells text v) (append-nil (done ++ rest)) (end.joins [] refl)

pub read_bad : (text done rest : List ℕ) → IsReadTo text done rest → 0 < length rest → byte_read rest ≡ None → IsBadText text
unfolding Spells
read_bad text done rest so_far some read = λ bytes s. bad (so_far.parts bytes s).0 (so_far.parts bytes s).2
  where
    empty : Spells rest [] → ⊥
    empty end = omega (arith, ap length end)

    bad : (later : List ℕ) → Spells rest later → ⊥
    bad [] s = empty s
    bad (b ∷ later) s = spells_none rest b later read s
