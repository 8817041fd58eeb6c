-- Laws of escaping: unescaping the escaped bytes gives them back, and escaped bytes are allowed in names.
use Rattle.std.proofs.{Common.{◌%◌, ◌&&◌, ◌*◌, ◌++◌, ◌+◌, ◌/◌, ◌<◌, ◌==◌, ◌||◌, ◌∷◌, ◌≡◌}, lemmas.Bool.{lt-ltb}}
use Rattle.unit_name.specs.Prelude.{[], agree_below_at, All, All-head, All-tail, and_from, and_parts, ap, arith, Bool, cond, cond-false, cond-true, digit_char, digit_value, eqb, eqb-true, false, flat_map, is_ascii_alphanumeric, List, list_all, ltb, None, not, or_left, or_right, refl, same_Some, Some, sym, true, true≢false, ℕ, ◌∙◌}
use Rattle.unit_name.specs.{Escapes.{escape, escaped_byte, escaped_first, hex_byte, hex_escape, is_kept, put_first, unescape, unescaped_byte, unescaped_four}, Forms.{is_instance}, Names.{is_dot, is_empty, is_name_byte}, PartLaws.{all_append}}

abbrev pub IsByte : ℕ → Type 0
IsByte b = b < 256

abbrev pub AreBytes : List ℕ → Type 0
AreBytes v = All IsByte v

-- unescaping what `escape` returns gives the original bytes
abbrev pub EscapesAreUndone : Type 0
EscapesAreUndone = (v : List ℕ) → AreBytes v → unescape (escape v) ≡ Some v

-- so different bytes are escaped differently
abbrev pub EscapesDiffer : Type 0
EscapesDiffer = (v w : List ℕ) → AreBytes v → AreBytes w → escape v ≡ escape w → v ≡ w

-- a letter, a digit, or one of : _ . \ -
abbrev pub is_spelling : ℕ → Bool
is_spelling b = is_kept b || b == 92 || b == 45

-- the first byte, if any, isn't a dot
abbrev pub begins_without_dot : List ℕ → Bool
begins_without_dot [] = true
begins_without_dot (b ∷ bs) = not (is_dot b)

-- escaped text has only letters, digits and : _ . \ - and doesn't begin with a dot
pub record IsSpelling (s : List ℕ) : Type 0 where
  pub bytes : list_all is_spelling s ≡ true
  pub begins : begins_without_dot s ≡ true

abbrev pub EscapesAreSpellings : Type 0
EscapesAreSpellings = (v : List ℕ) → AreBytes v → IsSpelling (escape v)

-- escaped text is allowed as an instance
abbrev pub EscapesAreInstances : Type 0
EscapesAreInstances = (v : List ℕ) → AreBytes v → is_empty v ≡ false → is_instance (escape v) ≡ true

-- a byte other than a backslash is unescaped by itself
pub unescape-byte : (b : ℕ) (bs : List ℕ) → (b == 92) ≡ false → unescape (b ∷ bs) ≡ put_first (unescaped_byte b) (unescape bs)
unfolding unescape
unescape-byte b [] h = refl
unescape-byte b (x ∷ []) h = refl
unescape-byte b (x ∷ h ∷ []) e = refl
unescape-byte b (x ∷ h ∷ l ∷ rest) e = cond-false (b == 92) _ _ e

-- a backslash is unescaped together with the three bytes after it
pub unescape-backslash : (x h l : ℕ) (rest : List ℕ) → unescape (92 ∷ x ∷ h ∷ l ∷ rest) ≡ put_first (unescaped_four x h l) (unescape rest)
unfolding unescape
unescape-backslash x h l rest = refl

pub unescape-nil : unescape [] ≡ Some []
unfolding unescape
unescape-nil = refl

-- the sixteen digits
digit_is_read : (d : ℕ) → d < 16 → eqb (digit_value (digit_char d)) d ≡ true
digit_is_read d h = agree_below_at (λ n. eqb (digit_value (digit_char n)) n) (λ n. true) 16 d refl h

digit_value-digit_char : (d : ℕ) → d < 16 → digit_value (digit_char d) ≡ d
digit_value-digit_char d h = eqb-true _ _ (digit_is_read d h)

hex_byte_of : (b : ℕ) → b < 256 → hex_byte (digit_char (b / 16)) (digit_char (b % 16)) ≡ Some b
hex_byte_of b h =
    let high : b / 16 < 16 = omega arith in
    let low : b % 16 < 16 = omega arith in
    let p = digit_value-digit_char (b / 16) high in
    let q = digit_value-digit_char (b % 16) low in
    let sum : 16 * (b / 16) + b % 16 ≡ b = omega arith in
    ap (λ d. cond (ltb d 16 && ltb (digit_value (digit_char (b % 16))) 16) (Some (16 * d + digit_value (digit_char (b % 16)))) None) p
    ∙ ap (λ d. cond (ltb (b / 16) 16 && ltb d 16) (Some (16 * (b / 16) + d)) None) q
    ∙ cond-true _ _ _ (and_from _ _ (lt-ltb _ _ high) (lt-ltb _ _ low))
    ∙ ap (λ n. Some n) sum

unescape-hex : (b : ℕ) (rest : List ℕ) → b < 256 → unescape (hex_escape b ++ rest) ≡ put_first (Some b) (unescape rest)
unfolding hex_escape
unescape-hex b rest h = unescape-backslash 120 _ _ rest ∙ ap (λ o. put_first o (unescape rest)) (hex_byte_of b h)

-- a byte that fails a test differs from one that passes
differs : (q : ℕ → Bool) (b k : ℕ) → q b ≡ true → q k ≡ false → (b == k) ≡ false
differs q b k h e = step (b == k) refl
  where
    step : (t : Bool) → (b == k) ≡ t → t ≡ false
    step true f = absurd (true≢false (sym h ∙ ap q (eqb-true b k f) ∙ e))
    step false f = refl

no_backslash : is_kept 92 ≡ false
unfolding is_kept
no_backslash = refl

no_dash : is_kept 45 ≡ false
unfolding is_kept
no_dash = refl

unescape-kept : (b : ℕ) (rest : List ℕ) → is_kept b ≡ true → unescape (b ∷ rest) ≡ put_first (Some b) (unescape rest)
unescape-kept b rest h =
    let other = differs is_kept b 92 h no_backslash in
    unescape-byte b rest other ∙ ap (λ o. put_first o (unescape rest)) (cond-false _ _ _ other ∙ cond-false _ _ _ (differs is_kept b 45 h no_dash))

unescape-escaped : (b : ℕ) (rest : List ℕ) → b < 256 → unescape (escaped_byte b ++ rest) ≡ put_first (Some b) (unescape rest)
unfolding escaped_byte
unescape-escaped b rest h = step (b == 47) (is_kept b) refl refl
  where
    step : (t u : Bool) → (b == 47) ≡ t → is_kept b ≡ u
        → unescape (cond t (45 ∷ []) (cond u (b ∷ []) (hex_escape b)) ++ rest) ≡ put_first (Some b) (unescape rest)
    step true u e f = unescape-byte 45 rest refl ∙ ap (λ n. put_first (Some n) (unescape rest)) (sym (eqb-true b 47 e))
    step false true e f = unescape-kept b rest f
    step false false e f = unescape-hex b rest h

unescape-first : (b : ℕ) (rest : List ℕ) → b < 256 → unescape (escaped_first b ++ rest) ≡ put_first (Some b) (unescape rest)
unescape-first b rest h = step (b == 46)
  where
    step : (t : Bool) → unescape (cond t (hex_escape b) (escaped_byte b) ++ rest) ≡ put_first (Some b) (unescape rest)
    step true = unescape-hex b rest h
    step false = unescape-escaped b rest h

unescape-others : (v : List ℕ) → AreBytes v → unescape (flat_map escaped_byte v) ≡ Some v
unescape-others [] h = unescape-nil
unescape-others (b ∷ v) h =
    unescape-escaped b (flat_map escaped_byte v) (All-head IsByte b v h) ∙ ap (put_first (Some b)) (unescape-others v (All-tail IsByte b v h))

pub escapes_are_undone : EscapesAreUndone
unfolding escape
escapes_are_undone [] h = unescape-nil
escapes_are_undone (b ∷ v) h =
    unescape-first b (flat_map escaped_byte v) (All-head IsByte b v h) ∙ ap (put_first (Some b)) (unescape-others v (All-tail IsByte b v h))

pub escapes_differ : EscapesDiffer
escapes_differ v w h k e = same_Some v w (sym (escapes_are_undone v h) ∙ ap unescape e ∙ escapes_are_undone w k)

-- the bytes of escaped text
kept_spells : (b : ℕ) → is_kept b ≡ true → is_spelling b ≡ true
kept_spells b h = or_left _ _ (or_left _ _ h)

digit_kept : (d : ℕ) → d < 16 → is_kept (digit_char d) ≡ true
unfolding is_kept
digit_kept d h = agree_below_at (λ n. is_ascii_alphanumeric (digit_char n) || digit_char n == 58 || digit_char n == 95 || digit_char n == 46) (λ n. true) 16 d refl h

letter_kept : is_kept 120 ≡ true
unfolding is_kept
letter_kept = refl

hex_spells : (b : ℕ) → b < 256 → list_all is_spelling (hex_escape b) ≡ true
unfolding hex_escape
hex_spells b h =
    let high : b / 16 < 16 = omega arith in
    let low : b % 16 < 16 = omega arith in
    let digits = and_from _ _ (kept_spells _ (digit_kept _ high)) (and_from _ true (kept_spells _ (digit_kept _ low)) refl) in
    and_from _ _ (or_left (is_kept 92 || true) _ (or_right (is_kept 92) true refl)) (and_from _ _ (kept_spells 120 letter_kept) digits)

escaped_spells : (b : ℕ) → b < 256 → list_all is_spelling (escaped_byte b) ≡ true
unfolding escaped_byte
escaped_spells b h = step (b == 47) (is_kept b) refl
  where
    step : (t u : Bool) → is_kept b ≡ u → list_all is_spelling (cond t (45 ∷ []) (cond u (b ∷ []) (hex_escape b))) ≡ true
    step true u f = and_from _ true (or_right (is_kept 45 || false) true refl) refl
    step false true f = and_from _ true (kept_spells b f) refl
    step false false f = hex_spells b h

first_spells : (b : ℕ) → b < 256 → list_all is_spelling (escaped_first b) ≡ true
first_spells b h = step (b == 46)
  where
    step : (t : Bool) → list_all is_spelling (cond t (hex_escape b) (escaped_byte b)) ≡ true
    step true = hex_spells b h
    step false = escaped_spells b h

others_spell : (v : List ℕ) → AreBytes v → list_all is_spelling (flat_map escaped_byte v) ≡ true
others_spell [] h = refl
others_spell (b ∷ v) h = all_append is_spelling (escaped_byte b) (flat_map escaped_byte v) (escaped_spells b (All-head IsByte b v h)) (others_spell v (All-tail IsByte b v h))

first_begins : (b : ℕ) (rest : List ℕ) → begins_without_dot (escaped_first b ++ rest) ≡ true
unfolding escaped_byte hex_escape
first_begins b rest = step (b == 46) (b == 47) (is_kept b) refl
  where
    step : (s t u : Bool) → (b == 46) ≡ s
        → begins_without_dot (cond s (hex_escape b) (cond t (45 ∷ []) (cond u (b ∷ []) (hex_escape b))) ++ rest) ≡ true
    step true t u e = refl
    step false true u e = refl
    step false false true e = ap not e
    step false false false e = refl

pub escapes_are_spellings : EscapesAreSpellings
unfolding escape
escapes_are_spellings [] h = record { bytes = refl; begins = refl }
escapes_are_spellings (b ∷ v) h = record {
  bytes = all_append is_spelling (escaped_first b) (flat_map escaped_byte v) (first_spells b (All-head IsByte b v h)) (others_spell v (All-tail IsByte b v h));
  begins = first_begins b (flat_map escaped_byte v);
}

among : (a c d u e s t : Bool) → ((((a || c) || u) || e) || s || d) ≡ true → (a || c || d || u || e || s || t) ≡ true
among true c d u e s t h = refl
among false true d u e s t h = refl
among false false true u e s t h = refl
among false false false true e s t h = refl
among false false false false true s t h = refl
among false false false false false true t h = refl
among false false false false false false t h = cc

spelling_in_names : (b : ℕ) → is_spelling b ≡ true → is_name_byte b ≡ true
unfolding is_kept is_name_byte
spelling_in_names b h = among (is_ascii_alphanumeric b) (b == 58) (b == 45) (b == 95) (b == 46) (b == 92) (b == 64) h

all_weaker : (p q : ℕ → Bool) → ((b : ℕ) → p b ≡ true → q b ≡ true) → (v : List ℕ) → list_all p v ≡ true → list_all q v ≡ true
all_weaker p q w [] h = refl
all_weaker p q w (b ∷ v) h = let s = and_parts (p b) (list_all p v) h in and_from _ _ (w b s.0) (all_weaker p q w v s.1)

first_there : (b : ℕ) (rest : List ℕ) → is_empty (escaped_first b ++ rest) ≡ false
unfolding escaped_byte hex_escape
first_there b rest = step (b == 46) (b == 47) (is_kept b)
  where
    step : (s t u : Bool) → is_empty (cond s (hex_escape b) (cond t (45 ∷ []) (cond u (b ∷ []) (hex_escape b))) ++ rest) ≡ false
    step true t u = refl
    step false true u = refl
    step false false true = refl
    step false false false = refl

escape_there : (v : List ℕ) → is_empty v ≡ false → is_empty (escape v) ≡ false
unfolding escape
escape_there [] h = cc
escape_there (b ∷ v) h = first_there b (flat_map escaped_byte v)

pub escapes_are_instances : EscapesAreInstances
escapes_are_instances v h full = and_from _ _ (ap not (escape_there v full)) (all_weaker is_spelling is_name_byte spelling_in_names (escape v) (escapes_are_spellings v h).bytes)
