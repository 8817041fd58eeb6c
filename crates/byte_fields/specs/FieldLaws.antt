-- Each field that is written is read back, and what is read is what was written.
use Rattle.std.proofs.Common.{◌≡◌, ℕ, zero, suc, ◌+◌, ◌-◌, ◌*◌, ◌%◌, ◌/◌, ◌^◌, ◌<◌, ◌≤◌, Bool, true, false, cond, ltb, leb, eqb, List, [], ◌∷◌, ◌++◌, length, take, drop, Result, Ok, Err, refl, sym, ap, subst, ◌∙◌, ◌⊎◌, append_assoc, arith, inl, inr, ⊎_elim}
use Rattle.std.specs.Prelude.{◌||◌}
use Rattle.std.proofs.lemmas.Bool.{eqb-false, eqb-true, leb-false, lt-leb, cases_lt, ltb-false, ltb-true, le-ltb, lt-ltb}
use Rattle.std.proofs.lemmas.List.{take_at, drop_at, take-append-drop, length-append, length-take, get_or-drop}
use Rattle.byte_fields.specs.declared.faults.SpellingFault.{SpellingFault}
use Rattle.byte_fields.specs.declared.faults.SpellingFault.TheVariants.{Truncated, Number}
use Rattle.byte_fields.specs.Spelling.{number_within, number, short_string, long_string}
use Rattle.byte_fields.specs.Reading.{◌>>=◌, byte_at, with_high, from_low, number_at_most, number_at, cut_at, short_string_at, long_string_at}
use Rattle.byte_fields.specs.Laws.{IsBytes, Takes, AreTheirBytes}

IsBytes-drop : (n : ℕ) (bytes : List ℕ) → IsBytes bytes → IsBytes (drop n bytes)
IsBytes-drop n bytes h i = rw get_or-drop (h (n + i))

IsBytes-rest : (b : ℕ) (bytes : List ℕ) → IsBytes (b ∷ bytes) → IsBytes bytes
IsBytes-rest b bytes h i = h (suc i)

-- the value of a step that did not fail
pub bind_ok : {A B : Type 0} (r : Result A SpellingFault) (f : A → Result B SpellingFault) (y : B) → (r >>= f) ≡ Ok y
    → (x : A) × (r ≡ Ok x) × (f x ≡ Ok y)
bind_ok (Ok x) f y e = (x, refl, e)
bind_ok (Err d) f y e = absurd cc

-- a test that did not fail
pub guard_ok : {A : Type 0} (b : Bool) (d : SpellingFault) (r : Result A SpellingFault) (y : A)
    → cond b (Err d) r ≡ Ok y → (b ≡ false) × (r ≡ Ok y)
guard_ok true d r y e = absurd cc
guard_ok false d r y e = (refl, e)

pub chosen : {A : Type 0} (b : Bool) (x y z : A) → cond b x y ≡ z → ((b ≡ true) × (x ≡ z)) ⊎ ((b ≡ false) × (y ≡ z))
chosen true x y z e = inl (refl, e)
chosen false x y z e = inr (refl, e)

abbrev done : {A : Type 0} → A → Result A SpellingFault
done x = Ok x

pub ok_is : {A : Type 0} (x y : A) → done x ≡ done y → x ≡ y
ok_is x y e = cc

pub Takes-then : (a x b y c : List ℕ) → Takes a x b → Takes b y c → Takes a (x ++ y) c
Takes-then a x b y c p q = record { parts = p.parts ∙ ap (λ (t : List ℕ). x ++ t) q.parts ∙ sym (append_assoc x y c); rest_fits = q.rest_fits }

-- ---- bytes

pub byte_taken : (bytes : List ℕ) (b : ℕ) (rest : List ℕ) → IsBytes bytes → byte_at bytes ≡ Ok (b, rest)
    → Takes bytes (b ∷ []) rest × (b < 256)
byte_taken [] b rest fits e = absurd cc
byte_taken (c ∷ bytes) b rest fits e =
    let same = ok_is (c, bytes) (b, rest) e in
    subst (λ (p : ℕ × List ℕ). Takes (c ∷ bytes) (p.0 ∷ []) p.1 × (p.0 < 256)) same (record { parts = refl; rest_fits = IsBytes-rest c bytes fits }, fits 0)

-- ---- numbers

-- what fits so many groups of seven bits
abbrev room : ℕ → ℕ
room zero = 1
room (suc most) = 128 * room most

neither : (a b : Bool) → (a || b) ≡ false → (a ≡ false) × (b ≡ false)
neither true b e = absurd cc
neither false b e = (refl, e)

none_of : (a b : Bool) → a ≡ false → b ≡ false → (a || b) ≡ false
none_of true b e f = absurd cc
none_of false b e f = f

some_if : (n : ℕ) → eqb n 0 ≡ false → 0 < n
some_if zero e = absurd (eqb-false 0 0 e refl)
some_if (suc n) e = omega arith

pub not_zero : (n : ℕ) → 0 < n → eqb n 0 ≡ false
not_zero n some = by (eqb n 0) refl
  where
    by : (b : Bool) → eqb n 0 ≡ b → b ≡ false
    by true e = let none : n ≡ 0 = eqb-true _ _ e in absurd (omega arith)
    by false e = refl

not_outside : (h : ℕ) → (eqb h 0 || leb (2 ^ 57) h) ≡ false → (0 < h) × (h < 2 ^ 57)
not_outside h e = let parts = neither _ _ e in (some_if h parts.0, leb-false _ _ parts.1)

long_takes : (most : ℕ) (bytes : List ℕ) (low : ℕ) (after : List ℕ) (high : ℕ) (rest : List ℕ) → 128 ≤ low → low < 256
    → (0 < high) × (high < 2 ^ 57)
    → Takes bytes (low ∷ []) after → Takes after (number_within most high) rest
    → Takes bytes (number_within (suc most) (low - 128 + 128 * high)) rest
unfolding number_within
long_takes most bytes low after high rest large fits bound t u =
    let many : ltb (low - 128 + 128 * high) 128 ≡ false = le-ltb _ _ (omega (arith, bound.0)) in
    let first : (low - 128 + 128 * high) % 128 + 128 ≡ low = omega (arith, bound.0) in
    let others : (low - 128 + 128 * high) / 128 ≡ high = omega (arith, bound.0) in
    rw (many, first, others) (Takes-then bytes (low ∷ []) after (number_within most high) rest t u)

number_taken_within : (most : ℕ) (bytes : List ℕ) (n : ℕ) (rest : List ℕ) → IsBytes bytes
    → number_at_most most bytes ≡ Ok (n, rest) → Takes bytes (number_within most n) rest × (n < 2 ^ 64)
unfolding number_at_most number_within
number_taken_within zero bytes n rest fits e = absurd cc
number_taken_within (suc most) bytes n rest fits e =
    let b = bind_ok (byte_at bytes) (from_low (number_at_most most)) (n, rest) e in
    let t = byte_taken bytes b.0.0 b.0.1 fits b.1 in
    ⊎_elim
    (λ short.
    let is = ok_is b.0 (n, rest) short.1 in
    let small : b.0.0 < 128 = ltb-true _ _ short.0 in
    subst (λ (p : ℕ × List ℕ). Takes bytes (number_within (suc most) p.0) p.1 × (p.0 < 2 ^ 64)) is
    (rw short.0 t.0, omega arith))
    (λ long.
    let h = bind_ok (number_at_most most b.0.1) (with_high b.0.0) (n, rest) long.1 in
    let u = number_taken_within most b.0.1 h.0.0 h.0.1 t.0.rest_fits h.1 in
    let g = guard_ok (eqb h.0.0 0 || leb (2 ^ 57) h.0.0) Number (Ok (b.0.0 - 128 + 128 * h.0.0, h.0.1)) (n, rest) h.2 in
    let is = ok_is (b.0.0 - 128 + 128 * h.0.0, h.0.1) (n, rest) g.1 in
    let bound = not_outside h.0.0 g.0 in
    let large : 128 ≤ b.0.0 = ltb-false _ _ long.0 in
    subst (λ (p : ℕ × List ℕ). Takes bytes (number_within (suc most) p.0) p.1 × (p.0 < 2 ^ 64)) is
    (long_takes most bytes b.0.0 b.0.1 h.0.0 h.0.1 large t.1 bound t.0 u.0, omega (arith, t.1)))
    (chosen (ltb b.0.0 128) (Ok b.0) (number_at_most most b.0.1 >>= with_high b.0.0) (Ok (n, rest)) b.2)

number_back_within : (most n : ℕ) (rest : List ℕ) → n < 2 ^ 64 → n < room (suc most)
    → number_at_most (suc most) (number_within (suc most) n ++ rest) ≡ Ok (n, rest)
unfolding number_at_most number_within
number_back_within zero n rest small lt =
    let few : ltb n 128 ≡ true = lt-ltb _ _ (omega (arith, lt)) in
    rw (few, few) refl
number_back_within (suc most) n rest small lt = ⊎_elim
    (λ below. let few : ltb n 128 ≡ true = lt-ltb _ _ below in rw (few, few) refl)
    (λ above.
    let many : ltb n 128 ≡ false = le-ltb _ _ above in
    let high_byte : ltb (n % 128 + 128) 128 ≡ false = le-ltb _ _ (omega arith) in
    let high_small : n / 128 < 2 ^ 64 = omega arith in
    let high_room : n / 128 < room (suc most) = omega (arith, lt) in
    let within : (eqb (n / 128) 0 || leb (2 ^ 57) (n / 128)) ≡ false = outside (n / 128) (omega arith) (omega arith) in
    let whole : (n % 128 + 128) - 128 + 128 * (n / 128) ≡ n = omega arith in
    rw (many, high_byte, number_back_within most (n / 128) rest high_small high_room, within, whole) refl)
    (cases_lt n 128)
  where
    outside : (h : ℕ) → 0 < h → h < 2 ^ 57 → (eqb h 0 || leb (2 ^ 57) h) ≡ false
    outside h some few = none_of _ _ (not_zero h some) (lt-leb _ _ few)

-- ---- strings

pub cut_taken : (len : ℕ) (bytes text rest : List ℕ) → IsBytes bytes → cut_at len bytes ≡ Ok (text, rest)
    → Takes bytes text rest × (length text ≡ len)
cut_taken len bytes text rest fits e =
    let g = guard_ok (ltb (length bytes) len) Truncated (Ok (take len bytes, drop len bytes)) (text, rest) e in
    let long : len ≤ length bytes = ltb-false _ _ g.0 in
    let is : length (take len bytes) ≡ len = omega (arith, length-take len bytes) in
    subst (λ (p : List ℕ × List ℕ). Takes bytes p.0 p.1 × (length p.0 ≡ len)) (ok_is (take len bytes, drop len bytes) (text, rest) g.1)
    (record { parts = sym (take-append-drop len bytes); rest_fits = IsBytes-drop len bytes fits }, is)

pub cut_back : (text rest : List ℕ) → cut_at (length text) (text ++ rest) ≡ Ok (text, rest)
cut_back text rest =
    let long : ltb (length (text ++ rest)) (length text) ≡ false = le-ltb _ _ (omega (arith, length-append text rest)) in
    rw (long, take_at text rest (length text) refl, drop_at text rest (length text) refl) refl

number_taken : (bytes : List ℕ) (n : ℕ) (rest : List ℕ) → IsBytes bytes → number_at bytes ≡ Ok (n, rest)
    → Takes bytes (number n) rest × (n < 2 ^ 64)
number_taken bytes n rest fits e = number_taken_within 10 bytes n rest fits e

number_back : (n : ℕ) (rest : List ℕ) → n < 2 ^ 64 → number_at (number n ++ rest) ≡ Ok (n, rest)
number_back n rest small = number_back_within 9 n rest small (omega arith)

short_taken : (bytes text rest : List ℕ) → IsBytes bytes → short_string_at bytes ≡ Ok (text, rest)
    → Takes bytes (short_string text) rest × (length text < 256)
unfolding short_string_at
short_taken bytes text rest fits e =
    let b = bind_ok (byte_at bytes) (λ len. cut_at len.0 len.1) (text, rest) e in
    let t = byte_taken bytes b.0.0 b.0.1 fits b.1 in
    let u = cut_taken b.0.0 b.0.1 text rest t.0.rest_fits b.2 in
    (subst (λ (k : ℕ). Takes bytes (k ∷ text) rest) (sym u.1) (Takes-then bytes (b.0.0 ∷ []) b.0.1 text rest t.0 u.0), omega (arith, t.1, u.1))

short_back : (text rest : List ℕ) → length text < 256 → short_string_at (short_string text ++ rest) ≡ Ok (text, rest)
unfolding short_string_at
short_back text rest small = cut_back text rest

long_taken : (bytes text rest : List ℕ) → IsBytes bytes → long_string_at bytes ≡ Ok (text, rest)
    → Takes bytes (long_string text) rest × (length text < 2 ^ 64)
unfolding long_string_at
long_taken bytes text rest fits e =
    let b = bind_ok (number_at bytes) (λ len. cut_at len.0 len.1) (text, rest) e in
    let t = number_taken bytes b.0.0 b.0.1 fits b.1 in
    let u = cut_taken b.0.0 b.0.1 text rest t.0.rest_fits b.2 in
    (subst (λ (k : ℕ). Takes bytes (number k ++ text) rest) (sym u.1) (Takes-then bytes (number b.0.0) b.0.1 text rest t.0 u.0), omega (arith, t.1, u.1))

long_back : (text rest : List ℕ) → length text < 2 ^ 64 → long_string_at (long_string text ++ rest) ≡ Ok (text, rest)
unfolding long_string_at
long_back text rest small =
    let start : number_at (long_string text ++ rest) ≡ Ok (length text, text ++ rest) = ap number_at (append_assoc (number (length text)) text rest) ∙ number_back (length text) (text ++ rest) small in
    ap (λ (r : Result (ℕ × List ℕ) SpellingFault). r >>= λ len. cut_at len.0 len.1) start ∙ cut_back text rest

pub fields_their_bytes : AreTheirBytes
fields_their_bytes = record {
  number_back = number_back;
  number_taken = number_taken;
  short_back = short_back;
  short_taken = short_taken;
  long_back = long_back;
  long_taken = long_taken;
}
