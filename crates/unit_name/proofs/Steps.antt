-- What single steps of the code find.
use Rattle.std.proofs.Common.{◌&&◌, ◌++◌, ◌+◌, ◌-◌, ◌∷◌, ◌≡◌, ◌≤◌}
use Rattle.unit_name.proofs.Prelude.{[], ap, append-nil, append_assoc, arith, Bool, cond, expand, expand-byte, expand-last, expand-nil, false, Instance, instance_at, instance_has_parts, instance_name, is_instance, is_some, IsName, le-leb, leb, leb-false, leb-true, length, length-append, List, lt-leb, ltb, ltb-false, MatchOption, Name, name_short, ne_eqb, nil_from_length, None, none-some, Option, option_map, pairs_are_replaced, Plain, position, position_or_len, prefix, prefix_len-le-length, put_before, put_first, refl, same_Some, Shape, shape, Some, specifier, suffix, sym, Template, template_at, template_name, template_of, template_parts, templates_keep_parts, true, unwrap_or, with_instance, ℕ, ◌∙◌}

-- the first index, or the length if there is none
place_or_length : (t : Bool) (n len : ℕ) → ltb n len ≡ t → n ≤ len → unwrap_or (cond t (Some n) None) len ≡ n
place_or_length true n len e h = refl
place_or_length false n len e h = let l = ltb-false n len e in omega arith

pub unwrap_or-position : (p : ℕ → Bool) (xs : List ℕ) → unwrap_or (position p xs) (length xs) ≡ position_or_len p xs
unwrap_or-position p xs = place_or_length (ltb (position_or_len p xs) (length xs)) (position_or_len p xs) (length xs) refl (prefix_len-le-length _ xs)

-- if nothing remains, all is there
pub all_there : (o : Option (List ℕ)) (now was : List ℕ) → Some (now ++ []) ≡ option_map (λ (v : List ℕ). was ++ v) o → MatchOption o (true ≡ false) (λ bytes. (true ≡ true) × (now ≡ was ++ bytes))
all_there None now was e = absurd (none-some _ (sym e))
all_there (Some v) now was e = (refl, sym (append-nil now) ∙ same_Some _ _ e)

-- the bytes of an instance's template
pub record IsTemplateOf (n b : Name) : Type 0 where
  pub name : IsName b
  pub template : template_of n ≡ Some b

pub template_bytes : (n b : Name) → IsName n → Instance ≡ shape n → b ≡ instance_name (prefix n) [] (suffix n) → IsTemplateOf n b
template_bytes n b h s e =
    let same : b ≡ template_name (prefix n) (suffix n) = e ∙ append_assoc (prefix n) (64 ∷ []) (46 ∷ suffix n) in
    let template : template_of n ≡ Some b = ap (λ x. template_at x n) (sym s) ∙ ap (λ x. Some x) (sym same) in
    record { name = (templates_keep_parts n b h template).2.name; template = template }

both_some : (b c : Bool) (m : Name) → is_some (cond b (cond c (Some m) None) None) ≡ true → cond b (cond c (Some m) None) None ≡ Some m
both_some true true m h = refl
both_some true false m h = cc
both_some false c m h = cc

taken_at : (s : Shape) (t i : Name) → is_some (instance_at s t i) ≡ true → instance_at s t i ≡ Some (instance_name (prefix t) i (suffix t))
taken_at Plain t i h = cc
taken_at Template t i h = both_some (is_instance i) (leb (length (instance_name (prefix t) i (suffix t))) 255) (instance_name (prefix t) i (suffix t)) h
taken_at Instance t i h = cc

-- a template with an instance that it may have
pub record IsTakenName (t i b : Name) : Type 0 where
  pub name : IsName b
  pub named : with_instance t i ≡ Some b

pub taken : (t i b : Name) → IsName t → is_some (with_instance t i) ≡ true → b ≡ instance_name (prefix t) i (suffix t) → IsTakenName t i b
taken t i b h some e =
    let named : with_instance t i ≡ Some b = taken_at (shape t) t i some ∙ ap (λ x. Some x) (sym e) in
    record { name = (instance_has_parts t i b h named).2.name; named = named }

-- whether a template may have an instance: its name grows by the instance
longer : (t i : Name) → IsName t → Template ≡ shape t → length (instance_name (prefix t) i (suffix t)) ≡ length t + length i
longer t i h s =
    omega (arith, ap length (sym (template_parts t h (sym s))), length-append (prefix t ++ 64 ∷ i) (46 ∷ suffix t), length-append (prefix t) (64 ∷ i), length-append (prefix t) (64 ∷ 46 ∷ suffix t))

within : (n m : ℕ) → m ≤ 255 → leb (m + n) 255 ≡ leb n (255 - m)
within n m h = step (leb n (255 - m)) refl
  where
    step : (t : Bool) → leb n (255 - m) ≡ t → leb (m + n) 255 ≡ t
    step true e = let l = leb-true n (255 - m) e in le-leb (m + n) 255 (omega arith)
    step false e = let l = leb-false n (255 - m) e in lt-leb (m + n) 255 (omega arith)

is_some_cond : (b c : Bool) (m : Name) → is_some (cond b (cond c (Some m) None) None) ≡ (b && c)
is_some_cond true true m = refl
is_some_cond true false m = refl
is_some_cond false c m = refl

pub takes_is : (t i : Name) → IsName t → Template ≡ shape t → is_some (with_instance t i) ≡ (is_instance i && leb (length i) (255 - length t))
takes_is t i h s =
    ap (λ x. is_some (instance_at x t i)) (sym s)
    ∙ is_some_cond (is_instance i) (leb (length (instance_name (prefix t) i (suffix t))) 255) (instance_name (prefix t) i (suffix t))
    ∙ ap (λ x. is_instance i && x) (ap (λ x. leb x 255) (longer t i h s) ∙ within (length i) (length t) (name_short t h))

-- what is appended moves from the rest to the result
pub pushed_before : (sp o : Option (List ℕ)) (now was : List ℕ) → MatchOption sp ⊥ (λ bytes. now ≡ was ++ bytes) → option_map (λ (v : List ℕ). now ++ v) o ≡ option_map (λ (v : List ℕ). was ++ v) (put_before sp o)
pushed_before None o now was h = absurd h
pushed_before (Some a) None now was h = refl
pushed_before (Some a) (Some v) now was h = ap (λ x. Some x) (ap (λ x. x ++ v) h ∙ append_assoc was a v)

-- if the whole exists, so does its first part
pub some_first : (sp o whole : Option (List ℕ)) (was : List ℕ) → option_map (λ (v : List ℕ). was ++ v) (put_before sp o) ≡ whole → is_some whole ≡ true → is_some sp ≡ true
some_first None o whole was e some = ap is_some e ∙ some
some_first (Some a) o whole was e some = refl

-- a valid escaped text was appended completely
pub spelled : (o : Option (List ℕ)) (is_whole : Bool) (now was : List ℕ) → is_some o ≡ true → MatchOption o (is_whole ≡ false) (λ bytes. (is_whole ≡ true) × (now ≡ was ++ bytes))
    → MatchOption o ⊥ (λ bytes. now ≡ was ++ bytes)
spelled None is_whole now was some h = cc (some)
spelled (Some bytes) is_whole now was some h = h.1

-- putting a byte before others gives a result exactly if the others exist
pub is_some-put_first : (b : ℕ) (o : Option (List ℕ)) → is_some (put_first (Some b) o) ≡ is_some o
is_some-put_first b None = refl
is_some-put_first b (Some v) = refl

-- so does putting bytes before others
pub is_some-put_before : (sp o : Option (List ℕ)) → is_some sp ≡ true → is_some (put_before sp o) ≡ is_some o
is_some-put_before None o h = cc
is_some-put_before (Some a) None h = refl
is_some-put_before (Some a) (Some v) h = refl

-- putting nothing before others gives nothing
pub is_some-put_nothing : (sp o : Option (List ℕ)) → is_some sp ≡ false → is_some (put_before sp o) ≡ false
is_some-put_nothing None o h = refl
is_some-put_nothing (Some a) o h = cc

-- a value that begins with a pair, with another byte, or with its last byte
pub pair_expands : (v after beyond : List ℕ) (b c : ℕ) (n : Name) → v ≡ b ∷ after → after ≡ c ∷ beyond → b ≡ 37 → expand v n ≡ put_before (specifier c n) (expand beyond n)
pair_expands v after beyond b c n first second percent =
    ap (λ x. expand x n) (first ∙ ap (λ x. b ∷ x) second ∙ ap (λ x. x ∷ c ∷ beyond) percent) ∙ pairs_are_replaced c beyond n

pub byte_expands : (v after : List ℕ) (b : ℕ) (n : Name) → v ≡ b ∷ after → (b ≡ 37 → ⊥) → expand v n ≡ put_before (Some (b ∷ [])) (expand after n)
byte_expands v after b n first other = ap (λ x. expand x n) first ∙ expand-byte b after n (ne_eqb b 37 other)

pub last_expands : (v after : List ℕ) (b : ℕ) (n : Name) → v ≡ b ∷ after → length after ≡ 0 → expand v n ≡ put_before (Some (b ∷ [])) (expand after n)
last_expands v after b n first end =
    let nil = nil_from_length after end in
    ap (λ x. expand x n) (first ∙ ap (λ x. b ∷ x) nil) ∙ expand-last b n ∙ sym (ap (λ x. put_before (Some (b ∷ [])) (expand x n)) nil ∙ ap (put_before (Some (b ∷ []))) (expand-nil n))
