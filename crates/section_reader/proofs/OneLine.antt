-- Lines that are logical lines by themselves, by their first and last bytes.
use Rattle.std.proofs.Common.{◌&&◌, ◌++◌, ◌+◌, ◌-◌, ◌<◌, ◌||◌, ◌∷◌, ◌≡◌, ◌≢◌}
use Rattle.section_reader.proofs.Prelude.{[], AllByRecursion, and_from, ap, append_assoc, arith, codes, cond-false, cond-true, drop, drop_all, drop_at, drop_more, ends_with, eqb, eqb-true, false, first_of, get_or, get_or-append-add, get_or-append_seam, get_or_append_left, get_or_push, HasBareEnds, header_line, is_blank, is_bracketed, is_comment, is_continued, is_white, IsKey, IsName, IsOneLine, IsValue, kept, last_of, length, length-append, Line, List, logical_of, logical_of-nil, logical_of-whole, lt-ltb, nat_eq, ne_eqb, pair_line, pair_of, refl, Some, suffix_len, suffix_len_is, sym, take, take_all, take_at, trim_end, trim_start, true, Whole, ℕ, ◌∙◌}
use Rattle.section_reader.proofs.{PartLemmas.{pair_of-both}, PlaceLemmas.{kept-some}}
use Rattle.section_reader.specs.{Lines.{numbered}, Parts.{form, header_name, trimmed}}

-- Ends.

last_alone : (line : List ℕ) → 0 < length line → drop (length line - 1) line ≡ last_of line ∷ []
last_alone line some =
    let at : length line - 1 < length line = omega arith in
    drop_more line (length line - 1) 0 at ∙ ap (λ v. last_of line ∷ v) (drop_all (length line - 1 + 1) line (omega arith))

ends_in : (line : List ℕ) (b : ℕ) → 0 < length line → ends_with nat_eq line (b ∷ []) ≡ (eqb b (last_of line) && true)
ends_in line b some = rw (last_alone line some) refl

differ : (b c : ℕ) → c ≢ b → (eqb b c && true) ≡ false
differ b c apart = ap (λ v. v && true) (ne_eqb b c (λ e. apart (sym e)))

pub trim_start-bare : (line : List ℕ) → is_white (first_of line) ≡ false → trim_start line ≡ line
trim_start-bare [] bare = refl
trim_start-bare (b ∷ line) bare = ap (λ n. drop n (b ∷ line)) (cond-false _ _ _ bare)

pub trim_end-bare : (line : List ℕ) → is_white (last_of line) ≡ false → trim_end line ≡ line
trim_end-bare line bare =
    let len = suffix_len_is is_white line (length line) 0 (omega arith) (λ k low high. absurd (omega arith)) (λ some. bare) in
    let kept_len : length line - suffix_len is_white line ≡ length line = omega arith in
    ap (λ n. take n line) kept_len ∙ take_all (length line) line (omega arith)

pub trimmed-bare : (line : List ℕ) → HasBareEnds line → trimmed line ≡ line
unfolding trimmed
trimmed-bare line bare = ap trim_end (trim_start-bare line bare.0) ∙ trim_end-bare line bare.1

-- Forms.

not_blank : (line : List ℕ) → 0 < length line → is_white (first_of line) ≡ false → is_blank line ≡ false
not_blank [] some bare = absurd (omega arith)
not_blank (b ∷ line) some bare = ap (λ v. v && is_blank line) bare

not_comment : (line : List ℕ) → 0 < length line → is_white (first_of line) ≡ false → first_of line ≢ 35 → first_of line ≢ 59 → is_comment line ≡ false
not_comment [] some bare hash semicolon = absurd (omega arith)
not_comment (b ∷ line) some bare hash semicolon =
    rw (trim_start-bare (b ∷ line) bare) (ap (λ v. v || (eqb 59 b && true)) (differ 35 b hash) ∙ differ 59 b semicolon)

pub form-one : (line : List ℕ) → IsOneLine line → form line ≡ Whole
unfolding form
form-one line is =
    let continued : is_continued line ≡ false = ends_in line 92 is.some ∙ differ 92 (last_of line) is.backslash in
    cond-false _ _ _ (not_blank line is.some is.bare.0) ∙ cond-false _ _ _ (not_comment line is.some is.bare.0 is.hash is.semicolon) ∙ cond-false _ _ _ continued

-- Lines one by one.

one_kept : (n : ℕ) (text : List ℕ) (rest : List Line) → IsOneLine text → kept (record { number = n; text = trimmed text }) rest ≡ record { number = n; text = text } ∷ rest
one_kept n text rest is =
    ap (λ t. kept (record { number = n; text = t }) rest) (trimmed-bare text is.bare) ∙ kept-some (record { number = n; text = text }) rest is.some

pub one_by_one : (n : ℕ) (texts : List (List ℕ)) → AllByRecursion IsOneLine texts → logical_of (numbered n texts) ≡ numbered n texts
unfolding numbered
one_by_one n [] all = logical_of-nil
one_by_one n (text ∷ texts) all =
    let line : Line = record { number = n; text = text } in
    logical_of-whole line (numbered (n + 1) texts) (form-one text all.0)
    ∙ one_kept n text (logical_of (numbered (n + 1) texts)) all.0
    ∙ ap (λ v. line ∷ v) (one_by_one (n + 1) texts all.1)

-- Headers.

header_last : (name : List ℕ) → last_of (header_line name) ≡ 93
header_last name =
    let at : length (header_line name) - 1 ≡ length (91 ∷ name) = omega (arith, length-append name (93 ∷ [])) in
    ap (λ k. get_or (header_line name) k 0) at ∙ get_or_push (91 ∷ name) 93 0 (length (91 ∷ name)) refl

pub header-one : (name : List ℕ) → IsOneLine (header_line name)
header-one name = record {
  some = omega arith;
  bare = (refl, ap is_white (header_last name));
  hash = λ e. absurd (omega (arith, e));
  semicolon = λ e. absurd (omega (arith, e));
  backslash = λ e. omega (arith, e, header_last name);
}

pub header-bracketed : (name : List ℕ) → is_bracketed (header_line name) ≡ true
header-bracketed name = refl

pub header-name : (name : List ℕ) → IsName name → header_name (header_line name) ≡ Some name
unfolding header_name
header-name name is =
    let line = header_line name in
    let len : length line ≡ length name + 2 = omega (arith, length-append name (93 ∷ [])) in
    let ends : ends_with nat_eq line (codes "]") ≡ true = ends_in line 93 (omega arith) ∙ ap (λ v. eqb 93 v && true) (header_last name) in
    let long = lt-ltb 2 (length line) (omega (arith, is.some)) in
    let between : length line - 1 - 1 ≡ length name = omega arith in
    cond-true _ _ _ (and_from _ _ ends long)
    ∙ ap (λ n. Some (take n (name ++ 93 ∷ []))) between ∙ ap (λ v. Some v) (take_at name (93 ∷ []) (length name) refl)

-- Pairs.

pair_first : (key value : List ℕ) → 0 < length key → first_of (pair_line (key, value)) ≡ first_of key
pair_first [] value some = absurd (omega arith)
pair_first (b ∷ key) value some = refl

pair_last : (key value : List ℕ) → 0 < length value → last_of (pair_line (key, value)) ≡ last_of value
pair_last key value some =
    let at : length (pair_line (key, value)) - 1 ≡ length key + (1 + (length value - 1)) = omega (arith, length-append key (61 ∷ value)) in
    let past : 1 + (length value - 1) ≡ length value = omega arith in
    ap (λ k. get_or (pair_line (key, value)) k 0) at ∙ get_or-append-add key (61 ∷ value) (1 + (length value - 1)) 0 ∙ get_or-append-add (61 ∷ []) value (length value - 1) 0

pair_last_none : (key : List ℕ) → last_of (pair_line (key, [])) ≡ 61
pair_last_none key =
    let at : length (pair_line (key, [])) - 1 ≡ length key = omega (arith, length-append key (61 ∷ [])) in
    ap (λ k. get_or (pair_line (key, [])) k 0) at ∙ get_or_push key 61 0 (length key) refl

pub pair-one : (key value : List ℕ) → IsKey key → IsValue value → IsOneLine (pair_line (key, value))
pair-one key [] k v = record {
  some = omega (arith, length-append key (61 ∷ []), k.some);
  bare = (ap is_white (pair_first key [] k.some) ∙ k.bare.0, ap is_white (pair_last_none key));
  hash = λ e. k.hash (sym (pair_first key [] k.some) ∙ e);
  semicolon = λ e. k.semicolon (sym (pair_first key [] k.some) ∙ e);
  backslash = λ e. omega (arith, e, pair_last_none key);
}
pair-one key (b ∷ value) k v =
    let last = pair_last key (b ∷ value) (omega arith) in
    record {
      some = omega (arith, length-append key (61 ∷ b ∷ value), k.some);
      bare = (ap is_white (pair_first key (b ∷ value) k.some) ∙ k.bare.0, ap is_white last ∙ v.bare.1);
      hash = λ e. k.hash (sym (pair_first key (b ∷ value) k.some) ∙ e);
      semicolon = λ e. k.semicolon (sym (pair_first key (b ∷ value) k.some) ∙ e);
      backslash = λ e. v.backslash (sym last ∙ e);
    }

pub pair-plain : (key value : List ℕ) → IsKey key → is_bracketed (pair_line (key, value)) ≡ false
pair-plain [] value k = absurd (omega (arith, k.some))
pair-plain (b ∷ key) value k = differ 91 b k.bracket

pub pair-of : (key value : List ℕ) → IsKey key → IsValue value → pair_of (pair_line (key, value)) ≡ Some (key, value)
pair-of key value k v =
    let line = pair_line (key, value) in
    let len : length line ≡ length key + (1 + length value) = omega (arith, length-append key (61 ∷ value)) in
    let here : get_or line (length key) 0 ≡ 61 = get_or_seam in
    let before : take (length key) line ≡ key = take_at key (61 ∷ value) (length key) refl in
    let following : drop (length key + 1) line ≡ value = drop_seam in
    let bare = trimmed-bare key k.bare in
    let both = pair_of-both line (length key) (omega arith) (ap (λ b. eqb b 61) here) none (rw (before, bare) k.some) in
    both ∙ ap (λ x. Some (trimmed x, trimmed (drop (length key + 1) line))) before ∙ ap (λ x. Some (x, trimmed (drop (length key + 1) line))) bare
    ∙ ap (λ x. Some (key, trimmed x)) following ∙ ap (λ x. Some (key, x)) (trimmed-bare value v.bare)
  where
    get_or_seam : get_or (key ++ 61 ∷ value) (length key) 0 ≡ 61
    get_or_seam = get_or-append_seam key 61 value 0

    drop_seam : drop (length key + 1) (key ++ 61 ∷ value) ≡ value
    drop_seam =
        let parts : key ++ 61 ∷ value ≡ (key ++ 61 ∷ []) ++ value = sym (append_assoc key (61 ∷ []) value) in
        ap (drop (length key + 1)) parts ∙ drop_at (key ++ 61 ∷ []) value (length key + 1) (omega (arith, length-append key (61 ∷ [])))

    none : (i : ℕ) → i < length key → eqb (get_or (key ++ 61 ∷ value) i 0) 61 ≡ true → ⊥
    none i lt is = k.equals i 0 lt (sym (get_or_append_left key (61 ∷ value) 0 i lt) ∙ eqb-true _ _ is)
