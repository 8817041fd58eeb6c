-- How bytes are split after a directory and at their first slash.
use Rattle.std.proofs.Common.{◌++◌, ◌+◌, ◌∷◌, ◌≡◌, ◌≢◌, ◌≤◌}
use Rattle.load_path.proofs.Prelude.{[], ap, append_cancel_left, arith, below_at, below_directory, below_none, Bor, cases_Bool, cond-false, cond-true, Depth, drop, Err, fails_before_first, is_slash, is_some, length, List, ltb-false, ltb-true, MatchOption, None, onto_first, Option, option_copied, option_map_or, path_below, position, position_or_len, refl, slice_split, slice_split-cons_no, slice_split-cons_yes, slice_split_first, slice_split_none, Some, sym, take, true, ℕ, ⊎_elim, ◌∙◌}

-- the bytes after a directory, and then after a slash
pub after_slash : (directory text after : List ℕ) (r : Option (Bor (List ℕ))) → text ≡ directory ++ after
    → MatchOption r ((rest : List ℕ) → after ≢ 47 ∷ rest) (λ x. after ≡ 47 ∷ x.now) → option_copied r ≡ below_directory directory text
after_slash directory text after None prefix apart = sym (below_none directory text (λ rest e. apart rest (append_cancel_left directory after (47 ∷ rest) (sym prefix ∙ e))))
after_slash directory text after (Some below) prefix slash = sym (below_at directory text below.now (prefix ∙ ap (λ t. directory ++ t) slash))

pub cut_found : (bytes : List ℕ) (at : ℕ) → position is_slash bytes ≡ Some at → slice_split is_slash bytes ≡ take at bytes ∷ slice_split is_slash (drop (at + 1) bytes)
cut_found bytes at e = ⊎_elim
    (λ found.
    let same : Some (position_or_len is_slash bytes) ≡ Some at = sym (cond-true _ _ _ found) ∙ e in
    let at_is : position_or_len is_slash bytes ≡ at = cc in
    slice_split_first is_slash bytes 0 (ltb-true _ _ found) ∙ ap (λ n. take n bytes ∷ slice_split is_slash (drop (n + 1) bytes)) at_is)
    (λ past. let same : None ≡ Some at = sym (cond-false _ _ _ past) ∙ e in cc)
    (cases_Bool _)

pub cut_none : (bytes : List ℕ) → position is_slash bytes ≡ None → slice_split is_slash bytes ≡ bytes ∷ []
cut_none bytes e = ⊎_elim
    (λ found. let same : Some (position_or_len is_slash bytes) ≡ None = sym (cond-true _ _ _ found) ∙ e in cc)
    (λ past.
    let far : length bytes ≤ position_or_len is_slash bytes = ltb-false _ _ past in
    slice_split_none is_slash bytes (λ k d lt. fails_before_first is_slash bytes k d (omega arith)))
    (cases_Bool _)

-- splitting gives at least one part
pub some_part : (bytes : List ℕ) → (first : List ℕ) × (rest : List (List ℕ)) × (slice_split is_slash bytes ≡ first ∷ rest)
some_part [] = ([], [], refl)
some_part (b ∷ bytes) = ⊎_elim
    (λ cut. ([], slice_split is_slash bytes, slice_split-cons_yes is_slash b bytes cut))
    (λ other.
    let inner = some_part bytes in
    (b ∷ inner.0, inner.1, slice_split-cons_no is_slash b bytes other ∙ ap (onto_first b) inner.2))
    (cases_Bool (is_slash b))

-- bytes with two slashes have more than two parts
pub below_deep : (rank : ℕ) (below first after second : List ℕ) (further : Option (Bor (List ℕ))) → slice_split is_slash below ≡ first ∷ slice_split is_slash after
    → slice_split is_slash after ≡ second ∷ option_map_or (λ rest. slice_split is_slash rest.now) further [] → is_some further ≡ true → path_below rank (slice_split is_slash below) ≡ Err Depth
below_deep rank below first after second None one two some = cc (some)
below_deep rank below first after second (Some rest) one two some =
    let third = some_part rest.now in
    ap (path_below rank) (one ∙ ap (λ parts. first ∷ parts) (two ∙ ap (λ parts. second ∷ parts) third.2))
