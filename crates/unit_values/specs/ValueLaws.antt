-- The values of a key, one row after another; the last of some texts, and tests on borrowed texts.
use Rattle.std.proofs.Common.{◌+◌, ◌++◌, ◌<◌, ◌||◌, ◌∷◌, ◌≡◌}
use Rattle.unit_values.specs.{Prelude.{[], ap, append-nil, arith, Bool, boolean, Bor, cond, cons_option, false, filter, filter-append, filter_map, filter_map-append, get_or, length, length-append, List, list_any, map, map-append, None, Option, option_or, refl, Row, slice_get, Some, sym, take, take_more, Text, true, ℕ, ◌∙◌}, Facts.{is_at, last_of}}
use Rattle.unit_values.specs.Facts.{values_in}

pub one_more : {X : Type 0} (l : List X) (i : ℕ) (d x : X) → i < length l → x ≡ get_or l i d → take (i + 1) l ≡ take i l ++ x ∷ []
one_more l i d x h is = take_more l i d h ∙ ap (λ y. take i l ++ y ∷ []) (sym is)

module _ (section key : Text) where
  pub values-append : (xs ys : List Row) → values_in (xs ++ ys) section key ≡ values_in xs section key ++ values_in ys section key
  unfolding values_in
  values-append xs ys =
      ap (map (λ row. row.value)) (filter-append (is_at section key) xs ys) ∙ map-append (λ row. row.value) (filter (is_at section key) xs) (filter (is_at section key) ys)

  one_value : (row : Row) → is_at section key row ≡ true → values_in (row ∷ []) section key ≡ row.value ∷ []
  unfolding values_in
  one_value row h = ap (λ b. map (λ (r : Row). r.value) (cond b (row ∷ []) [])) h

  no_value : (row : Row) → is_at section key row ≡ false → values_in (row ∷ []) section key ≡ []
  unfolding values_in
  no_value row h = ap (λ b. map (λ (r : Row). r.value) (cond b (row ∷ []) [])) h

  -- a row of the key adds its value
  pub taken : (rows : List Row) (i : ℕ) (d row : Row) → i < length rows → row ≡ get_or rows i d → is_at section key row ≡ true
      → values_in (take (i + 1) rows) section key ≡ values_in (take i rows) section key ++ row.value ∷ []
  taken rows i d row h is at =
      ap (λ l. values_in l section key) (one_more rows i d row h is) ∙ values-append (take i rows) (row ∷ []) ∙ ap (λ l. values_in (take i rows) section key ++ l) (one_value row at)

  -- any other adds none
  pub passed : (rows : List Row) (i : ℕ) (d row : Row) → i < length rows → row ≡ get_or rows i d → is_at section key row ≡ false
      → values_in (take (i + 1) rows) section key ≡ values_in (take i rows) section key
  passed rows i d row h is at =
      ap (λ l. values_in l section key) (one_more rows i d row h is) ∙ values-append (take i rows) (row ∷ [])
      ∙ ap (λ l. values_in (take i rows) section key ++ l) (no_value row at) ∙ append-nil (values_in (take i rows) section key)

-- the last element of a list that ends with it
pub last-push : {X : Type 0} (xs : List X) (x : X) → last_of (xs ++ x ∷ []) ≡ Some x
last-push xs x = ap (slice_get (xs ++ x ∷ [])) (let n = length-append xs (x ∷ []) in omega (arith, n)) ∙ by xs
  where
    by : {X : Type 0} {x : X} (xs : List X) → slice_get (xs ++ x ∷ []) (length xs) ≡ Some x
    by [] = refl
    by (y ∷ xs) = by xs

-- the last of the booleans that values spell, with one value more
module _ (values : List Text) (value : Text) where
  pub boolean-push : option_or (boolean value) (last_of (filter_map boolean values)) ≡ last_of (filter_map boolean (values ++ value ∷ []))
  boolean-push = at (boolean value) ∙ sym (ap last_of (filter_map-append boolean values (value ∷ [])))
    where
      at : (o : Option Bool) → option_or o (last_of (filter_map boolean values)) ≡ last_of (filter_map boolean values ++ cons_option o [])
      at None = ap last_of (sym (append-nil (filter_map boolean values)))
      at (Some b) = sym (last-push (filter_map boolean values) b)

-- a test on borrowed texts
pub any_borrowed : (p : Text → Bool) (texts : List (Bor Text))
    → list_any (λ (it : Bor Text). p it.now) texts ≡ list_any p (map (λ (it : Bor Text). it.now) texts)
any_borrowed p [] = refl
any_borrowed p (t ∷ texts) = ap (λ b. p t.now || b) (any_borrowed p texts)

-- a value more, where it was pushed
pub pushed : (section key : Text) (rows : List Row) (i : ℕ) (d row : Row) (old new : List (Bor Text)) (value : Bor Text)
    → i < length rows → row ≡ get_or rows i d
    → is_at section key row ≡ true → value.now ≡ row.value
    → map (λ (v : Bor Text). v.now) old ≡ values_in (take i rows) section key → new ≡ old ++ value ∷ []
    → map (λ (v : Bor Text). v.now) new ≡ values_in (take (i + 1) rows) section key
pushed section key rows i d row old new value h is at same before more =
    ap (map (λ (v : Bor Text). v.now)) more ∙ map-append (λ (v : Bor Text). v.now) old (value ∷ []) ∙ ap (λ l. l ++ value.now ∷ []) before
    ∙ ap (λ t. values_in (take i rows) section key ++ t ∷ []) same ∙ sym (taken section key rows i d row h is at)

-- the last of those that pass a test, with one text more
module _ (passes : Text → Bool) (texts : List Text) (text : Text) where
  pub last_taken : passes text ≡ true → last_of (filter passes (texts ++ text ∷ [])) ≡ Some text
  last_taken h =
      ap last_of (filter-append passes texts (text ∷ []) ∙ ap (λ b. filter passes texts ++ cond b (text ∷ []) []) h)
      ∙ last-push (filter passes texts) text

  pub last_passed : passes text ≡ false → last_of (filter passes (texts ++ text ∷ [])) ≡ last_of (filter passes texts)
  last_passed h =
      ap last_of (filter-append passes texts (text ∷ []) ∙ ap (λ b. filter passes texts ++ cond b (text ∷ []) []) h ∙ append-nil (filter passes texts))
