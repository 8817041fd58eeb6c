-- Rows and notes, one value or one key at a time.
use Rattle.std.proofs.Common.{◌++◌, ◌+◌, ◌<◌, ◌∷◌, ◌≡◌}
use Rattle.setting_rules.proofs.Prelude.{[], add-one, ap, append-nil, append_assoc, BadEscape, cond, drop, escape_notes_at, expand, false, filter, filter-append, filter_map, filter_map-append, find, flat_map, flat_map-append, get_or, is_dependency, is_none, length, List, map, map-append, Name, none-some, note_on, Profile, row, rows_at, same_key, SettingKey, SettingMap, slice_get, Some, suc, sym, take, take_more, Text, texts_or_none, true, values_at, zero, ℕ, ◌∙◌}

module _ {X : Type 0} where
  -- the elements up to and including the one at an index
  pub take_got : (l : List X) (i : ℕ) (x : X) → slice_get l i ≡ Some x → take (i + 1) l ≡ take i l ++ x ∷ []
  take_got l i x h = ap (λ n. take n l) (add-one i) ∙ by l i h
    where
      by : (l : List X) (i : ℕ) → slice_get l i ≡ Some x → take (suc i) l ≡ take i l ++ x ∷ []
      by [] i h = absurd (none-some _ h)
      by (y ∷ l) zero h = ap (λ z. z ∷ []) (cc (h))
      by (y ∷ l) (suc i) h = ap (λ m. y ∷ m) (by l i h)

  -- the elements from an index on
  pub drop_got : (l : List X) (i : ℕ) (x : X) → slice_get l i ≡ Some x → drop i l ≡ x ∷ drop (i + 1) l
  drop_got l i x h = by l i h ∙ ap (λ n. x ∷ drop n l) (sym (add-one i))
    where
      by : (l : List X) (i : ℕ) → slice_get l i ≡ Some x → drop i l ≡ x ∷ drop (suc i) l
      by [] i h = absurd (none-some _ h)
      by (y ∷ l) zero h = ap (λ z. z ∷ l) (cc (h))
      by (y ∷ l) (suc i) h = by l i h

  one_more : (l : List X) (i : ℕ) (d x : X) → i < length l → x ≡ get_or l i d → take (i + 1) l ≡ take i l ++ x ∷ []
  one_more l i d x h is = take_more l i d h ∙ ap (λ y. take i l ++ y ∷ []) (sym is)

-- lists that are built element by element
module _ {X B : Type 0} (made : List X → List B) (made-append : (xs ys : List X) → made (xs ++ ys) ≡ made xs ++ made ys) where
  pub texts_more : (l : List X) (i : ℕ) (d x : X) (was now new : List B) → i < length l → x ≡ get_or l i d → now ≡ was ++ made (take i l) → new ≡ now ++ made (x ∷ []) → new ≡ was ++ made (take (i + 1) l)
  texts_more l i d x was now new h is w n =
      n ∙ ap (λ m. m ++ made (x ∷ [])) w ∙ append_assoc was (made (take i l)) (made (x ∷ [])) ∙ ap (λ m. was ++ m) (sym (made-append (take i l) (x ∷ [])) ∙ ap made (sym (one_more l i d x h is)))

pub rows_at-append : (unit : Name) (k : SettingKey) (xs ys : List Text) → rows_at unit k (xs ++ ys) ≡ rows_at unit k xs ++ rows_at unit k ys
rows_at-append unit k xs ys =
    ap (map (row k)) (filter_map-append (λ value. expand value unit) xs ys) ∙ map-append (row k) (filter_map (λ value. expand value unit) xs) (filter_map (λ value. expand value unit) ys)

pub escape_notes_at-append : (unit : Name) (k : SettingKey) (xs ys : List Text) → escape_notes_at unit k (xs ++ ys) ≡ escape_notes_at unit k xs ++ escape_notes_at unit k ys
escape_notes_at-append unit k xs ys =
    ap (map (λ _. note_on k BadEscape)) (filter-append (λ value. is_none (expand value unit)) xs ys)
    ∙ map-append (λ _. note_on k BadEscape) (filter (λ value. is_none (expand value unit)) xs) (filter (λ value. is_none (expand value unit)) ys)

-- lists that are built key by key, without the keys that set dependencies
module _ (profile : Profile) {B : Type 0} (at_key : SettingKey → List Text → List B) where
  abbrev pub made_of : SettingMap → List B
  made_of m = flat_map (λ e. cond (is_dependency profile e.0) [] (at_key e.0 e.1)) m

  pub keys_more : (m : SettingMap) (i : ℕ) (k : SettingKey) (values : List Text) (was new : List B) → slice_get m i ≡ Some (k, values) → was ≡ made_of (take i m) → new ≡ was ++ cond (is_dependency profile k) [] (at_key k values) → new ≡ made_of (take (i + 1) m)
  keys_more m i k values was new got w n =
      n ∙ ap (λ l. l ++ cond (is_dependency profile k) [] (at_key k values)) w
      ∙ ap (λ l. made_of (take i m) ++ l) (sym (append-nil (cond (is_dependency profile k) [] (at_key k values))))
      ∙ sym (flat_map-append (λ e. cond (is_dependency profile e.0) [] (at_key e.0 e.1)) (take i m) ((k, values) ∷ []))
      ∙ ap made_of (sym (take_got m i (k, values) got))

-- the loop over the map is at the key
pub look_found : (m : SettingMap) (i : ℕ) (k q : SettingKey) (values : List Text) → slice_get m i ≡ Some (q, values) → same_key k q ≡ true → values_at (drop i m) k ≡ values
look_found m i k q values got is =
    ap (λ l. values_at l k) (drop_got m i (q, values) got) ∙ ap (λ b. texts_or_none (cond b (Some (q, values)) (find (λ e. same_key k e.0) (drop (i + 1) m)))) is

-- the loop is at another key
pub look_passed : (m : SettingMap) (i : ℕ) (k q : SettingKey) (values : List Text) → slice_get m i ≡ Some (q, values) → same_key k q ≡ false → values_at (drop i m) k ≡ values_at (drop (i + 1) m) k
look_passed m i k q values got is =
    ap (λ l. values_at l k) (drop_got m i (q, values) got) ∙ ap (λ b. texts_or_none (cond b (Some (q, values)) (find (λ e. same_key k e.0) (drop (i + 1) m)))) is
