-- Maps that are searched by key and indexed.
use Rattle.std.{proofs.Common.{◌+◌, ◌<◌, ◌∷◌, ◌≡◌, ◌≤◌}, specs.Map.{keys_of}}
use Rattle.indexmap.specs.{IndexMap.{insert_entry}, Layout.{set_value_at}}
use Rattle.setting_rules.proofs.Prelude.{[], ap, arith, Bool, changed, cond, false, length, List, nat_lt, nat_tests, None, none-some, not, place_of, position, position_or_len, refl, same_key, SettingKey, SettingMap, slice_get, Some, suc, sym, Text, true, values_of, with_key, ℕ, ◌∙◌}

-- a comparison of keys that decides equality
module _ (test : SettingKey → SettingKey → Bool) (same : (k q : SettingKey) → test k q ≡ same_key k q) (k : SettingKey) where
  place_sought : (es : SettingMap) → position_or_len (test k) (keys_of es) ≡ place_of es k
  place_sought [] = refl
  place_sought (e ∷ es) = ap (λ b. cond (not b) (1 + position_or_len (test k) (keys_of es)) 0) (same k e.0) ∙ by (same_key k e.0) (place_sought es)
    where
      by : (b : Bool) → position_or_len (test k) (keys_of es) ≡ place_of es k → cond (not b) (1 + position_or_len (test k) (keys_of es)) 0 ≡ cond b 0 (suc (place_of es k))
      by true h = refl
      by false h = omega (arith, h)

  length_keys : (es : SettingMap) → length (keys_of es) ≡ length es
  length_keys [] = refl
  length_keys (e ∷ es) = ap suc (length_keys es)

  sought_within : (n m i : ℕ) → cond (nat_lt n m) (Some n) None ≡ Some i → (n < m) × (i ≡ n)
  sought_within n m i h = by (nat_lt n m) refl h
    where
      by : (b : Bool) → nat_lt n m ≡ b → cond b (Some n) None ≡ Some i → (n < m) × (i ≡ n)
      by true e s = (grind (arith, nat_tests, e), cc (s))
      by false e s = absurd (none-some _ s)

  sought_beyond : (n m : ℕ) → None ≡ cond (nat_lt n m) (Some n) None → m ≤ n
  sought_beyond n m h = by (nat_lt n m) refl h
    where
      by : (b : Bool) → nat_lt n m ≡ b → None ≡ cond b (Some n) None → m ≤ n
      by true e s = absurd (none-some _ s)
      by false e s = grind (arith, nat_tests, e)

  -- if a search finds the key, it is at its index
  pub found_place : (es : SettingMap) (i : ℕ) → Some i ≡ position (test k) (keys_of es) → i ≡ place_of es k
  found_place es i h = (sought_within _ _ i (sym h)).1 ∙ place_sought es

  stays : (es : SettingMap) → place_of es k < length es → es ≡ with_key es k
  stays [] h = absurd (omega (arith, h))
  stays (e ∷ es) h = by (same_key k e.0) h (stays es)
    where
      by : (b : Bool) → cond b 0 (suc (place_of es k)) < suc (length es) → (place_of es k < length es → es ≡ with_key es k) → e ∷ es ≡ cond b ((e.0, e.1) ∷ es) (e ∷ with_key es k)
      by true h more = refl
      by false h more = ap (λ l. e ∷ l) (more (omega arith))

  -- a key that a search finds stays where it is
  pub found_stays : (es : SettingMap) (i : ℕ) → Some i ≡ position (test k) (keys_of es) → es ≡ with_key es k
  found_stays es i h = let w = (sought_within _ _ i (sym h)).0 in stays es (omega (arith, w, place_sought es, length_keys es))

  goes_last : (es : SettingMap) → length es ≤ place_of es k → insert_entry test es k [] ≡ with_key es k
  goes_last [] h = refl
  goes_last (e ∷ es) h = ap (λ b. cond b ((e.0, []) ∷ es) (e ∷ insert_entry test es k [])) (same k e.0) ∙ by (same_key k e.0) h (goes_last es)
    where
      by : (b : Bool) → suc (length es) ≤ cond b 0 (suc (place_of es k)) → (length es ≤ place_of es k → insert_entry test es k [] ≡ with_key es k) → cond b ((e.0, []) ∷ es) (e ∷ insert_entry test es k []) ≡ cond b ((e.0, e.1) ∷ es) (e ∷ with_key es k)
      by true h more = absurd (omega (arith, h))
      by false h more = ap (λ l. e ∷ l) (more (omega arith))

  beyond : (es : SettingMap) → None ≡ position (test k) (keys_of es) → length es ≤ place_of es k
  beyond es h = let w = sought_beyond _ _ h in omega (arith, w, place_sought es, length_keys es)

  place_small : (es : SettingMap) → place_of es k ≤ length es
  place_small [] = omega arith
  place_small (e ∷ es) = by (same_key k e.0) (place_small es)
    where
      by : (b : Bool) → place_of es k ≤ length es → cond b 0 (suc (place_of es k)) ≤ suc (length es)
      by true h = omega arith
      by false h = omega arith

  -- a key that no search finds is added at the end
  pub new_goes_last : (es : SettingMap) → None ≡ position (test k) (keys_of es) → insert_entry test es k [] ≡ with_key es k
  new_goes_last es h = goes_last es (beyond es h)

  pub new_place : (es : SettingMap) → None ≡ position (test k) (keys_of es) → length es ≡ place_of es k
  new_place es h = let b = beyond es h in omega (arith, b, place_small es)

-- a key that was entered is at its index
pub within : (es : SettingMap) (k : SettingKey) → place_of es k < length (with_key es k)
within [] k = omega arith
within (e ∷ es) k = by (same_key k e.0) (within es k)
  where
    by : (b : Bool) → place_of es k < length (with_key es k) → cond b 0 (suc (place_of es k)) < length (cond b ((e.0, e.1) ∷ es) (e ∷ with_key es k))
    by true h = omega arith
    by false h = omega arith

-- a write at the index of a key changes its values
pub written : (change : List Text → List Text) (es : SettingMap) (k : SettingKey) (values : List Text) → slice_get (values_of (with_key es k)) (place_of es k) ≡ Some values → set_value_at (with_key es k) (place_of es k) (change values) ≡ changed change es k
written change [] k values h = let e : [] ≡ values = cc (h) in ap (λ v. (k, change v) ∷ []) (sym e)
written change (e ∷ es) k values h = by (same_key k e.0) h (written change es k values)
  where
    by : (b : Bool) → slice_get (values_of (cond b ((e.0, e.1) ∷ es) (e ∷ with_key es k))) (cond b 0 (suc (place_of es k))) ≡ Some values → (slice_get (values_of (with_key es k)) (place_of es k) ≡ Some values → set_value_at (with_key es k) (place_of es k) (change values) ≡ changed change es k) → set_value_at (cond b ((e.0, e.1) ∷ es) (e ∷ with_key es k)) (cond b 0 (suc (place_of es k))) (change values) ≡ cond b ((e.0, change e.1) ∷ es) (e ∷ changed change es k)
    by true h more = let v : e.1 ≡ values = cc (h) in ap (λ v. (e.0, change v) ∷ es) (sym v)
    by false h more = ap (λ l. e ∷ l) (more h)

-- the same for a map and an index equal to these
pub written_at : (change : List Text → List Text) (old : SettingMap) (k : SettingKey) (es : SettingMap) (i : ℕ) (values new : List Text) → es ≡ with_key old k → i ≡ place_of old k → slice_get (values_of es) i ≡ Some values → new ≡ change values → set_value_at es i new ≡ changed change old k
written_at change old k es i values new e p v n =
    ap (λ m. set_value_at m i new) e ∙ ap (λ j. set_value_at (with_key old k) j new) p ∙ ap (set_value_at (with_key old k) (place_of old k)) n
    ∙ written change old k values (sym (ap (λ m. slice_get (values_of m) i) e ∙ ap (λ j. slice_get (values_of (with_key old k)) j) p) ∙ v)

pub within_at : (old : SettingMap) (k : SettingKey) (es : SettingMap) (i : ℕ) → es ≡ with_key old k → i ≡ place_of old k → i < length es
within_at old k es i e p = let w = within old k in omega (arith, w, p, ap length e)
