-- Names in byte order, without duplicates.
use Rattle.std.proofs.Common.{◌||◌, ◌↔◌, ◌∷◌, ◌≡◌, ◌⊎◌}
use Rattle.setting_rules.specs.Prelude.{[], AllByRecursion, among_from_contains, and_parts, ap, below_all, Bool, Contains, contains_from_among, contains_key-keys, entries_sorted, eq_by_cmp, false, get-from_entries, inl, inr, is_eq, is_equal, is_less, is_some, is_some-find, is_sorted, IsAmong, IsStrictlySortedBy, IsTrue, Less, List, list_any, map, Name, name_cmp, name_cmp-IsAntisymmetric, nat_list_cmp_total, refl, sym, T, tied_itself, true, true≢false, ◌∙◌}
use Rattle.setting_rules.specs.Dependencies.{in_byte_order}
use Rattle.std.specs.FinMap as finmap

-- a name that compares as equal to a member is a member
pub IsAmong-from_any : (z : Name) (xs : List Name) → list_any (eq_by_cmp name_cmp z) xs ≡ true → IsAmong z xs
IsAmong-from_any z [] h = true≢false (sym h)
IsAmong-from_any z (y ∷ xs) h = by (eq_by_cmp name_cmp z y) refl h (IsAmong-from_any z xs)
  where
    by : (b : Bool) → eq_by_cmp name_cmp z y ≡ b → (b || list_any (eq_by_cmp name_cmp z) xs) ≡ true
        → (list_any (eq_by_cmp name_cmp z) xs ≡ true → IsAmong z xs) → (y ≡ z) ⊎ IsAmong z xs
    by true e h more = inl (sym (name_cmp-IsAntisymmetric z y (is_equal _ e)))
    by false e h more = inr (more h)

pub any-from_IsAmong : (z : Name) (xs : List Name) → IsAmong z xs → list_any (eq_by_cmp name_cmp z) xs ≡ true
any-from_IsAmong z [] h = absurd h
any-from_IsAmong z (y ∷ xs) (inl e) = ap (λ b. b || list_any (eq_by_cmp name_cmp z) xs) (ap (eq_by_cmp name_cmp z) e ∙ ap is_eq (tied_itself nat_list_cmp_total z))
any-from_IsAmong z (y ∷ xs) (inr h) = ap (λ b. eq_by_cmp name_cmp z y || b) (any-from_IsAmong z xs h) ∙ or_true (eq_by_cmp name_cmp z y)
  where
    or_true : (b : Bool) → (b || true) ≡ true
    or_true true = refl
    or_true false = refl

firsts_are : (names : List Name) → map (λ e. e.0) (map (λ name. let p : Name × Unit {0} = (name, tt) in p) names) ≡ names
firsts_are [] = refl
firsts_are (n ∷ names) = ap (λ l. n ∷ l) (firsts_are names)

-- sorting keeps the set of names
pub any-in_byte_order : (z : Name) (names : List Name)
    → list_any (eq_by_cmp name_cmp z) (in_byte_order names) ≡ list_any (eq_by_cmp name_cmp z) names
any-in_byte_order z names =
    let es = map (λ name. let p : Name × Unit {0} = (name, tt) in p) names in
    sym (contains_key-keys (finmap.from_entries {X = Unit {0}} {R = name_cmp} es) z)
    ∙ ap is_some (get-from_entries nat_list_cmp_total es z)
    ∙ is_some-find name_cmp z es ∙ ap (list_any (eq_by_cmp name_cmp z)) (firsts_are names)

above : (x : Name) (es : List (Name × Unit {0})) → IsTrue (below_all name_cmp x es)
    → AllByRecursion (λ y. name_cmp x y ≡ Less) (map (λ e. e.0) es)
above x [] h = tt
above x (e ∷ es) h = (is_less _ (and_parts _ _ h).0, above x es (and_parts _ _ h).1)

ascending : (es : List (Name × Unit {0})) → IsTrue (is_sorted name_cmp es) → IsStrictlySortedBy name_cmp (map (λ e. e.0) es)
unfolding IsStrictlySortedBy
ascending [] h = tt
ascending (e ∷ es) h = (above e.0 es (and_parts _ _ h).0, ascending es (and_parts _ _ h).1)

-- In byte order each name is below those after it, so it occurs once.
abbrev pub NamesAscend : Type 0
NamesAscend = (names : List Name) → IsStrictlySortedBy name_cmp (in_byte_order names)

-- The names are exactly those of the list.
abbrev pub NamesStay : Type 0
NamesStay = (names : List Name) (z : Name) → Contains (in_byte_order names) z ↔ Contains names z

is_true : (b : Bool) → T b → IsTrue b
is_true true h = refl
is_true false h = absurd h

pub names_ascend : NamesAscend
names_ascend names = ascending _ (is_true _ (entries_sorted (finmap.from_entries {X = Unit {0}} {R = name_cmp} (map (λ name. (name, tt)) names))))

pub names_stay : NamesStay
names_stay names z = (
  λ c. contains_from_among z names (IsAmong-from_any z names (sym (any-in_byte_order z names) ∙ any-from_IsAmong z (in_byte_order names) (among_from_contains z (in_byte_order names) c))),
  λ c. contains_from_among z (in_byte_order names) (IsAmong-from_any z (in_byte_order names) (any-in_byte_order z names ∙ any-from_IsAmong z names (among_from_contains z names c))),
)
