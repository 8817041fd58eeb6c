-- Facts about each element of a list, and lists that are compared.
use Rattle.std.proofs.Common.{◌++◌, ◌+◌, ◌<◌, ◌||◌, ◌↔◌, ◌∷◌, ◌≡◌}
use denote.Enum.Bare.{same_true}
use Rattle.parallel_load.proofs.Prelude.{[], All, All-append, All-cons, All-nil, among_from_contains, ap, arith, Bool, contains_from_among, dedup, DependencyList, DepKind, eq_by_cmp, false, first_true, get_or, in_byte_order, inl, inr, IsAmong, IsPermutation, IsSorted, IsStrictlySortedBy, length, List, list_any, Name, name_cmp, name_eq-Decides, names_ascend, names_stay, pointwise, refl, same_by, second_true, sorted_is, subst, suc, sym, take, take_more, true, zero, ℕ, ◌∙◌}
use Rattle.setting_rules.specs.contracts.dependency_lists.DependencyListPartialEq.TheImpl as list_eq
use Rattle.setting_rules.specs.contracts.kinds.DepKind as kinds

-- one more element with the property
pub all_more : {X : Type 0} (P : X → Type 0) (xs : List X) (i : ℕ) (d x : X) → i < length xs → x ≡ get_or xs i d → All P (take i xs) → P x → All P (take (i + 1) xs)
all_more P xs i d x l e h p =
    subst (All P) (sym (take_more xs i d l ∙ ap (λ y. take i xs ++ y ∷ []) (sym e))) (All-append P (take i xs) (x ∷ []) h (All-cons P x [] p (All-nil P)))

-- the element at a place, whatever the default
pub any_at : {X : Type 0} (xs : List X) (i : ℕ) (d e : X) → i < length xs → get_or xs i d ≡ get_or xs i e
any_at [] i d e l = absurd (omega arith)
any_at (x ∷ xs) zero d e l = refl
any_at (x ∷ xs) (suc i) d e l = any_at xs i d e (omega arith)

-- the element at a place is in the list
pub get_among : {X : Type 0} (xs : List X) (i : ℕ) (d : X) → i < length xs → IsAmong (get_or xs i d) xs
get_among [] i d l = absurd (omega arith)
get_among (x ∷ xs) zero d l = inl refl
get_among (x ∷ xs) (suc i) d l = inr (get_among xs i d (omega arith))

-- and each element of the list is at some place
pub place_among : {X : Type 0} (x d : X) (xs : List X) → IsAmong x xs → (i : ℕ) × ((i < length xs) × (get_or xs i d ≡ x))
place_among x d [] a = absurd a
place_among x d (y ∷ xs) (inl e) = (0, (omega arith, e))
place_among x d (y ∷ xs) (inr a) = let r = place_among x d xs a in let l = r.1.0 in (suc r.0, (omega arith, r.1.1))

-- ---- lists that are compared

one_same : (x y : DependencyList) → (list_eq.eq-value).it x y ≡ true → x ≡ y
one_same x y h =
    ap (λ (k : DepKind). let l : DependencyList = record { kind = k; names = x.names } in l) (same_true kinds.the_type tt x.kind y.kind (first_true _ _ h))
    ∙ ap (λ (ns : List Name). let l : DependencyList = record { kind = y.kind; names = ns } in l)
    (same_by (eq_by_cmp name_cmp) (λ a b. (name_eq-Decides a b).0) x.names y.names (second_true _ _ h))

pub lists_same : (xs ys : List DependencyList) → pointwise (list_eq.eq-value).it xs ys ≡ true → xs ≡ ys
lists_same xs ys h = same_by (list_eq.eq-value).it one_same xs ys h

-- ---- names in byte order

module _ (names s d : List Name) (permutation : IsPermutation names s) (sorted : IsSorted name_cmp s) (is : d ≡ dedup (eq_by_cmp name_cmp) s) where
  order : d ≡ in_byte_order names
  order = sorted_is names s d permutation sorted is

  pub order_ascends : IsStrictlySortedBy name_cmp d
  order_ascends = subst (IsStrictlySortedBy name_cmp) (sym order) (names_ascend names)

  pub order_stays : (part : List ℕ) → IsAmong part d ↔ IsAmong part names
  order_stays part = (
    λ h. among_from_contains part names ((names_stay names part).0 (contains_from_among part (in_byte_order names) (subst (IsAmong part) order h))),
    λ h. subst (IsAmong part) (sym order) (among_from_contains part (in_byte_order names) ((names_stay names part).1 (contains_from_among part names h))),
  )

-- the test finds a name that is in the list
pub any_there : (z : Name) (xs : List Name) → IsAmong z xs → list_any (λ y. eq_by_cmp name_cmp y z) xs ≡ true
any_there z [] h = absurd h
any_there z (y ∷ xs) (inl e) = ap (λ b. b || list_any (λ x. eq_by_cmp name_cmp x z) xs) ((name_eq-Decides y z).1 e)
any_there z (y ∷ xs) (inr h) = ap (λ b. eq_by_cmp name_cmp y z || b) (any_there z xs h) ∙ or_true (eq_by_cmp name_cmp y z)
  where
    or_true : (b : Bool) → (b || true) ≡ true
    or_true true = refl
    or_true false = refl
