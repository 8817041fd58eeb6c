-- Lists that grow at their end, and comparisons of numbers.
use Rattle.std.proofs.Common.{◌++◌, ◌<◌, ◌∷◌, ◌≡◌, ◌⊎◌}
use Rattle.index_rows.specs.Prelude.{[], All, All-contains, arith, contains_from_among, inl, inr, IsAmong, IsAmong-append_cases, IsAmong-append_right, length, Less, List, nat_cmp, nat_cmp_is, ranked, refl, sym, ℕ}

pub IsAmong-push : {X : Type 0} (x : X) (xs : List X) → IsAmong x (xs ++ x ∷ [])
IsAmong-push x xs = IsAmong-append_right x xs (x ∷ []) (inl refl)

pub IsAmong-push_cases : {X : Type 0} (x v : X) (xs : List X) → IsAmong v (xs ++ x ∷ []) → IsAmong v xs ⊎ (x ≡ v)
IsAmong-push_cases x v xs h = elim (IsAmong-append_cases v xs (x ∷ []) h) [ inl a ↦ inl a | inr a ↦ elim a [ inl e ↦ inr e | inr none ↦ absurd none ] ]

-- what holds of all members of a list
pub All-among : {X : Type 0} (P : X → Type 0) (xs : List X) (x : X) → All P xs → IsAmong x xs → P x
All-among P xs x all h = All-contains P xs x all (contains_from_among x xs h)

pub empty_list : {X : Type 0} (xs : List X) → length xs ≡ 0 → xs ≡ []
empty_list [] e = refl
empty_list (x ∷ xs) e = absurd (omega arith)

pub below_cmp : (x y : ℕ) → x < y → nat_cmp x y ≡ Less
below_cmp x y l = sym (nat_cmp_is x y Less l)

pub cmp_below : (x y : ℕ) → nat_cmp x y ≡ Less → x < y
cmp_below x y e = ranked x y Less (sym e)
