-- Membership in a list.
-- Source: this project's own.
use Rattle.std.proofs.Common.{◌++◌, ◌∷◌, ◌≡◌, ◌⊎◌}
use Rattle.list_laws.specs.Prelude.{[], arith, Contains, Contains-append_cases, Contains-append_left, Contains-append_right, Contains-push, Contains-push_cases, inl, inr, List, subst}

-- the empty list has no members
pub none_there : {X C : Type 0} (x : X) → Contains [] x → C
none_there x c = absurd (omega (arith, c.1))

pub first_there : {X : Type 0} (x : X) (xs : List X) → Contains (x ∷ xs) x
first_there x xs = Contains-append_left (x ∷ []) xs x (Contains-push [] x)

pub later_there : {X : Type 0} (x y : X) (xs : List X) → Contains xs y → Contains (x ∷ xs) y
later_there x y xs c = Contains-append_right (x ∷ []) xs y c

-- the only member of a one-element list is that element
pub only_one : {X : Type 0} (x y : X) → Contains (x ∷ []) y → x ≡ y
only_one x y c = pick (Contains-push_cases [] x y c)
  where
    pick : Contains [] y ⊎ (x ≡ y) → x ≡ y
    pick (inl n) = none_there y n
    pick (inr e) = e

-- a member of a list is its first element or a member of the rest
pub first_or_later : {X : Type 0} (x y : X) (xs : List X) → Contains (x ∷ xs) y → (x ≡ y) ⊎ Contains xs y
first_or_later x y xs c = pick (Contains-append_cases (x ∷ []) xs y c)
  where
    pick : Contains (x ∷ []) y ⊎ Contains xs y → (x ≡ y) ⊎ Contains xs y
    pick (inl o) = inl (only_one x y o)
    pick (inr o) = inr o

-- membership by recursion: x is the first element or a member of the rest
abbrev pub IsAmong : {X : Type 0} → X → List X → Type 0
IsAmong x [] = ⊥
IsAmong x (y ∷ ys) = (y ≡ x) ⊎ IsAmong x ys

pub among_from_contains : {X : Type 0} (x : X) (xs : List X) → Contains xs x → IsAmong x xs
among_from_contains x [] c = none_there x c
among_from_contains x (y ∷ ys) c = pick (among_from_contains x ys) (first_or_later y x ys c)
  where
    pick : (Contains ys x → IsAmong x ys) → (y ≡ x) ⊎ Contains ys x → IsAmong x (y ∷ ys)
    pick more (inl e) = inl e
    pick more (inr o) = inr (more o)

pub contains_from_among : {X : Type 0} (x : X) (xs : List X) → IsAmong x xs → Contains xs x
contains_from_among x [] h = absurd h
contains_from_among x (y ∷ ys) (inl e) = subst (Contains (y ∷ ys)) e (first_there y ys)
contains_from_among x (y ∷ ys) (inr h) = later_there y x ys (contains_from_among x ys h)

pub IsAmong-append_cases : {X : Type 0} (x : X) (xs ys : List X) → IsAmong x (xs ++ ys) → IsAmong x xs ⊎ IsAmong x ys
IsAmong-append_cases x [] ys h = inr h
IsAmong-append_cases x (y ∷ xs) ys (inl h) = inl (inl h)
IsAmong-append_cases x (y ∷ xs) ys (inr h) = elim (IsAmong-append_cases x xs ys h) [ inl a ↦ inl (inr a) | inr b ↦ inr b ]

pub IsAmong-append_left : {X : Type 0} (x : X) (xs ys : List X) → IsAmong x xs → IsAmong x (xs ++ ys)
IsAmong-append_left x [] ys h = absurd h
IsAmong-append_left x (y ∷ xs) ys (inl h) = inl h
IsAmong-append_left x (y ∷ xs) ys (inr h) = inr (IsAmong-append_left x xs ys h)

pub IsAmong-append_right : {X : Type 0} (x : X) (xs ys : List X) → IsAmong x ys → IsAmong x (xs ++ ys)
IsAmong-append_right x [] ys h = h
IsAmong-append_right x (y ∷ xs) ys h = inr (IsAmong-append_right x xs ys h)
