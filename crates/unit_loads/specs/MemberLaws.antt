-- The members of lists that are made from lists.
use Rattle.std.proofs.Common.{◌∷◌, ◌≡◌, ◌⊎◌}
use Rattle.unit_loads.specs.Prelude.{[], ap, Bool, cond, cons_option, false, filter, filter_map, flat_map, inl, inr, IsAmong, IsAmong-append_cases, IsAmong-append_left, IsAmong-append_right, List, map, None, Option, refl, Some, subst, sym, true, ◌∙◌}

-- a member of the list is in this relation to y
pub record HasSource {X Y : Type 0} (made : X → Y → Type 0) (xs : List X) (y : Y) : Type 0 where
  pub source : X
  pub there : IsAmong source xs
  pub makes : made source y

module _ {X Y : Type 0} where
  later : (made : X → Y → Type 0) (x : X) (xs : List X) (y : Y) → HasSource made xs y → HasSource made (x ∷ xs) y
  later made x xs y h = record { source = h.source; there = inr h.there; makes = h.makes }

  pub among_map : (f : X → Y) (xs : List X) (y : Y) → IsAmong y (map f xs) → HasSource (λ x z. f x ≡ z) xs y
  among_map f [] y h = absurd h
  among_map f (x ∷ xs) y (inl e) = record { source = x; there = inl refl; makes = e }
  among_map f (x ∷ xs) y (inr h) = later (λ x z. f x ≡ z) x xs y (among_map f xs y h)

  pub map_among : (f : X → Y) (xs : List X) (x : X) → IsAmong x xs → IsAmong (f x) (map f xs)
  map_among f [] x h = absurd h
  map_among f (z ∷ xs) x (inl e) = inl (ap f e)
  map_among f (z ∷ xs) x (inr h) = inr (map_among f xs x h)

  pub among_flat_map : (f : X → List Y) (xs : List X) (y : Y) → IsAmong y (flat_map f xs) → HasSource (λ x z. IsAmong z (f x)) xs y
  among_flat_map f [] y h = absurd h
  among_flat_map f (x ∷ xs) y h = by (among_flat_map f xs y) (IsAmong-append_cases y (f x) (flat_map f xs) h)
    where
      by : (IsAmong y (flat_map f xs) → HasSource (λ x z. IsAmong z (f x)) xs y)
          → IsAmong y (f x) ⊎ IsAmong y (flat_map f xs) → HasSource (λ x z. IsAmong z (f x)) (x ∷ xs) y
      by more (inl a) = record { source = x; there = inl refl; makes = a }
      by more (inr b) = later (λ x z. IsAmong z (f x)) x xs y (more b)

  pub flat_map_among : (f : X → List Y) (xs : List X) (x : X) (y : Y) → IsAmong x xs → IsAmong y (f x) → IsAmong y (flat_map f xs)
  flat_map_among f [] x y h k = absurd h
  flat_map_among f (z ∷ xs) x y (inl e) k = IsAmong-append_left y (f z) (flat_map f xs) (subst (λ (w : X). IsAmong y (f w)) (sym e) k)
  flat_map_among f (z ∷ xs) x y (inr h) k = IsAmong-append_right y (f z) (flat_map f xs) (flat_map_among f xs x y h k)

  pub among_filter_map : (f : X → Option Y) (xs : List X) (y : Y) → IsAmong y (filter_map f xs) → HasSource (λ x z. f x ≡ Some z) xs y
  among_filter_map f [] y h = absurd h
  among_filter_map f (x ∷ xs) y h = by (among_filter_map f xs y) (f x) refl h
    where
      by : (IsAmong y (filter_map f xs) → HasSource (λ x z. f x ≡ Some z) xs y) → (o : Option Y) → f x ≡ o
          → IsAmong y (cons_option o (filter_map f xs)) → HasSource (λ x z. f x ≡ Some z) (x ∷ xs) y
      by more None e a = later (λ x z. f x ≡ Some z) x xs y (more a)
      by more (Some z) e (inl a) = record { source = x; there = inl refl; makes = e ∙ ap Some a }
      by more (Some z) e (inr a) = later (λ x z. f x ≡ Some z) x xs y (more a)

  pub filter_map_among : (f : X → Option Y) (xs : List X) (x : X) (y : Y) → IsAmong x xs → f x ≡ Some y → IsAmong y (filter_map f xs)
  filter_map_among f [] x y h k = absurd h
  filter_map_among f (z ∷ xs) x y (inl e) k =
      subst (λ (o : Option Y). IsAmong y (cons_option o (filter_map f xs))) (sym (ap f e ∙ k)) (inl refl)
  filter_map_among f (z ∷ xs) x y (inr h) k = by (filter_map_among f xs x y h k) (f z)
    where
      by : IsAmong y (filter_map f xs) → (o : Option Y) → IsAmong y (cons_option o (filter_map f xs))
      by more None = more
      by more (Some w) = inr more

module _ {X : Type 0} (p : X → Bool) where
  pub among_filter : (xs : List X) (x : X) → IsAmong x (filter p xs) → IsAmong x xs × (p x ≡ true)
  among_filter [] x h = absurd h
  among_filter (z ∷ xs) x h = by (among_filter xs x) (p z) refl h
    where
      by : (IsAmong x (filter p xs) → IsAmong x xs × (p x ≡ true)) → (b : Bool) → p z ≡ b
          → IsAmong x (cond b (z ∷ filter p xs) (filter p xs)) → IsAmong x (z ∷ xs) × (p x ≡ true)
      by more true e (inl a) = (inl a, ap p (sym a) ∙ e)
      by more true e (inr a) = let m = more a in (inr m.0, m.1)
      by more false e a = let m = more a in (inr m.0, m.1)

  pub filter_among : (xs : List X) (x : X) → IsAmong x xs → p x ≡ true → IsAmong x (filter p xs)
  filter_among [] x h k = absurd h
  filter_among (z ∷ xs) x (inl e) k =
      subst (λ (b : Bool). IsAmong x (cond b (z ∷ filter p xs) (filter p xs))) (sym (ap p e ∙ k)) (inl e)
  filter_among (z ∷ xs) x (inr h) k = by (filter_among xs x h k) (p z)
    where
      by : IsAmong x (filter p xs) → (b : Bool) → IsAmong x (cond b (z ∷ filter p xs) (filter p xs))
      by more true = inr more
      by more false = more
