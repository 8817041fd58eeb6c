-- Maps as lists of pairs sorted by key, compared key by key.
use Rattle.std.{proofs.Common.{◌∷◌}, specs.FinMap.{find}}
use Rattle.join_law.specs.{Order.{IsLeast}, Prelude.{[], Bool, false, is_sorted, IsTrue, List, None, Option, Ordering, put, Some, true}}

module _ {V : Type 0} (below : V → V → Type 0) where
  -- an absent value is below every value; only a bottom value is below an absent one
  abbrev pub OptionBelow : Option V → Option V → Type 0
  OptionBelow None w = Unit {0}
  OptionBelow (Some v) None = IsLeast below v
  OptionBelow (Some v) (Some w) = below v w

  -- a value that a map may hold: valid, and not bottom
  pub record IsHeld (valid : V → Type 0) (v : V) : Type 0 where
    pub not_least : ¬ IsLeast below v
    pub well_formed : valid v

  -- every value of the list may be held
  abbrev pub AllHeld : (V → Type 0) → {K : Type 0} → List (K × V) → Type 0
  AllHeld valid [] = Unit {0}
  AllHeld valid (e ∷ es) = IsHeld valid e.1 × AllHeld valid es

module _ {K V : Type 0} (R : K → K → Ordering) (below : V → V → Type 0) where
  -- m is below n at every key
  pub record MapBelow (m n : List (K × V)) : Type 0 where
    pub at : (q : K) → OptionBelow below (find R q m) (find R q n)

  -- the keys are strictly ascending, and every value is valid and not bottom
  pub record IsMap (valid : V → Type 0) (m : List (K × V)) : Type 0 where
    pub sorted : IsTrue (is_sorted R m)
    pub held : AllHeld below valid m

-- the list is one pair, and its value is single
abbrev pub IsSinglePair : {K V : Type 0} → (V → Type 0) → List (K × V) → Type 0
IsSinglePair is_single [] = ⊥
IsSinglePair is_single (e ∷ []) = is_single e.1
IsSinglePair is_single (e ∷ f ∷ es) = ⊥

-- the join of an optional value with a value
abbrev pub joined_value : {V : Type 0} → (V → V → V) → Option V → V → V
joined_value join None y = y
joined_value join (Some x) y = join x y

-- the join of two maps: the first map, with each value of the second joined in at its key
abbrev pub map_union : {K V : Type 0} → (K → K → Ordering) → (V → V → V) → List (K × V) → List (K × V) → List (K × V)
map_union R join m [] = m
map_union R join m (e ∷ es) = put R e.0 (joined_value join (find R e.0 m) e.1) (map_union R join m es)

-- an absent map counts as empty
abbrev pub or_empty : {A : Type 0} → Option (List A) → List A
or_empty None = []
or_empty (Some m) = m

-- a test that is false for an absent value
abbrev pub is_some_and : {V : Type 0} → (V → Bool) → Option V → Bool
is_some_and test None = false
is_some_and test (Some v) = test v

-- a test that is true for an absent value
abbrev pub is_none_or : {V : Type 0} → (V → Bool) → Option V → Bool
is_none_or test None = true
is_none_or test (Some v) = test v
