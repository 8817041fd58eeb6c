-- Positions of a key among pairs sorted by key.
-- Source: this project's own.
use Rattle.std.proofs.Common.{◌∷◌, ◌≡◌, ◌≢◌}
use Rattle.sorted_pairs.specs.Prelude.{[], Equal, Greater, Less, List, Ordering, suc, zero, ℕ}

module _ {K V : Type 0} (R : K → K → Ordering) (k : K) where
  -- the key is at index i, after lesser keys
  abbrev pub IsAt : List (K × V) → ℕ → Type 0
  IsAt [] i = ⊥
  IsAt (e ∷ es) zero = R k e.0 ≡ Equal
  IsAt (e ∷ es) (suc i) = (R k e.0 ≡ Greater) × IsAt es i

  -- the key is absent, and belongs at index i, between lesser keys and a greater one
  abbrev pub IsGap : List (K × V) → ℕ → Type 0
  IsGap [] zero = Unit {0}
  IsGap [] (suc i) = ⊥
  IsGap (e ∷ es) zero = R k e.0 ≡ Less
  IsGap (e ∷ es) (suc i) = (R k e.0 ≡ Greater) × IsGap es i

  -- the key is above all of these
  abbrev pub AreBelow : List (K × V) → Type 0
  AreBelow [] = Unit {0}
  AreBelow (e ∷ es) = (R e.0 k ≡ Less) × AreBelow es

  -- the first of these, if any, is not below the key
  abbrev pub IsNotBelow : List (K × V) → Type 0
  IsNotBelow [] = Unit {0}
  IsNotBelow (e ∷ es) = R e.0 k ≢ Less
