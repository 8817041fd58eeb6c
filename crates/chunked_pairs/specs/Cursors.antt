-- What a cursor passes.
-- Source: this project's own.
use Rattle.std.proofs.Common.{◌++◌, ◌∷◌, ◌≡◌}
use Rattle.chunked_pairs.specs.Prelude.{[], Equal, Greater, Less, List, Ordering}
use Rattle.chunked_pairs.specs.Chunks.{AllKeys}

module _ {K V : Type 0} (R : K → K → Ordering) (k : K) where
  -- what is left after pairs below a key
  pub record IsAfter (pairs left : List (K × V)) : Type 0 where
    pub passed : List (K × V)
    pub parts : pairs ≡ passed ++ left
    pub below : AllKeys (λ q. R q k ≡ Less) passed

  -- the first pair compares so with the key; `Less` says nothing
  abbrev pub StandsFirst : List (K × V) → Ordering → Type 0
  StandsFirst es Less = Unit {0}
  StandsFirst [] Equal = ⊥
  StandsFirst (e ∷ es) Equal = R e.0 k ≡ Equal
  StandsFirst [] Greater = ⊥
  StandsFirst (e ∷ es) Greater = R e.0 k ≡ Greater
