-- Indices that follow the order of names: what holds of indices, said of names.
-- Source: this project's own.
use Rattle.std.proofs.Common.{◌<◌, ◌≡◌}
use Rattle.index_rows.specs.Prelude.{Less, Ordering, ℕ}

module _ {N : Type 0} (count : ℕ) (name : ℕ → N) where
  -- the names of the indices below the count are strictly ascending
  pub record IsIndexing (order : N → N → Ordering) : Type 0 where
    pub ascends : (i j : ℕ) → i < j → j < count → order (name i) (name j) ≡ Less

  -- a set of indices below the count, and the set of their names
  pub record AreNames (indices : ℕ → Type 0) (names : N → Type 0) : Type 0 where
    pub within : (i : ℕ) → indices i → i < count
    pub named : (i : ℕ) → indices i → names (name i)
    pub indexed : (u : N) → names u → (i : ℕ) × (indices i × (name i ≡ u))

  -- edges between indices below the count, and the same edges between names
  abbrev pub AreNamedSuccessors : (ℕ → ℕ → Type 0) → (N → N → Type 0) → Type 0
  AreNamedSuccessors successors leads = (i : ℕ) → i < count → AreNames (successors i) (leads (name i))
