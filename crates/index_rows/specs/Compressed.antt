-- Lists that stand one after another in a single list, each up to its end: definitions for private fields.
-- Source: this project's own.
use Rattle.std.proofs.Common.{◌∷◌, ◌≡◌, ◌≤◌}
use Rattle.index_rows.specs.Prelude.{[], List, slice_index_or, slice_range, suc, zero, ℕ}

-- the lists that have these ends, from a start on
abbrev pub cut : ℕ → List ℕ → List ℕ → List (List ℕ)
cut start [] targets = []
cut start (end ∷ ends) targets = slice_range targets start end ∷ cut end ends targets

-- the ends ascend from a start, and all `count` targets are in the lists
abbrev pub AreEnds : ℕ → List ℕ → ℕ → Type 0
AreEnds start [] count = start ≡ count
AreEnds start (end ∷ ends) count = (start ≤ end) × AreEnds end ends count

-- where the list of a node begins: at the end of the one before it
abbrev pub start_at : ℕ → List ℕ → ℕ → ℕ
start_at start ends zero = start
start_at start ends (suc node) = slice_index_or ends node 0
