-- Words for private clauses: entries that are split after those of the first scope.
-- Source: this project's own.
use Rattle.std.proofs.Common.{◌++◌, ◌<◌, ◌∷◌, ◌≡◌}
use Rattle.std.specs.Prelude.{length, List}
use Rattle.load_places.specs.Places.{PlaceParts}
use Rattle.edit_sums.specs.Entries.{Entry}
use Rattle.store_bytes.specs.Parts.{by_path, parted}

-- the first entry and those after it of its scope, and the others
pub record IsFirstScope (list own others : List (PlaceParts × Entry)) : Type 0 where
  pub first : PlaceParts × Entry
  pub later : List (PlaceParts × Entry)
  pub own_is : own ≡ first ∷ later
  pub whole : list ≡ own ++ others
  pub parts : parted list ≡ (first.0.scope, by_path own) ∷ parted others
  pub fewer : length others < length list
