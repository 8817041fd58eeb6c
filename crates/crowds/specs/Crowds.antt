-- What a crowd writes, and how many places are held then.
-- Source: this project's own.
use Rattle.std.proofs.Common.{if◌then◌else◌, ◌++◌, ◌==◌}
use Rattle.crowds.specs.Prelude.{[], codes, decimal, Edit, edits_of, EntryMap, Fleet, Gone, List, map, PathParts, PlaceParts, range_with_len, sum_of, ℕ}
use Rattle.std.specs.FinMap as finmap

-- the path of a worker's own file
unfoldable pub crowd_path : ℕ → PathParts
crowd_path worker = record { rank = 0; folder = []; name = codes "crowd-" ++ decimal worker ++ codes ".service" }

-- the file is for the whole fleet
abbrev pub crowd_place : ℕ → PlaceParts
crowd_place worker = record { scope = Fleet; path = crowd_path worker }

-- what a worker writes in its edit with this number
abbrev pub crowd_text : ℕ → ℕ → List ℕ
crowd_text worker number = codes "[Unit]\nDescription=" ++ decimal worker ++ codes " " ++ decimal number ++ codes "\n"

-- the places that `workers` workers write, each with `edits` edits
abbrev pub crowd_places : ℕ → ℕ → List PlaceParts
crowd_places workers edits = if edits == 0 then [] else map crowd_place (range_with_len 0 workers)

-- an edit at a place; its version and content don't matter where places are counted
abbrev pub edit_at : PlaceParts → Edit
edit_at place = record { place = place; version = record { counter = 0; writer = 0 }; content = Gone }

-- how many places are held by the sum of what a store has and of edits at these places
abbrev pub places_with : EntryMap → List PlaceParts → ℕ
places_with s places = finmap.len (sum_of (edits_of s ++ map edit_at places))
