-- The places of two stores in one list, each with what both show there, and the places where that differs.
-- Source: this project's own.
use Rattle.std.proofs.Common.{◌∷◌}
use Rattle.path_maps.specs.{Prelude.{[], Bool, Content, content_cmp, Entry, eq_by_cmp, filter, List, map, match_ordering, None, not, Option, option_and_then, option_eq, place_cmp, PlaceParts, Some}, Zipped.{Compared}}
use Rattle.edit_sums.specs.Sums as sums

-- What a store shows at a place, and what an older store shows there.
abbrev pub Contents : Type 0
Contents = Option Content × Option Content

-- A place with these contents.
abbrev pub Shown : Type 0
Shown = PlaceParts × Contents

-- For a place that only one store holds, and for one that both hold.
abbrev pub only_new : PlaceParts × Entry → Shown
only_new e = (e.0, (sums.shown e.1, None))

abbrev pub only_old : PlaceParts × Entry → Shown
only_old f = (f.0, (None, sums.shown f.1))

abbrev pub of_both : PlaceParts × Entry → PlaceParts × Entry → Shown
of_both e f = (e.0, (sums.shown e.1, sums.shown f.1))

-- The first entry of a store and the rest of the store, merged in step with an older store.
abbrev pub first_zipped : PlaceParts × Entry → (List (PlaceParts × Entry) → List Shown) → List (PlaceParts × Entry) → List Shown
first_zipped e rest [] = only_new e ∷ rest []
first_zipped e rest (f ∷ fs) =
    match_ordering (place_cmp e.0 f.0) (only_new e ∷ rest (f ∷ fs)) (of_both e f ∷ rest fs) (only_old f ∷ first_zipped e rest fs)

-- All places that a store or an older store holds, in order.
abbrev pub together : List (PlaceParts × Entry) → List (PlaceParts × Entry) → List Shown
together [] fs = map only_old fs
together (e ∷ es) fs = first_zipped e (together es) fs

-- What the two stores show differs.
abbrev pub differ : Shown → Bool
differ s = not (option_eq (eq_by_cmp content_cmp) s.1.0 s.1.1)

-- The places where it differs.
abbrev pub differing : List Shown → List PlaceParts
differing ss = map (λ s. s.0) (filter differ ss)

-- For an entry of one store, with what an older store holds at its place.
abbrev pub shown_zipped : Compared PlaceParts → Shown
shown_zipped c = (c.0.0, (sums.shown c.0.1, option_and_then sums.shown c.1))

-- The places of such entries where what is shown differs.
abbrev pub differing_zipped : List (Compared PlaceParts) → List PlaceParts
differing_zipped cs = differing (map shown_zipped cs)

-- A list from its optional first item and the items after it; empty if there is no first.
abbrev pub from_first : {A : Type 0} → Option A → List A → List A
from_first None xs = []
from_first (Some x) xs = x ∷ xs
