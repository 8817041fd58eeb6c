-- Stores of before there were hosts: sums of flat edits, each the fleet's.
use Rattle.std.proofs.Common.{◌∷◌, ◌≡◌}
use Rattle.path_maps.specs.Prelude.{[], ap, at_fleet, EntryMap, FlatEdit, get-sum_of, greatest_at, Host, List, map, None, option_and_then, PathParts, refl, shown, sum_of, ℕ, ◌∙◌}
use Rattle.path_maps.specs.{HostLaws.{HoldsNothing, ShowsNothing}, Scopes.{within}}
use Rattle.std.specs.FinMap as finmap

-- none of these edits stands at a host's place
none_stands : (es : List FlatEdit) (host : List ℕ) (path : PathParts) → greatest_at (within (Host host) path) (map at_fleet es) ≡ None
none_stands [] host path = refl
none_stands (e ∷ es) host path = none_stands es host path

-- so their sum holds nothing at any host's places, and shows nothing
pub flat_holds_nothing : (s : EntryMap) (es : List FlatEdit) → s ≡ sum_of (map at_fleet es) → (host : List ℕ) → HoldsNothing s (Host host)
flat_holds_nothing s es sum host path =
    ap (λ (t : EntryMap). finmap.get t (within (Host host) path)) sum
    ∙ get-sum_of (map at_fleet es) (within (Host host) path)
    ∙ none_stands es host path

pub holds_shows : (s : EntryMap) (host : List ℕ) → HoldsNothing s (Host host) → ShowsNothing s (Host host)
holds_shows s host none path = ap (option_and_then shown) (none path)
