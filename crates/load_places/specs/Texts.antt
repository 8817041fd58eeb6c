-- Texts of places.
-- Source: this project's own.
use Rattle.std.proofs.Common.{if◌then◌else◌, ◌++◌, ◌+◌, ◌==◌, ◌∷◌, ◌≡◌}
use Rattle.load_places.specs.Prelude.{[], Bool, drop, Err, IsPath, IsTrue, List, None, Ok, Option, path_of, PathFault, PathParts, position, Result, Some, take, text_of, ℕ}
use Rattle.load_places.specs.{declared.{hosts.HostFault.{HostFault}, places.{PlaceFault.{PlaceFault, TheVariants.{Component, Depth, Directory, HostName, Memory}}, Scope.{Scope, TheVariants.{Fleet, Host}}}}, Hosts.{host_of, is_host}, Places.{PlaceParts}}
use Rattle.load_path.specs.declared.paths.PathFault.TheVariants as path
use Rattle.load_places.specs.declared.hosts.HostFault.TheVariants as host

-- What precedes the path in a text: nothing for the fleet; a name and a colon for a host.
abbrev pub scope_text : Scope → List ℕ
scope_text Fleet = []
scope_text (Host h) = h ++ 58 ∷ []

-- The text of a place.
abbrev pub place_text : PlaceParts → List ℕ
place_text p = scope_text p.scope ++ text_of p.path

abbrev pub is_colon : ℕ → Bool
is_colon b = b == 58

-- The index where the name of a host ends: the first colon of a text that doesn't begin with a slash.
abbrev pub host_end : List ℕ → Option ℕ
host_end [] = None
host_end (b ∷ bytes) = if b == 47 then None else position is_colon (b ∷ bytes)

abbrev pub fault_of_host : HostFault → PlaceFault
fault_of_host host.HostName = HostName
fault_of_host host.Memory = Memory

abbrev pub fault_of_path : PathFault → PlaceFault
fault_of_path path.Directory = Directory
fault_of_path path.Depth = Depth
fault_of_path path.Component = Component
fault_of_path path.Memory = Memory

-- The place of a path in a scope.
abbrev pub in_scope_of : Scope → Result PathParts PathFault → Result PlaceParts PlaceFault
in_scope_of scope (Ok path) = Ok (record { scope = scope; path = path })
in_scope_of scope (Err fault) = Err (fault_of_path fault)

-- A fault of the host is reported before a fault of the path.
abbrev pub of_host : Result (List ℕ) HostFault → Result PathParts PathFault → Result PlaceParts PlaceFault
of_host (Ok h) path = in_scope_of (Host h) path
of_host (Err fault) path = Err (fault_of_host fault)

abbrev pub place_cut : Option ℕ → List ℕ → Result PlaceParts PlaceFault
place_cut None text = in_scope_of Fleet (path_of text)
place_cut (Some at) text = of_host (host_of (take at text)) (path_of (drop (at + 1) text))

-- The place that a text names, or the first fault of the text.
abbrev pub place_of : List ℕ → Result PlaceParts PlaceFault
place_of text = place_cut (host_end text) text

-- A scope whose host has a valid name.
abbrev pub IsScope : Scope → Type 0
IsScope Fleet = Unit {0}
IsScope (Host h) = IsTrue (is_host h)

-- The text of each place is read back as the place, and a text that is read as a place is the text of this place.
pub record AreTheirTexts : Type 0 where
  pub read_back : (place : PlaceParts) → IsScope place.scope → IsPath place.path → place_of (place_text place) ≡ Ok place
  pub written_back : (text : List ℕ) (place : PlaceParts) → place_of text ≡ Ok place
      → (place_text place ≡ text) × IsScope place.scope × IsPath place.path
