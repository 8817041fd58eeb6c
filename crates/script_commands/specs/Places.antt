-- The places that words spell.
-- Source: this project's own.
use Rattle.std.proofs.Common.{◌≡◌, ◌⊎◌}
use Rattle.script_commands.specs.{declared.commands.Fault.{Fault, TheVariants.{Memory}}, Each.{each_read}, Faults.{fault_of_place}, Prelude.{Err, List, place_of, PlaceFault, PlaceParts, Result, ℕ}}

-- the places that some texts spell, or the first fault in the first that isn't a place
abbrev pub places_of : List (List ℕ) → Result (List PlaceParts) PlaceFault
places_of = each_read place_of

-- the fault of words that aren't places, or `Memory`
abbrev pub IsPlaceFault : {T : Type 0} → Result T PlaceFault → Fault → Type 0
IsPlaceFault {T} read fault = (fault ≡ Memory) ⊎ ((f : PlaceFault) × (◌≡◌ {A = Result T PlaceFault} read (Err f)) × (fault ≡ fault_of_place f))
