-- The request that words make, and the names that it asks for.
-- Source: this project's own.
use Rattle.std.proofs.Common.{◌≡◌, ◌⊎◌}
use Rattle.script_answers.specs.Prelude.{each_read, Err, Fault, fault_of_name, List, Memory, Name, name_of, NameFault, Ok, Request, Result, Viewer, ℕ}

-- the unit names that some words are, or the first thing wrong with the first that is none
abbrev pub names_in : List (List ℕ) → Result (List Name) NameFault
names_in = each_read name_of

abbrev pub request_with : Viewer → Result Name NameFault → Result (List Name) NameFault → Result Request NameFault
request_with viewer (Err fault) running = Err fault
request_with viewer (Ok target) (Err fault) = Err fault
request_with viewer (Ok target) (Ok running) = Ok (record { viewer = viewer; target = target; running = running })

-- the request of a viewer to start the unit of one word while those of the others run, or the first thing wrong with the
-- first that is none
abbrev pub request_of : Viewer → List ℕ → List (List ℕ) → Result Request NameFault
request_of viewer unit running = request_with viewer (name_of unit) (names_in running)

-- the fault of words that are no unit names, or that memory ran out
abbrev pub IsNameFault : {T : Type 0} → Result T NameFault → Fault → Type 0
IsNameFault {T} read fault = (fault ≡ Memory) ⊎ ((f : NameFault) × (◌≡◌ {A = Result T NameFault} read (Err f)) × (fault ≡ fault_of_name f))
