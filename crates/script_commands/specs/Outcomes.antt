-- The outcome of a command.
-- Source: this project's own.
use Rattle.script_commands.specs.{declared.commands.{Fault.{Fault, TheVariants.{Memory, Refused}}, LineRefusal.{LineRefusal, TheVariants.{VersionsSpent}}}, Prelude.{Bool, Err, false, List, Ok, Result, true, ℕ, ⊤}}

-- the text of its answer, or a refusal
abbrev pub Outcome : Type 0
Outcome = Result (List ℕ) LineRefusal

-- P holds for the outcome, unless memory ran out
abbrev pub IsSaid : {T : Type 0} → (T → List ℕ) → Result T Fault → (Outcome → Type 0) → Type 0
IsSaid words (Ok text) P = P (Ok (words text))
IsSaid words (Err (Refused refusal)) P = P (Err refusal)
IsSaid words (Err Memory) P = ⊤

-- the outcome is that no counter is left
abbrev pub is_spent : Outcome → Bool
is_spent (Err VersionsSpent) = true
is_spent outcome = false
