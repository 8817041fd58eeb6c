-- Which messages of a service count as a take of its seat.
-- Source: this project's own.
use Rattle.shared_node.specs.{declared.{faults.NodeFault.{NodeFault}, serving.Step.{Step, TheVariants.{Answered, Pending, Refused}}}, Prelude.{Err, None, Ok, Option, Result, Some, ℕ}}
use Rattle.shared_node.specs.declared.faults.NodeFault.TheVariants as faults

-- how many takes a message counts
abbrev pub calls_of : Step → ℕ
calls_of Answered = 1
calls_of Pending = 1
calls_of Refused = 0

-- the same; the end counts as none
abbrev pub calls_in : Option Step → ℕ
calls_in None = 0
calls_in (Some s) = calls_of s

-- the result of a refused take
abbrev pub step_at_fault : {N : Type 0} → NodeFault N → Step
step_at_fault faults.NoSeat = Refused
step_at_fault (faults.Pending version) = Pending
step_at_fault (faults.TakesSpent token) = Refused
step_at_fault (faults.Disagree seen held) = Refused
step_at_fault faults.VersionsSpent = Refused
step_at_fault faults.Memory = Refused

-- the result of a take
abbrev pub step_at : {T N : Type 0} → Result T (NodeFault N) → Step
step_at (Ok _) = Answered
step_at (Err f) = step_at_fault f
