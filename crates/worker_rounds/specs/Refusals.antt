-- What an error of a load by workers says.
-- Source: this project's own.
use Rattle.worker_rounds.specs.{declared.faults.RoundFault.{RoundFault, TheVariants.{Memory, TooMany, Workers}}, Prelude.{ClosureFault}}
use Rattle.name_closure.specs.declared.loads.ClosureFault.TheVariants as one_thread

-- an error of one thread, as an error of a load by workers
abbrev pub refusal_of : ClosureFault → RoundFault
refusal_of one_thread.TooMany = TooMany
refusal_of one_thread.Memory = Memory

-- if the error is `TooMany`, the fact holds
abbrev pub OnTooMany : RoundFault → Type 0 → Type 0
OnTooMany Workers P = Unit {0}
OnTooMany TooMany P = P
OnTooMany Memory P = Unit {0}
