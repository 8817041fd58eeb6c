-- What a refusal of a load means.
-- Source: this project's own.
use Rattle.parallel_load.specs.{declared.faults.LoadFault.{LoadFault, TheVariants.{Memory, TooManyUnits, Workers}}, Prelude.{ClosureFault, refusal_in_rounds, WorkersFault}}
use Rattle.worker_rounds.specs.declared.faults.RoundFault.TheVariants as workers

-- the refusal of a closure by workers, as one of a load
abbrev pub refusal_by_workers : WorkersFault → LoadFault
refusal_by_workers workers.Workers = Workers
refusal_by_workers workers.TooMany = TooManyUnits
refusal_by_workers workers.Memory = Memory

-- the refusal of a closure by one thread, as one of a load
abbrev pub refusal_of : ClosureFault → LoadFault
refusal_of fault = refusal_by_workers (refusal_in_rounds fault)

-- if the refusal is that there are too many names, the fact holds
abbrev pub OnTooMany : LoadFault → Type 0 → Type 0
OnTooMany Workers P = Unit {0}
OnTooMany TooManyUnits P = P
OnTooMany Memory P = Unit {0}

-- if the refusal is of the number of workers, the fact holds
abbrev pub OnWorkers : LoadFault → Type 0 → Type 0
OnWorkers Workers P = P
OnWorkers TooManyUnits P = Unit {0}
OnWorkers Memory P = Unit {0}
