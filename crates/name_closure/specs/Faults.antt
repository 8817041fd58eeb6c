-- What an error of a closure says.
-- Source: this project's own.
use Rattle.name_closure.specs.declared.loads.ClosureFault.{ClosureFault, TheVariants.{Memory, TooMany}}

-- if the error is `TooMany`, the fact holds
abbrev pub OnTooMany : ClosureFault → Type 0 → Type 0
OnTooMany TooMany P = P
OnTooMany Memory P = Unit {0}
