-- Facts that hold for every fault.
use Rattle.script_pipes.proofs.Prelude.{Err, Ok, OnErr, Result}

pub OnErr-any : {T E : Type 0} (P : Type 0) (r : Result T E) → P → OnErr r P
OnErr-any P (Ok x) p = tt
OnErr-any P (Err e) p = p
