-- What is true of two outcomes together.
use Rattle.std.specs.Prelude.{Err, IfOk, Ok, Result}

pub if_both : {T E : Type 0} (r : Result T E) (P Q R : T → Type 0) → IfOk r P → IfOk r Q → ((x : T) → P x → Q x → R x) → IfOk r R
if_both (Ok x) P Q R p q f = f x p q
if_both (Err e) P Q R p q f = tt
