-- Facts that hold whatever a call returns.
use Rattle.std.proofs.Common.{◌≡◌}
use Rattle.join_law.specs.Prelude.{Bool, Err, false, IfErr, IfOk, IsErr, Ok, OnErr, OnFalse, OnOk, OnTrue, refl, Result, true}

pub on_err : {T E P : Type 0} (r : Result T E) → P → OnErr r P
on_err (Ok t) p = tt
on_err (Err e) p = p

pub not_ok : {T E : Type 0} (P : Type 0) (r : Result T E) → IsErr r → OnOk r P
not_ok P (Ok t) h = absurd (cc (h))
not_ok P (Err e) h = tt

pub on_err_weaker : {T E P Q : Type 0} (r : Result T E) → (P → Q) → OnErr r P → OnErr r Q
on_err_weaker (Ok t) f h = tt
on_err_weaker (Err e) f h = f h

pub on_ok_weaker : {T E P Q : Type 0} (r : Result T E) → (P → Q) → OnOk r P → OnOk r Q
on_ok_weaker (Ok t) f h = f h
on_ok_weaker (Err e) f h = tt

pub if_ok_weaker : {T E : Type 0} {P Q : T → Type 0} (r : Result T E) → ((t : T) → P t → Q t) → IfOk r P → IfOk r Q
if_ok_weaker (Ok t) f h = f t h
if_ok_weaker (Err e) f h = tt

pub by_outcome : {T E P Q A : Type 0} (r : Result T E) → (P → A) → (Q → A) → OnOk r P → OnErr r Q → A
by_outcome (Ok t) f g p q = f p
by_outcome (Err e) f g p q = g q

pub on_false_weaker : {P Q : Type 0} (b : Bool) → (P → Q) → OnFalse b P → OnFalse b Q
on_false_weaker true f h = tt
on_false_weaker false f h = f h

pub on_true_weaker : {P Q : Type 0} (b : Bool) → (P → Q) → OnTrue b P → OnTrue b Q
on_true_weaker true f h = f h
on_true_weaker false f h = tt

pub by_answer : {P Q A : Type 0} (b : Bool) → (P → A) → (Q → A) → OnTrue b P → OnFalse b Q → A
by_answer true f g p q = f p
by_answer false f g p q = g q

pub if_err_weaker : {T E : Type 0} {P Q : E → Type 0} (r : Result T E) → ((e : E) → P e → Q e) → IfErr r P → IfErr r Q
if_err_weaker (Ok t) f h = tt
if_err_weaker (Err e) f h = f e h

pub by_fault : {T E P A : Type 0} {Q : E → Type 0} (r : Result T E) → (P → A) → ((e : E) → Q e → A) → OnOk r P → IfErr r Q → A
by_fault (Ok t) f g p q = f p
by_fault (Err e) f g p q = g e q

pub by_made : {P Q A : Type 0} (b : Bool) → (b ≡ true → P → A) → (b ≡ false → Q → A) → OnTrue b P → OnFalse b Q → A
by_made true f g p q = f refl p
by_made false f g p q = g refl q

pub on_true_made : {P Q : Type 0} (b : Bool) → (b ≡ true → P → Q) → OnTrue b P → OnTrue b Q
on_true_made true f h = f refl h
on_true_made false f h = tt
