-- Outcomes of what is made and then written.
use Rattle.std.proofs.Common.{◌≡◌, ap, Err, List, Ok, Option, OnErr, OnOk, Result, subst, sym, take, ℕ}
use Rattle.std.specs.Prelude.{IfErr, IfOk, IsErrOf, IsOk, Vec}
use Rattle.std.specs.Io.KnownBytes.{Appends}
use Rattle.std.specs.declared.alloc.AllocError.{AllocError}
use Rattle.std.specs.declared.alloc.Global.{Global}
use Rattle.script_pipes.specs.KnownBytes.{AppendsPrefix}
use Rattle.script_pipes.specs.KnownBytesLaws.{Appends-nothing}

-- ---- an outcome alone

pub OnErr-any : {T E : Type 0} (P : Type 0) (r : Result T E) → P → OnErr r P
OnErr-any P (Ok x) p = tt
OnErr-any P (Err e) p = p

pub OnOk-map : {T E P Q : Type 0} (r : Result T E) → (P → Q) → OnOk r P → OnOk r Q
OnOk-map (Ok x) f p = f p
OnOk-map (Err e) f p = tt

pub OnErr-of : {T E P : Type 0} (r : Result T E) (e : E) → OnErr r P → IsErrOf r e → P
OnErr-of (Ok x) e p is = cc (is)
OnErr-of (Err f) e p is = p

-- ---- what is made and then written

module _ {K : Type 0} (contents : K → Option (List ℕ)) (old new : K) (bytes : List ℕ) where
  pub prefix_of_none : new ≡ old → AppendsPrefix (contents old) (contents new) bytes
  prefix_of_none same = (0, subst (λ k. Appends (contents old) (contents k) (take 0 bytes)) (sym same) (Appends-nothing (contents old)))

  pub made_written : {E : Type 0} (made : Result (Vec ℕ Global) AllocError) (r : Result (Unit {0}) E) → OnOk r (IsOk made)
      → OnOk r (IfOk made (λ b. Appends (contents old) (contents new) b.items)) → IfOk made (λ b. b.items ≡ bytes) → OnOk r (Appends (contents old) (contents new) bytes)
  made_written (Ok b) (Ok u) is written same = subst (Appends (contents old) (contents new)) same written
  made_written (Err f) (Ok u) is written same = cc (is)
  made_written made (Err e) is written same = tt

  pub made_prefix : {E : Type 0} (made : Result (Vec ℕ Global) AllocError) (r : Result (Unit {0}) E) → OnErr r (IfOk made (λ b. AppendsPrefix (contents old) (contents new) b.items))
      → IfErr made (λ _. new ≡ old) → IfOk made (λ b. b.items ≡ bytes) → OnErr r (AppendsPrefix (contents old) (contents new) bytes)
  made_prefix (Ok b) (Err e) prefix kept same = subst (AppendsPrefix (contents old) (contents new)) same prefix
  made_prefix (Err f) (Err e) prefix kept same = prefix_of_none kept
  made_prefix made (Ok u) prefix kept same = tt

-- a fault other than a refused write came before the write
pub unwritten : {K E : Type 0} (write : E) (old new : K) (made : Result (Vec ℕ Global) AllocError) (r : Result (Unit {0}) E) → IfErr made (λ _. new ≡ old)
    → IfOk made (λ _. IfErr r (λ fault. fault ≡ write)) → OnErr r ((IsErrOf r write → ⊥) → new ≡ old)
unwritten {K} {E} write old new (Ok b) (Err e) kept unmade =
    let fault : E → Result (Unit {0}) E = λ x. Err x in
    λ other. absurd (other (ap fault unmade))
unwritten write old new (Err f) (Err e) kept unmade = λ other. kept
unwritten write old new made (Ok u) kept unmade = tt
