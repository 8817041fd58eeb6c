use Rattle.std.proofs.Common.{◌↔◌, ◌≡◌}
use Rattle.index_rows.proofs.Prelude.{Bool, Err, Global, IfOk, IsAmong, IsClosure, IsMember, IsReached, IsStrictlySortedBy, List, nat_cmp, Ok, Result, subst, Vec, ℕ}
use Rattle.index_rows.proofs.closures.closure.Goals as goal

-- the listed members are the closure
module _ {E : Type 0} (S : ℕ → Type 0) (L : ℕ → ℕ → Type 0) (bits read : List Bool) (same : read ≡ bits) (reached : (v : ℕ) → IsMember bits v ↔ IsReached S L v) where
  listed : (r : Result (Vec ℕ Global) E) → IfOk r (λ nodes. IsStrictlySortedBy nat_cmp nodes.items) → IfOk r (λ nodes. (v : ℕ) → IsAmong v nodes.items ↔ IsMember read v)
      → IfOk r (λ nodes. IsClosure S L nat_cmp nodes.items)
  listed (Err e) ascending members = tt
  listed (Ok nodes) ascending members =
      let P : List Bool → Type 0 = λ l. (v : ℕ) → IsAmong v nodes.items ↔ IsMember l v in
      let m = subst P same members in
      record { ascending = ascending; members = λ v. (λ h. (reached v).0 ((m v).0 h), λ r. (m v).1 ((reached v).1 r)) }

pub returns : goal.returns
returns c = listed _ _ _ _ c.deref.ensures.value c.in_ok-bits.ensures.reached _ c.members_of.ensures.ascending c.members_of.ensures.members
