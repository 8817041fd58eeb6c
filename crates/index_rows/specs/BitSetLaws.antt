-- Bit sets to which nodes are added one by one.
use Rattle.std.proofs.Common.{◌+◌, ◌<◌, ◌∷◌, ◌≡◌, ◌⊎◌}
use Rattle.index_rows.specs.{Adjacency.{IsMember}, Prelude.{[], ap, arith, Bool, false, get_or, get_or_default, inl, inr, length, List, refl, replicate, set, suc, true, zero, ℕ}}

pub IsMember-within : (bits : List Bool) (v : ℕ) → IsMember bits v → v < length bits
IsMember-within [] v m = cc
IsMember-within (x ∷ xs) zero m = omega arith
IsMember-within (x ∷ xs) (suc v) m = let r = IsMember-within xs v m in omega arith

pub IsMember-none : (n v : ℕ) → ¬ IsMember (replicate n false) v
IsMember-none zero v h = cc
IsMember-none (suc n) zero h = cc
IsMember-none (suc n) (suc v) h = IsMember-none n v h

-- the members after one more node was added
pub IsMember-set : (bits : List Bool) (i v : ℕ) → i < length bits → IsMember (set bits i true) v → IsMember bits v ⊎ (i ≡ v)
IsMember-set [] i v lt h = absurd (omega arith)
IsMember-set (x ∷ xs) zero zero lt h = inr refl
IsMember-set (x ∷ xs) zero (suc v) lt h = inl h
IsMember-set (x ∷ xs) (suc i) zero lt h = inl h
IsMember-set (x ∷ xs) (suc i) (suc v) lt h = elim (IsMember-set xs i v (omega arith) h) [ inl m ↦ inl m | inr e ↦ inr (ap suc e) ]

pub IsMember-set_same : (bits : List Bool) (i : ℕ) → i < length bits → IsMember (set bits i true) i
IsMember-set_same [] i lt = absurd (omega arith)
IsMember-set_same (x ∷ xs) zero lt = refl
IsMember-set_same (x ∷ xs) (suc i) lt = IsMember-set_same xs i (omega arith)

pub IsMember-set_other : (bits : List Bool) (i v : ℕ) → IsMember bits v → IsMember (set bits i true) v
IsMember-set_other [] i v h = h
IsMember-set_other (x ∷ xs) zero zero h = refl
IsMember-set_other (x ∷ xs) zero (suc v) h = h
IsMember-set_other (x ∷ xs) (suc i) zero h = h
IsMember-set_other (x ∷ xs) (suc i) (suc v) h = IsMember-set_other xs i v h

-- a node is a member, or it isn't
pub member_or_not : (bits : List Bool) (v : ℕ) → IsMember bits v ⊎ ¬ IsMember bits v
member_or_not bits v = by (get_or bits v false)
  where
    by : (b : Bool) → (b ≡ true) ⊎ ¬ (b ≡ true)
    by true = inl refl
    by false = inr (λ e. cc)

-- a node that can't be missing is a member
pub member_unless : (bits : List Bool) (v : ℕ) → ¬ (¬ IsMember bits v) → IsMember bits v
member_unless bits v h = elim (member_or_not bits v) [ inl m ↦ m | inr out ↦ absurd (h out) ]

-- what reading a bit within the set says
pub member_read : (bits : List Bool) (i : ℕ) (x : Bool) → x ≡ get_or bits i x → i < length bits → x ≡ true → IsMember bits i
member_read bits i x e lt f = let d = get_or_default bits i false x lt in cc

pub non_members_read : (bits : List Bool) (i : ℕ) (x : Bool) → x ≡ get_or bits i x → i < length bits → x ≡ false → ¬ IsMember bits i
non_members_read bits i x e lt f m = let d = get_or_default bits i false x lt in cc

-- how many nodes aren't members
abbrev pub unset : List Bool → ℕ
unset [] = 0
unset (true ∷ xs) = unset xs
unset (false ∷ xs) = suc (unset xs)

pub unset-set : (bits : List Bool) (i : ℕ) → i < length bits → ¬ IsMember bits i → unset (set bits i true) + 1 ≡ unset bits
unset-set [] i lt h = absurd (omega arith)
unset-set (true ∷ xs) zero lt h = absurd (h refl)
unset-set (false ∷ xs) zero lt h = omega arith
unset-set (true ∷ xs) (suc i) lt h = unset-set xs i (omega arith) h
unset-set (false ∷ xs) (suc i) lt h = let r = unset-set xs i (omega arith) h in omega arith
