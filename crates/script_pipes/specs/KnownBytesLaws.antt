-- Known bytes over several calls.
use Rattle.std.proofs.Common.{◌++◌, ◌+◌}
use Rattle.script_pipes.specs.Prelude.{[], ap, append-nil, append_assoc, Appends, Consumes, Keeps, length, List, None, Option, refl, Some, subst, sym, take, take-append-add, take_at, ℕ, ◌∙◌}
use Rattle.script_pipes.specs.KnownBytes.{AppendsPrefix, AreAll}

-- some bytes are all of the known ones
pub AreAll-some : (known : Option (List ℕ)) → (bytes : List ℕ) × AreAll known bytes
AreAll-some None = ([], tt)
AreAll-some (Some bytes) = (bytes, refl)

-- a sink that isn't used accepts nothing
pub Appends-nothing : (known : Option (List ℕ)) → Appends known known []
Appends-nothing None = tt
Appends-nothing (Some bytes) = sym (append-nil bytes)

-- later writes are appended to earlier ones
pub Appends-append : (old mid new : Option (List ℕ)) (xs ys : List ℕ) → Appends old mid xs → Appends mid new ys → Appends old new (xs ++ ys)
Appends-append None mid new xs ys p q = tt
Appends-append (Some a) None new xs ys p q = absurd p
Appends-append (Some a) (Some b) None xs ys p q = absurd q
Appends-append (Some a) (Some b) (Some c) xs ys p q = q ∙ ap (λ v. v ++ ys) p ∙ append_assoc a xs ys

Appends-keeps : (old mid new : Option (List ℕ)) (xs : List ℕ) → Appends old mid xs → Keeps mid new → Appends old new xs
Appends-keeps None mid new xs p q = tt
Appends-keeps (Some a) None new xs p q = absurd p
Appends-keeps (Some a) (Some b) None xs p q = absurd q
Appends-keeps (Some a) (Some b) (Some c) xs p q = q ∙ p

-- if a write accepted nothing, what was written before is a prefix of everything to write
pub AppendsPrefix-keeps : (old mid new : Option (List ℕ)) (xs ys : List ℕ) → Appends old mid xs → Keeps mid new
    → AppendsPrefix old new (xs ++ ys)
AppendsPrefix-keeps old mid new xs ys p q =
    (length xs, subst (λ v. Appends old new v) (sym (take_at xs ys (length xs) refl)) (Appends-keeps old mid new xs p q))

-- a prefix written later is appended to what was written before
pub AppendsPrefix-append : (old mid new : Option (List ℕ)) (xs ys : List ℕ) → Appends old mid xs
    → AppendsPrefix mid new ys → AppendsPrefix old new (xs ++ ys)
AppendsPrefix-append old mid new xs ys p q = (length xs + q.0, subst (λ v. Appends old new v) (sym (take-append-add xs ys q.0)) (Appends-append old mid new xs (take q.0 ys) p q.1))

-- bytes read later followed those read before
pub Consumes-append : (old mid new : Option (List ℕ)) (xs ys : List ℕ) → Consumes old mid xs → Consumes mid new ys
    → Consumes old new (xs ++ ys)
Consumes-append None mid new xs ys p q = tt
Consumes-append (Some a) None new xs ys p q = absurd p
Consumes-append (Some a) (Some b) None xs ys p q = absurd q
Consumes-append (Some a) (Some b) (Some c) xs ys p q = p ∙ ap (λ v. xs ++ v) q ∙ sym (append_assoc xs ys c)

-- a read that returned nothing keeps the remaining bytes
pub Consumes-keeps : (old mid new : Option (List ℕ)) (xs : List ℕ) → Consumes old mid xs → Keeps mid new → Consumes old new xs
Consumes-keeps None mid new xs p q = tt
Consumes-keeps (Some a) None new xs p q = absurd p
Consumes-keeps (Some a) (Some b) None xs p q = absurd q
Consumes-keeps (Some a) (Some b) (Some c) xs p q = p ∙ ap (λ v. xs ++ v) (sym q)
