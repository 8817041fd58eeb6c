-- Edges and sources that are given by lists.
use Rattle.std.proofs.Common.{◌∷◌}
use Rattle.name_closure.specs.Prelude.{[], flat_map, inl, inr, IsAmong, IsAmong-append_cases, IsAmong-append_left, IsAmong-append_right, List, refl, subst, sym}

-- the node is a member of the list
abbrev pub Listed : {N : Type 0} → List N → N → Type 0
Listed starts n = IsAmong n starts

-- the first node names the second
abbrev pub Named : {N : Type 0} → (N → List N) → N → N → Type 0
Named named n m = IsAmong m (named n)

module _ {A N : Type 0} (named : A → List N) where
  -- a member of the list names the node
  abbrev pub IsNamedBy : List A → N → Type 0
  IsNamedBy ms n = (m : A) × (IsAmong m ms × IsAmong n (named m))

  -- a member of the concatenated lists is named by one of the elements
  pub named_by : (ms : List A) (n : N) → IsAmong n (flat_map named ms) → IsNamedBy ms n
  named_by [] n h = absurd h
  named_by (m ∷ ms) n h = elim (IsAmong-append_cases n (named m) (flat_map named ms) h) [
    | inl a ↦ (m, (inl refl, a))
    | inr b ↦ (let r = named_by ms n b in (r.0, (inr r.1.0, r.1.1)))
  ]

  pub names_all : (ms : List A) (m : A) (n : N) → IsAmong m ms → IsAmong n (named m) → IsAmong n (flat_map named ms)
  names_all [] m n h a = absurd h
  names_all (o ∷ ms) m n (inl e) a = IsAmong-append_left n (named o) (flat_map named ms) (subst_named a)
    where
      subst_named : IsAmong n (named m) → IsAmong n (named o)
      subst_named b = subst (λ v. IsAmong n (named v)) (sym e) b
  names_all (o ∷ ms) m n (inr h) a = IsAmong-append_right n (named o) (flat_map named ms) (names_all ms m n h a)
