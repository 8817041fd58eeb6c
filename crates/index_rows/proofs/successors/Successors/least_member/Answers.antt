use Rattle.std.proofs.Common.{◌++◌, ◌∷◌, ◌⊎◌}
use Rattle.index_rows.proofs.Prelude.{[], Bool, Bor, inl, inr, IsAmong, IsLeastOrNone, IsMember, length, List, more_kinds, neighbors_of, one_kind, refl, subst, successors_from, sym, take, ℕ}
use Rattle.index_rows.proofs.Insides.{kind_adjacency, kind_more, least_of_both, least_same, lesser_is, neighbors_inside, neighbors_there}
use Rattle.index_rows.proofs.successors.Successors.least_member.Goals as goal

-- the adjacency lists of this kind
abbrev now : Bor (List (List ℕ)) → List (List ℕ)
now adjacency = adjacency.now

-- a member to which an edge of one more kind leads, or of the others
module _ (old : List (List (List ℕ))) (adjacency : List (List ℕ)) (node : ℕ) (bits : List Bool) where
  either_there : (v : ℕ) → (IsAmong v (successors_from old node) × IsMember bits v) ⊎ (IsAmong v (neighbors_of adjacency node) × IsMember bits v) → IsAmong v (successors_from (old ++ adjacency ∷ []) node) × IsMember bits v
  either_there v (inl h) = ((more_kinds old (adjacency ∷ []) node v).1 (inl h.0), h.1)
  either_there v (inr h) = ((more_kinds old (adjacency ∷ []) node v).1 (inr ((one_kind adjacency node v).1 h.0)), h.1)

  either_back : (v : ℕ) → IsAmong v (successors_from (old ++ adjacency ∷ []) node) × IsMember bits v → (IsAmong v (successors_from old node) × IsMember bits v) ⊎ (IsAmong v (neighbors_of adjacency node) × IsMember bits v)
  either_back v h = elim ((more_kinds old (adjacency ∷ []) node v).0 h.0) [ inl a ↦ inl (a, h.1) | inr a ↦ inr ((one_kind adjacency node v).0 a, h.1) ]

pub neighbors-requires : goal.neighbors-requires
neighbors-requires c =
    let adjacency = kind_adjacency now c.args.self.now c.self.inside.kinds.items c.deref-adjacency-items.result.now c.deref-adjacency-items.ensures.value c.self.view_is c.loop-adjacency.adjacency-index c.adjacency-item.result c.loop-adjacency-test.true c.adjacency-item.is (length c.args.bits.now) c.requires.successors in
    neighbors_there _ _ c.adjacency-item.result.now c.args.node adjacency refl c.requires.node

pub least_member-requires : goal.least_member-requires
least_member-requires c =
    let adjacency = kind_adjacency now c.args.self.now c.self.inside.kinds.items c.deref-adjacency-items.result.now c.deref-adjacency-items.ensures.value c.self.view_is c.loop-adjacency.adjacency-index c.adjacency-item.result c.loop-adjacency-test.true c.adjacency-item.is (length c.args.bits.now) c.requires.successors in
    neighbors_inside _ _ c.adjacency-item.result.now c.args.node c.neighbors.result.now adjacency refl c.neighbors.ensures

pub loop-adjacency-preserved : goal.loop-adjacency-preserved
loop-adjacency-preserved c =
    let node = c.args.node in
    let bits = c.args.bits.now in
    let i = c.loop-adjacency.adjacency-index in
    let more = kind_more now c.args.self.now c.self.inside.kinds.items c.deref-adjacency-items.result.now c.deref-adjacency-items.ensures.value c.self.view_is c.loop-adjacency.adjacency-index c.adjacency-item.result c.loop-adjacency-test.true c.adjacency-item.is in
    let old = take i c.args.self.now in
    let adjacency = c.adjacency-item.result.now in
    let P : List ℕ → ℕ → Type 0 = λ l v. IsAmong v l × IsMember bits v in
    let Q : List ℕ → Type 0 = λ l. IsLeastOrNone (P l) c.least_member.result in
    let K : List (List (List ℕ)) → Type 0 = λ ks. IsLeastOrNone (P (successors_from ks node)) c.lesser-least.result in
    let two = lesser_is (P (successors_from old node)) (P (neighbors_of adjacency node)) c.loop-adjacency.least c.least_member.result c.loop-adjacency.invariant (subst Q c.neighbors.ensures (least_of_both (λ v. IsAmong v c.neighbors.result.now) (IsMember bits) c.least_member.result c.least_member.ensures)) in
    let both = subst (λ o. IsLeastOrNone (λ v. P (successors_from old node) v ⊎ P (neighbors_of adjacency node) v) o) (sym c.lesser-least.ensures) two in
    subst K (sym more) (least_same (λ v. P (successors_from old node) v ⊎ P (neighbors_of adjacency node) v) (P (successors_from (old ++ adjacency ∷ []) node)) (either_there old adjacency node bits) (either_back old adjacency node bits) c.lesser-least.result both)
