use Rattle.std.proofs.Common.{◌<◌}
use Rattle.start_order.proofs.Prelude.{All, All-neighbors, IsAmong, IsLeast, IsMember, IsSome, least_along, length, List, MatchOption, nat_cmp, neighbors, None, Option, Precedes, refl, Some, subst, sym, ℕ}
use Rattle.start_order.proofs.cycles.blocker.Goals as goal

pub least_member-requires : goal.least_member-requires
least_member-requires c =
    let P : List ℕ → Type 0 = λ r. All (λ v. v < length c.args.stuck.now) r in
    subst P (sym c.neighbors.ensures) (All-neighbors _ _ c.args.node c.requires.adjacency)

-- where there is something, a search finds something
found : {X : Type 0} (N : Type 0) (Y : X → Type 0) (o : Option X) → MatchOption o N Y → ¬ N → IsSome o
found N Y None m out = absurd (out m)
found N Y (Some x) m out = refl

pub unwrap-requires : goal.unwrap-requires
unwrap-requires c =
    let near = c.neighbors.result.now in
    let stuck = c.args.stuck.now in
    let P : List ℕ → Type 0 = λ r. (v : ℕ) × (IsMember stuck v × IsAmong v r) in
    let some = subst P (sym c.neighbors.ensures) c.requires.blocked in
    found ((v : ℕ) → IsAmong v near → ¬ IsMember stuck v) (IsLeast nat_cmp (λ v. IsAmong v near × IsMember stuck v)) c.least_member.result c.least_member.ensures (λ none. none some.0 some.1.1 some.1.0)

pub returns : goal.returns
returns c =
    let stuck = c.args.stuck.now in
    let before : ℕ → Type 0 = λ v. Precedes c.args.before.now v c.args.node in
    let M : List ℕ → Option ℕ → Type 0 = λ r o. MatchOption o ((v : ℕ) → IsAmong v r → ¬ IsMember stuck v) (IsLeast nat_cmp (λ v. IsAmong v r × IsMember stuck v)) in
    let least = subst (λ o. M (neighbors c.args.before.now c.args.node) o) c.unwrap.ensures (subst (λ r. M r c.least_member.result) c.neighbors.ensures c.least_member.ensures) in
    least_along nat_cmp (λ v. before v × IsMember stuck v) (λ v. IsMember stuck v × before v) (λ v h. (h.1, h.0)) (λ v h. (h.1, h.0)) c.unwrap.result least
