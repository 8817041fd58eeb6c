use Rattle.std.proofs.Common.{◌≡◌}
use Rattle.index_rows.proofs.Prelude.{among_from_contains, Contains, Contains-dedup_nat, Contains-from_dedup, Contains-permutation, contains_from_among, dedup, dedup_is, eqb, IsPermutation-sym, IsStrictlyIncreasing-dedup, IsStrictlySortedBy, nat_cmp, sorted_from_strictly_increasing, subst, sym}
use Rattle.index_rows.proofs.adjacency.put_in_order.Goals as goal

pub returns-clause-ascending : goal.returns-clause-ascending
returns-clause-ascending c =
    let is : c.dedup.new.self.items ≡ dedup eqb c.sort_unstable.new.self.items = dedup_is eqb _ _ c.dedup.ensures.filtered in
    subst (IsStrictlySortedBy nat_cmp) (sym is) (sorted_from_strictly_increasing (dedup eqb c.sort_unstable.new.self.items) (IsStrictlyIncreasing-dedup c.sort_unstable.new.self.items c.sort_unstable.ensures.sorted))

pub returns-clause-members : goal.returns-clause-members
returns-clause-members c v =
    let is : c.dedup.new.self.items ≡ dedup eqb c.sort_unstable.new.self.items = dedup_is eqb _ _ c.dedup.ensures.filtered in
    let transposed = c.sort_unstable.ensures.permutation in (
      λ h. among_from_contains v c.args.nodes.now.items (Contains-permutation _ _ v (IsPermutation-sym _ _ transposed)
          (Contains-from_dedup eqb c.sort_unstable.new.self.items v (subst (λ l. Contains l v) is (contains_from_among v c.dedup.new.self.items h)))),
      λ h. among_from_contains v c.dedup.new.self.items (subst (λ l. Contains l v) (sym is)
          (Contains-dedup_nat c.sort_unstable.new.self.items v (Contains-permutation _ _ v transposed (contains_from_among v c.args.nodes.now.items h)))),
    )
