-- A node has one distance at most, and there is one list of all distances.
use Rattle.std.proofs.Common.{◌≡◌, ◌≤◌}
use Rattle.name_closure.specs.Prelude.{arith, IsTotalOrder, List, nat_cmp_total, on_total, one_ascending_list, Ordering, then_total, ℕ}
use Rattle.name_closure.specs.Chains.{distance_cmp, IsDistance, IsDistances}

equal_from : (j k : ℕ) → j ≤ k → k ≤ j → j ≡ k
equal_from j k a b = omega (arith, a, b)

module _ {N : Type 0} (starts : N → Type 0) (leads : N → N → Type 0) where
  pub one_distance : (n : N) (j k : ℕ) → IsDistance starts leads n j → IsDistance starts leads n k → j ≡ k
  one_distance n j k a b = equal_from j k (a.least k b.chain) (b.least j a.chain)

  -- there is one list of the distances
  pub one_list_of_distances : (order : N → N → Ordering) → IsTotalOrder order → (xs ys : List (ℕ × N))
      → IsDistances starts leads order xs → IsDistances starts leads order ys → xs ≡ ys
  one_list_of_distances order total xs ys a b =
      one_ascending_list (distance_cmp starts leads order) (then_total (on_total (λ p. p.0) nat_cmp_total) (on_total (λ p. p.1) total)) xs ys a.ascending b.ascending
      (λ p. (λ h. (b.members p.0 p.1).1 ((a.members p.0 p.1).0 h), λ h. (a.members p.0 p.1).1 ((b.members p.0 p.1).0 h)))
