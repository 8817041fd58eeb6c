-- The result of bringing two replicas together: an anti-entropy round of whole states (Almeida et al. 2018; Shapiro et
-- al. 2011).
use Rattle.std.proofs.Common.{◌≡◌}
use Rattle.delta_gossip.specs.{Prelude.{changed_places, join, Replicated, ℕ}, Sweeps.{IsBetween, with_store}}

-- both hold the join of their stores, and `changed` counts the places that changed in each
pub record AreJoined (a b a' b' : Replicated) (changed : ℕ × ℕ) : Type 0 where
  pub first : a' ≡ with_store (join a.store b.store) a
  pub second : b' ≡ with_store (join a.store b.store) b
  pub first_changed : changed.0 ≡ changed_places a.store a'.store
  pub second_changed : changed.1 ≡ changed_places b.store b'.store

-- each store lies between its old state and the join, and joining the two again gives that join
pub record AreBeingJoined (a b a' b' : Replicated) : Type 0 where
  pub first : IsBetween (join a.store b.store) a a'
  pub second : IsBetween (join a.store b.store) b b'
  pub again : join a'.store b'.store ≡ join a.store b.store
