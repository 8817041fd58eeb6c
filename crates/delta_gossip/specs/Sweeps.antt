-- The result of a sweep over replicas.
-- Source (least upper bounds): Shapiro, Preguica, Baquero, Zawirski 2011.
use Rattle.std.proofs.Common.{◌∷◌, ◌≡◌}
use Rattle.delta_gossip.specs.Prelude.{[], All, EntryMap, IsStoreBelow, join, List, map, Replicated}
use Rattle.std.specs.FinMap as finmap

-- the join of all these stores
abbrev pub join_all : List EntryMap → EntryMap
join_all [] = finmap.empty
join_all (s ∷ ss) = join s (join_all ss)

-- the join of the stores of all these
abbrev pub join_of : List Replicated → EntryMap
join_of rs = join_all (map (λ r. r.store) rs)

-- the least store that is above each of these
pub record IsLeastAbove (ss : List EntryMap) (all : EntryMap) : Type 0 where
  pub above : All (λ s. IsStoreBelow s all) ss
  pub least : (t : EntryMap) → All (λ s. IsStoreBelow s t) ss → IsStoreBelow all t

-- the replica with this store instead of its own
abbrev pub with_store : EntryMap → Replicated → Replicated
with_store s r = record r { store = s }

-- the new replica has the old one's writer, and its store lies between the old store and this one
pub record IsBetween (all : EntryMap) (old new : Replicated) : Type 0 where
  pub writer : new.writer ≡ old.writer
  pub kept : IsStoreBelow old.store new.store
  pub within : IsStoreBelow new.store all

-- each new replica lies between the old one at its index and this store
abbrev pub AreBetween : EntryMap → List Replicated → List Replicated → Type 0
AreBetween all [] [] = Unit {0}
AreBetween all [] (s ∷ ss) = ⊥
AreBetween all (r ∷ rs) [] = ⊥
AreBetween all (r ∷ rs) (s ∷ ss) = IsBetween all r s × AreBetween all rs ss
