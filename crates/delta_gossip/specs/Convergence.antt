-- Convergence of the program's replicas: strong eventual consistency (Shapiro et al. 2011).
use Rattle.std.proofs.Common.{◌++◌, ◌≡◌}
use Rattle.delta_gossip.specs.{declared.worlds.World.{World}, Prelude.{AreSameEdits, AreToldApart, Event, IsSumOf, List, puts_of, reverse, sum_of, Took, ℕ}, Shows.{NodeHolds, ReplicaHolds, took_after}}

-- the edits that are put are told apart by their versions: no two different ones of one place have one version
abbrev pub ArePutApart : ℕ → List Event → Type 0
ArePutApart nodes events = AreToldApart (puts_of nodes events)

-- then each replica holds the sum of the edits that its node took
abbrev pub HoldsSums : ℕ → List Event → World → Type 0
HoldsSums nodes events world = ArePutApart nodes events → (k : ℕ) → ReplicaHolds world k (λ store. store ≡ sum_of (took_after nodes events k))

-- the same, with what a node took defined from the events alone
abbrev pub HoldsSumsByEvents : ℕ → List Event → World → Type 0
HoldsSumsByEvents nodes events world = ArePutApart nodes events → (k : ℕ) → ReplicaHolds world k (IsSumOf (Took nodes (reverse events) k))

-- then replicas whose nodes took the same edits hold the same store
abbrev pub Agrees : ℕ → List Event → World → Type 0
Agrees nodes events world = ArePutApart nodes events → (k l : ℕ) → AreSameEdits (took_after nodes events k) (took_after nodes events l) →
    ReplicaHolds world k (λ one. ReplicaHolds world l (λ other. one ≡ other))

-- the same at two moments: a replica holds now what a node holds later, if that node has then taken the edits that the
-- replica's node has taken now
abbrev pub AgreesLater : ℕ → List Event → World → List Event → Type 0
AgreesLater nodes events world later = ArePutApart nodes (events ++ later) → (k l : ℕ) →
    AreSameEdits (took_after nodes events k) (took_after nodes (events ++ later) l) →
    ReplicaHolds world k (λ early. NodeHolds nodes (events ++ later) l (λ late. early ≡ late))
