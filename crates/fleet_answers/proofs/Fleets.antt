-- A node answers what its replica answers.
use Rattle.std.proofs.Common.{◌++◌, ◌↔◌, ◌≡◌}
use Rattle.fleet_answers.proofs.Prelude.{AgreesLater, Answer, AnswersByEvents, AnswersItsStore, AnswersItsSum, AreSameEdits, EachStoreIsLeast, EntryMap, Event, HoldsLater, HoldsLeast, HoldsSameLater, HoldsSums, HoldsSumsByEvents, IfSome, IsAboveEdits, IsAnswer, IsStoreBelow, IsSumOf, IsWorld, List, Name, Node, NodeHolds, None, one_answer, Option, Question, Replicated, reverse, SameTookSameStore, slice_get, Some, subst, sum_of, sym, Took, took_after, took_by, World, world_after, ℕ}
use Rattle.fleet_answers.proofs.Held.{if_some, of_found, shown_at}

-- the answer is that of the replica of a node
pub record IsOfReplica (world : World) (k : ℕ) (extra : List Name) (question : Question) (answer : Answer) : Type 0 where
  pub replica : Replicated
  pub here : slice_get world.replicas.items k ≡ Some replica
  pub answers : IsAnswer replica.store extra question answer

module _ (n : ℕ) (events : List Event) {world : World} {k : ℕ} {extra : List Name} {question : Question} {answer : Answer} (of : IsOfReplica world k extra question answer) where
  pub of_store : IsWorld (world_after n events) world → AnswersItsStore n events k extra question answer
  of_store shows =
      shown_at (λ (x : Replicated). x.store) (λ (x : Node). x.store) (λ (s : EntryMap). IsAnswer s extra question answer) world.replicas.items (world_after n events).nodes k
      of.replica shows.stores_are of.here of.answers

  pub of_sum : HoldsSums n events world → AnswersItsSum n events k extra question answer
  of_sum sums honest =
      subst (λ (s : EntryMap). IsAnswer s extra question answer)
      (of_found (λ (x : Replicated). x.store ≡ sum_of (took_after n events k)) world.replicas.items k of.replica of.here (sums honest k)) of.answers

  pub by_events : HoldsSumsByEvents n events world → AnswersByEvents n events k extra question answer
  by_events returned honest = record {
    store = of.replica.store;
    sum = of_found (λ (x : Replicated). IsSumOf (Took n (reverse events) k) x.store) world.replicas.items k of.replica of.here (returned honest k);
    answers = of.answers;
  }

  pub agrees : ((later : List Event) → HoldsLater n events world later) → (later : List Event) → AgreesLater n events k extra question later answer
  agrees same later honest l edits other =
      if_some (λ (x : Node). of.replica.store ≡ x.store) (λ (x : Node). IsAnswer x.store extra question other → other ≡ answer)
      (λ x e h. one_answer x.store extra question other answer h (subst (λ (s : EntryMap). IsAnswer s extra question answer) e of.answers)) (slice_get (world_after n (events ++ later)).nodes l)
      (of_found (λ (x : Replicated). NodeHolds n (events ++ later) l (λ late. x.store ≡ late)) world.replicas.items k of.replica of.here (same later honest k l edits))

-- ---- stores

least_held : (o : Option Node) → IfSome o (λ node. (s : EntryMap) → IsStoreBelow node.store s ↔ IsAboveEdits node.took s) → IfSome o (λ node. (s : EntryMap) → IsStoreBelow node.store s ↔ IsAboveEdits (took_by o) s)
least_held None h = tt
least_held (Some node) h = h

pub holds_least : (n : ℕ) (events : List Event) (k : ℕ) → EachStoreIsLeast n events → HoldsLeast n events k
holds_least n events k least honest = least_held (slice_get (world_after n events).nodes k) (least honest k)

same_held : (o p : Option Node) → IfSome o (λ a. IfSome p (λ b. AreSameEdits a.took b.took → a.store ≡ b.store)) → AreSameEdits (took_by o) (took_by p)
    → IfSome o (λ a. IfSome p (λ b. b.store ≡ a.store))
same_held None p h same = tt
same_held (Some a) None h same = tt
same_held (Some a) (Some b) h same = sym (h same)

pub holds_same_later : (n : ℕ) (events later : List Event) (k : ℕ) → SameTookSameStore n events later → HoldsSameLater n events k later
holds_same_later n events later k law honest l same = same_held (slice_get (world_after n events).nodes k) (slice_get (world_after n (events ++ later)).nodes l) (law honest k l) same
