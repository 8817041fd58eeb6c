-- What the nodes of a fleet answer: strong eventual consistency of units and plans.
-- Source (strong eventual consistency): Shapiro, Preguica, Baquero, Zawirski 2011.
use Rattle.std.proofs.Common.{◌++◌, ◌↔◌, ◌≡◌}
use Rattle.fleet_answers.specs.Prelude.{ArePutApart, AreSameEdits, EntryMap, Event, IsAboveEdits, IsStoreBelow, IsSumOf, List, Name, NodeHolds, reverse, sum_of, Took, took_after, ℕ}
use Rattle.fleet_answers.specs.{Answers.{IsAnswer}, declared.questions.{Answer.{Answer}, Question.{Question}}}

-- if no two edits have the same version, node k holds the least store above the edits that it took: it is below exactly
-- those that are above each of them
abbrev pub HoldsLeast : ℕ → List Event → ℕ → Type 0
HoldsLeast nodes events k = ArePutApart nodes events → NodeHolds nodes events k (λ store. (s : EntryMap) → IsStoreBelow store s ↔ IsAboveEdits (took_after nodes events k) s)

-- and any node that took the same edits by a later moment holds the same store
abbrev pub HoldsSameLater : ℕ → List Event → ℕ → List Event → Type 0
HoldsSameLater nodes events k later = ArePutApart nodes (events ++ later) → (l : ℕ) → AreSameEdits (took_after nodes events k) (took_after nodes (events ++ later) l)
    → NodeHolds nodes events k (λ store. NodeHolds nodes (events ++ later) l (λ other. other ≡ store))

module _ (nodes : ℕ) (events : List Event) (k : ℕ) (extra : List Name) (question : Question) where
  -- it is the answer of the store of node k
  abbrev pub AnswersItsStore : Answer → Type 0
  AnswersItsStore answer = NodeHolds nodes events k (λ store. IsAnswer store extra question answer)

  -- if no two edits have the same version: it is the answer of the sum of the edits that the node took
  abbrev pub AnswersItsSum : Answer → Type 0
  AnswersItsSum answer = ArePutApart nodes events → IsAnswer (sum_of (took_after nodes events k)) extra question answer

  -- it is the answer of a store that is the sum of the edits that the node took, by the events alone
  pub record IsOfSum (answer : Answer) : Type 0 where
    pub store : EntryMap
    pub sum : IsSumOf (Took nodes (reverse events) k) store
    pub answers : IsAnswer store extra question answer

  abbrev pub AnswersByEvents : Answer → Type 0
  AnswersByEvents answer = ArePutApart nodes events → IsOfSum answer

  -- any answer of a node that took the same edits by a later moment is this one
  abbrev pub AgreesLater : List Event → Answer → Type 0
  AgreesLater later answer = ArePutApart nodes (events ++ later) → (l : ℕ) → AreSameEdits (took_after nodes events k) (took_after nodes (events ++ later) l)
      → (other : Answer) → NodeHolds nodes (events ++ later) l (λ store. IsAnswer store extra question other → other ≡ answer)
