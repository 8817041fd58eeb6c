-- What the answer to a take says of its seat.
use Rattle.std.proofs.Common.{◌++◌, ◌+◌, ◌∷◌, ◌≡◌}
use mathlib.Core.List.{IsPrefix}
use Rattle.shared_node.proofs.Prelude.{[], ap, arith, AtFault, calls_of, Disagree, EndsChanging, EndsWith, Err, HistoryEvent, IfErr, IfOk, List, Memory, NodeFault, NoSeat, Ok, Pending, prefix_self, prefix_trans, refl, Replicated, Result, SeatNow, step_at, step_at_fault, subst, sym, TakesSpent, VersionsSpent, ℕ}

-- a history that ends with a take extends what was seen before it
pub goes_on : (seen before h : List HistoryEvent) (x : HistoryEvent) → IsPrefix seen before → h ≡ before ++ x ∷ [] → IsPrefix seen h
goes_on seen before h x begun is =
    subst (λ (l : List HistoryEvent). IsPrefix seen l) (sym is) (prefix_trans seen before (before ++ x ∷ []) begun (x ∷ [], refl))

-- and so for a seat that has seen it
pub ends_seen : (seen h k : List HistoryEvent) (x : HistoryEvent) → EndsWith seen h x → k ≡ h → IsPrefix seen k
ends_seen seen h k x ends same = subst (λ (l : List HistoryEvent). IsPrefix seen l) (sym same) (goes_on seen ends.0 h x ends.1 ends.2)

pub changing_seen : (seen h k : List HistoryEvent) (x : HistoryEvent) (n : ℕ) → EndsChanging seen h x n → k ≡ h → IsPrefix seen k
changing_seen seen h k x n ends same = ends_seen seen h k x (ends.0, ends.1, ends.2) same

same_calls : (s t : SeatNow) → t ≡ s → t.calls ≡ s.calls + 0
same_calls s t e = let calls : t.calls ≡ s.calls = ap (λ (x : SeatNow). x.calls) e in omega arith

same_seen : (s t : SeatNow) → t ≡ s → IsPrefix s.seen t.seen
same_seen s t e = subst (λ (x : SeatNow). IsPrefix s.seen x.seen) (sym e) (prefix_self s.seen)

module _ {N : Type 0} where
  -- a refused take counts as its result does
  refused_calls : (o : Replicated) (f : NodeFault N) (s t : SeatNow) → AtFault o f s t → t.calls ≡ s.calls + calls_of (step_at_fault f)
  refused_calls o NoSeat s t e = absurd e
  refused_calls o (Pending version) s t e = e.1
  refused_calls o (TakesSpent token) s t e = same_calls s t e.0
  refused_calls o (Disagree seen held) s t e = same_calls s t e.0
  refused_calls o VersionsSpent s t e = same_calls s t e
  refused_calls o Memory s t e = same_calls s t e

  -- and what was seen stays seen
  refused_seen : (o : Replicated) (f : NodeFault N) (s t : SeatNow) → AtFault o f s t → IsPrefix s.seen t.seen
  refused_seen o NoSeat s t e = absurd e
  refused_seen o (Pending version) s t e = subst (λ (l : List HistoryEvent). IsPrefix s.seen l) (sym e.0) (prefix_self s.seen)
  refused_seen o (TakesSpent token) s t e = same_seen s t e.0
  refused_seen o (Disagree seen held) s t e = same_seen s t e.0
  refused_seen o VersionsSpent s t e = same_seen s t e
  refused_seen o Memory s t e = same_seen s t e

  -- and the seat has the same number
  refused_number : (o : Replicated) (f : NodeFault N) (s t : SeatNow) → AtFault o f s t → t.number ≡ s.number
  refused_number o NoSeat s t e = absurd e
  refused_number o (Pending version) s t e = e.2
  refused_number o (TakesSpent token) s t e = ap (λ (x : SeatNow). x.number) e.0
  refused_number o (Disagree seen held) s t e = ap (λ (x : SeatNow). x.number) e.0
  refused_number o VersionsSpent s t e = ap (λ (x : SeatNow). x.number) e
  refused_number o Memory s t e = ap (λ (x : SeatNow). x.number) e

  -- each take counts as its result does
  pub taken_calls : {T : Type 0} (o : Replicated) (r : Result T (NodeFault N)) (s t : SeatNow) → IfOk r (λ _. (t.calls ≡ s.calls + 1) × (t.number ≡ s.number)) → IfErr r (λ f. AtFault o f s t)
      → t.calls ≡ s.calls + calls_of (step_at r)
  taken_calls o (Ok _) s t counted fault = counted.0
  taken_calls o (Err f) s t counted fault = refused_calls o f s t fault

  -- and what was seen stays seen
  pub taken_seen : {T : Type 0} (o : Replicated) (r : Result T (NodeFault N)) (s t : SeatNow) (P Q : T → Type 0) → ((x : T) → P x → Q x → IsPrefix s.seen t.seen)
      → IfOk r P → IfOk r Q → IfErr r (λ f. AtFault o f s t) → IsPrefix s.seen t.seen
  taken_seen o (Ok x) s t P Q seen p q fault = seen x p q
  taken_seen o (Err f) s t P Q seen p q fault = refused_seen o f s t fault

  -- and the seat has the same number
  pub taken_number : {T : Type 0} (o : Replicated) (r : Result T (NodeFault N)) (s t : SeatNow) → IfOk r (λ _. (t.calls ≡ s.calls + 1) × (t.number ≡ s.number)) → IfErr r (λ f. AtFault o f s t)
      → t.number ≡ s.number
  taken_number o (Ok _) s t counted fault = counted.1
  taken_number o (Err f) s t counted fault = refused_number o f s t fault
