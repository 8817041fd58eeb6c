-- Codes, by which proofs distinguish histories, and by which facts about them have one proof.
-- Source: this project's own.
use Rattle.std.proofs.Common.{◌++◌, ◌∷◌, ◌≡◌}
use Rattle.node_histories.specs.Prelude.{[], code_by, Coded, Coded-set, coded_entry, coded_list, coded_place, coded_replicated, coded_ℕ, coded×, Edit, edits_of, EntryMap, le_prop, List, refl, Replicated, Unit-prop, ×_prop, ℕ}
use Rattle.node_histories.specs.{Books.{TurnNow}, declared.events.HistoryEvent.{HistoryEvent, TheVariants.{Absorbed, Edited, Opening}}, Histories.{edits_in, IsLegal, IsLegalAfter, IsNext}}
use Rattle.std.specs.FinMap as finmap
use Rattle.node_histories.specs.contracts.events.HistoryEvent as event

abbrev pub coded_store : Coded EntryMap
coded_store = finmap.code coded_place coded_entry

abbrev pub coded_history : Coded (List HistoryEvent)
coded_history = coded_list (event.the_row).coded

abbrev pub coded_turn : Coded TurnNow
coded_turn = code_by (List HistoryEvent × HistoryEvent) (coded× coded_history (event.the_row).coded) (λ t. (t.seen, t.ask)) (λ p. record { seen = p.0; ask = p.1 }) (λ _. refl)

pub store-prop : (s t : EntryMap) → IsProp (s ≡ t)
store-prop s t = Coded-set coded_store s t

pub replica-prop : (s t : Replicated) → IsProp (s ≡ t)
replica-prop s t = Coded-set coded_replicated s t

pub history-prop : (h k : List HistoryEvent) → IsProp (h ≡ k)
history-prop h k = Coded-set coded_history h k

IsNext-prop : (w : ℕ) (before : List Edit) (x : HistoryEvent) → IsProp (IsNext w before x)
IsNext-prop w before (Opening r) = λ h. absurd h
IsNext-prop w before (Edited seat e) = ×_prop (Coded-set coded_ℕ _ _) le_prop
IsNext-prop w before (Absorbed seat p) = Unit-prop

IsLegalAfter-prop : (w : ℕ) (before : List Edit) (h : List HistoryEvent) → IsProp (IsLegalAfter w before h)
IsLegalAfter-prop w before [] = Unit-prop
IsLegalAfter-prop w before (x ∷ h) = ×_prop (IsNext-prop w before x) (IsLegalAfter-prop w (before ++ edits_in x) h)

-- there is one proof that a history is valid
pub IsLegal-prop : (start : Replicated) (h : List HistoryEvent) → IsProp (IsLegal start h)
IsLegal-prop start [] = λ l. absurd l
IsLegal-prop start (Opening r ∷ h) = ×_prop (replica-prop r start) (IsLegalAfter-prop start.writer (edits_of start.store) h)
IsLegal-prop start (Edited seat e ∷ h) = λ l. absurd l
IsLegal-prop start (Absorbed seat p ∷ h) = λ l. absurd l
