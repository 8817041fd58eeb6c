-- Requests: events that are to come next.
use Rattle.std.proofs.Common.{◌++◌, ◌+◌, ◌∷◌, ◌≡◌}
use Rattle.node_histories.proofs.Prelude.{[], Absorbed, all_edits, ap, counter_of, Edit, Edited, EntryMap, high_of, high_of-store_of, HistoryEvent, IsLegal, IsNext, join, legal_filled, List, next_edit, next_version, opening_of, opening_of-snoc, refl, replica_of, Replicated, store_of, store_of-absorbed, store_of-edited, subst, sym, TurnNow, Version, with_edit, ℕ, ◌∙◌}

-- the edit of a request may come next, if its version is the next one of the replica that the history gives
pub turn_next : (t : TurnNow) (h : List HistoryEvent) (seat : ℕ) (e : Edit) (o : Replicated) → t.seen ≡ h → t.ask ≡ Edited seat e → opening_of h ≡ o → e.version ≡ next_version (replica_of h)
    → IsNext o.writer (all_edits t.seen) t.ask
turn_next t h seat e o seen ask opening version =
    let n : IsNext o.writer (all_edits h) (Edited seat e) = next_edit h seat e (replica_of h) o.writer refl (ap (λ r. r.writer) opening) version in
    let at : IsNext o.writer (all_edits h) t.ask = subst (IsNext o.writer (all_edits h)) (sym ask) n in
    subst (λ (k : List HistoryEvent). IsNext o.writer (all_edits k) t.ask) (sym seen) at

-- the version after the greatest counter of the history is the next one of the replica that it gives
pub version_next : (h : List HistoryEvent) (r : Replicated) (counter writer : ℕ) → r ≡ replica_of h → counter ≡ counter_of h → writer ≡ r.writer
    → ◌≡◌ {A = Version} (record { counter = counter + 1; writer = writer }) (next_version r)
version_next h r counter writer kept read own =
    let high : counter ≡ high_of r.store = read ∙ sym (ap (λ q. high_of q.store) kept ∙ high_of-store_of h) in
    λ i. record { counter = high i + 1; writer = own i }

-- what the request's event leaves is what the longer history gives, if the event changes the replica in that way
turned : (t : TurnNow) (h : List HistoryEvent) (event : HistoryEvent) (change : EntryMap → EntryMap) (r r' : Replicated)
    → IsLegal (opening_of h) h → t.seen ≡ h → t.ask ≡ event → store_of (h ++ event ∷ []) ≡ change (store_of h)
    → r ≡ replica_of h → r' ≡ record r { store = change r.store } → r' ≡ replica_of (t.seen ++ t.ask ∷ [])
turned t h event change r r' legal seen ask changed kept more =
    let all : t.seen ++ t.ask ∷ [] ≡ h ++ event ∷ [] = cc in
    let opening : opening_of (t.seen ++ t.ask ∷ []) ≡ opening_of h = ap opening_of all ∙ opening_of-snoc h event (legal_filled (opening_of h) h legal) in
    let store : change (store_of h) ≡ store_of (t.seen ++ t.ask ∷ []) = sym (ap store_of all ∙ changed) in
    more ∙ ap (λ (x : Replicated). record x { store = change x.store }) kept ∙ (λ i. record { store = store i; writer = (sym opening i).writer })

pub turned_edit : (t : TurnNow) (h : List HistoryEvent) (seat : ℕ) (e : Edit) (r r' : Replicated) → IsLegal (opening_of h) h → t.seen ≡ h → t.ask ≡ Edited seat e
    → r ≡ replica_of h → r' ≡ record r { store = with_edit r.store e } → r' ≡ replica_of (t.seen ++ t.ask ∷ [])
turned_edit t h seat e r r' legal seen ask kept more = turned t h (Edited seat e) (λ s. with_edit s e) r r' legal seen ask (store_of-edited h seat e) kept more

pub turned_piece : (t : TurnNow) (h : List HistoryEvent) (seat : ℕ) (p : EntryMap) (r r' : Replicated) → IsLegal (opening_of h) h → t.seen ≡ h → t.ask ≡ Absorbed seat p
    → r ≡ replica_of h → r' ≡ record r { store = join r.store p } → r' ≡ replica_of (t.seen ++ t.ask ∷ [])
turned_piece t h seat p r r' legal seen ask kept more = turned t h (Absorbed seat p) (λ s. join s p) r r' legal seen ask (store_of-absorbed h seat p) kept more
