-- A history with one more event, and what a valid history says of each of its edits.
-- Source: this project's own.
use Rattle.std.proofs.Common.{◌++◌, ◌+◌, ◌<◌, ◌∷◌, ◌≡◌, ◌≢◌, ◌≤◌}
use mathlib.Core.List.{IsPrefix}
use Rattle.node_histories.specs.Prelude.{[], ap, append-nil, append_assoc, arith, cond, count_by-le-length, counter_among, Edit, edits_of, EntryMap, high_of, high_of-sum_of, IsAmong, join, length, length-append, List, next_version, refl, Replicated, subst, sum_by-append, sum_of, sum_of-append, sum_of-edits_of, sum_of-push, sum_of-same_edits, sym, with_edit, ℕ, ◌∙◌}
use Rattle.node_histories.specs.{declared.events.HistoryEvent.{HistoryEvent, TheVariants.{Absorbed, Edited, Opening}}, Histories.{all_edits, counter_of, edits_in, is_take_of, IsAbove, IsLegal, IsLegalAfter, IsNext, opening_of, replica_of, store_of, takes_in, takes_of}}

pub all_edits_snoc : (h : List HistoryEvent) (x : HistoryEvent) → all_edits (h ++ x ∷ []) ≡ all_edits h ++ edits_in x
all_edits_snoc [] x = append-nil (edits_in x)
all_edits_snoc (y ∷ h) x = ap (λ (es : List Edit). edits_in y ++ es) (all_edits_snoc h x) ∙ sym (append_assoc (edits_in y) (all_edits h) (edits_in x))

-- the sum
pub store_of-opening : (r : Replicated) → store_of (Opening r ∷ []) ≡ r.store
store_of-opening r = ap sum_of (append-nil (edits_of r.store)) ∙ sum_of-edits_of r.store

pub replica_of-opening : (r : Replicated) → replica_of (Opening r ∷ []) ≡ r
replica_of-opening r = λ i. record { store = store_of-opening r i; writer = r.writer }

pub store_of-edited : (h : List HistoryEvent) (seat : ℕ) (e : Edit) → store_of (h ++ Edited seat e ∷ []) ≡ with_edit (store_of h) e
store_of-edited h seat e = ap sum_of (all_edits_snoc h (Edited seat e)) ∙ sum_of-push (all_edits h) e

pub store_of-absorbed : (h : List HistoryEvent) (seat : ℕ) (p : EntryMap) → store_of (h ++ Absorbed seat p ∷ []) ≡ join (store_of h) p
store_of-absorbed h seat p =
    ap sum_of (all_edits_snoc h (Absorbed seat p)) ∙ sum_of-append (all_edits h) (edits_of p) ∙ ap (join (store_of h)) (sum_of-edits_of p)

-- the greatest counter of the edits is that of the store
pub high_of-store_of : (h : List HistoryEvent) → high_of (store_of h) ≡ counter_of h
high_of-store_of h = high_of-sum_of (all_edits h)

-- validity
pub legal_opening : (r : Replicated) (h : List HistoryEvent) → IsLegal r h → opening_of h ≡ r
legal_opening r [] l = absurd l
legal_opening r (Opening q ∷ h) l = l.0
legal_opening r (Edited seat e ∷ h) l = absurd l
legal_opening r (Absorbed seat p ∷ h) l = absurd l

pub legal_filled : (r : Replicated) (h : List HistoryEvent) → IsLegal r h → 0 < length h
legal_filled r [] l = absurd l
legal_filled r (x ∷ h) l = omega arith

-- what is valid over the replica that it opened over is valid over any equal one
pub legal_over : (r : Replicated) (h : List HistoryEvent) → opening_of h ≡ r → IsLegal (opening_of h) h → IsLegal r h
legal_over r h same l = subst (λ (q : Replicated). IsLegal q h) same l

pub legal_own : (r : Replicated) (h : List HistoryEvent) → IsLegal r h → IsLegal (opening_of h) h
legal_own r h l = subst (λ (q : Replicated). IsLegal q h) (sym (legal_opening r h l)) l

-- a history with the opening alone
pub opened_legal : (r : Replicated) (h : List HistoryEvent) → h ≡ Opening r ∷ [] → IsLegal r h
opened_legal r h is = subst (λ (k : List HistoryEvent). IsLegal r k) (sym is) (refl, tt)

pub opened_takes : (r : Replicated) (h : List HistoryEvent) → h ≡ Opening r ∷ [] → 0 ≡ takes_in h
opened_takes r h is = sym (ap takes_in is)

pub opened_untaken : (r : Replicated) (h : List HistoryEvent) (s : ℕ) → h ≡ Opening r ∷ [] → takes_of s h ≡ 0
opened_untaken r h s is = ap (λ (k : List HistoryEvent). takes_of s k) is

after_snoc : (w : ℕ) (before : List Edit) (h : List HistoryEvent) (x : HistoryEvent) → IsLegalAfter w before h
    → IsNext w (before ++ all_edits h) x → IsLegalAfter w before (h ++ x ∷ [])
after_snoc w before [] x l n = (subst (λ (es : List Edit). IsNext w es x) (append-nil before) n, tt)
after_snoc w before (y ∷ h) x l n =
    (l.0, after_snoc w (before ++ edits_in y) h x l.1 (subst (λ (es : List Edit). IsNext w es x) (sym (append_assoc before (edits_in y) (all_edits h))) n))

pub legal_snoc : (r : Replicated) (h : List HistoryEvent) (x : HistoryEvent) → IsLegal r h
    → IsNext r.writer (all_edits h) x → IsLegal r (h ++ x ∷ [])
legal_snoc r [] x l n = absurd l
legal_snoc r (Opening q ∷ h) x l n =
    (l.0, after_snoc r.writer (edits_of r.store) h x l.1 (subst (λ (q : Replicated). IsNext r.writer (edits_of q.store ++ all_edits h) x) l.0 n))
legal_snoc r (Edited seat e ∷ h) x l n = absurd l
legal_snoc r (Absorbed seat p ∷ h) x l n = absurd l

pub opening_of-snoc : (h : List HistoryEvent) (x : HistoryEvent) → 0 < length h → opening_of (h ++ x ∷ []) ≡ opening_of h
opening_of-snoc [] x f = absurd (omega arith)
opening_of-snoc (Opening r ∷ h) x f = refl
opening_of-snoc (Edited seat e ∷ h) x f = refl
opening_of-snoc (Absorbed seat p ∷ h) x f = refl

-- an extension of a history that isn't empty opened over the same
pub opening_of-prefix : (h k : List HistoryEvent) → 0 < length h → IsPrefix h k → opening_of k ≡ opening_of h
opening_of-prefix [] k f p = absurd (omega arith)
opening_of-prefix (Opening r ∷ h) k f p = sym (ap opening_of p.1)
opening_of-prefix (Edited seat e ∷ h) k f p = sym (ap opening_of p.1)
opening_of-prefix (Absorbed seat x ∷ h) k f p = sym (ap opening_of p.1)

pub takes_in-snoc : (h : List HistoryEvent) (x : HistoryEvent) → 0 < length h → takes_in (h ++ x ∷ []) ≡ takes_in h + 1
takes_in-snoc h x f = omega (arith, length-append h (x ∷ []))

pub takes_of-snoc : (s : ℕ) (h : List HistoryEvent) (x : HistoryEvent) → takes_of s (h ++ x ∷ []) ≡ takes_of s h + cond (is_take_of s x) 1 0
takes_of-snoc s h x = omega (arith, sum_by-append (λ (u : HistoryEvent). cond (is_take_of s u) 1 0) h (x ∷ []))

-- no seat has more takes than there are
pub takes_of-within : (r : Replicated) (s : ℕ) (h : List HistoryEvent) → IsLegal r h → takes_of s h ≤ takes_in h
takes_of-within r s [] l = absurd l
takes_of-within r s (Opening q ∷ h) l = let le = count_by-le-length (λ (u : HistoryEvent). is_take_of s u) h in omega arith
takes_of-within r s (Edited seat e ∷ h) l = absurd l
takes_of-within r s (Absorbed seat p ∷ h) l = absurd l

-- an edit under the next version of the replica that the history gives may come next
pub next_edit : (h : List HistoryEvent) (seat : ℕ) (e : Edit) (r : Replicated) (w : ℕ) → r.store ≡ store_of h
    → r.writer ≡ w → e.version ≡ next_version r → IsNext w (all_edits h) (Edited seat e)
next_edit h seat e r w kept writer version =
    let high : high_of r.store ≡ counter_of h = ap high_of kept ∙ high_of-store_of h in
    let counter : e.version.counter ≡ high_of r.store + 1 = ap (λ v. v.counter) version in
    (ap (λ v. v.writer) version ∙ writer, omega (arith, high, counter))

after_edit : (w : ℕ) (es : List Edit) (before after : List HistoryEvent) (seat : ℕ) (e : Edit)
    → IsLegalAfter w es (before ++ Edited seat e ∷ after) → IsNext w (es ++ all_edits before) (Edited seat e)
after_edit w es [] after seat e l = subst (λ (k : List Edit). IsNext w k (Edited seat e)) (sym (append-nil es)) l.0
after_edit w es (y ∷ b) after seat e l =
    subst (λ (k : List Edit). IsNext w k (Edited seat e)) (append_assoc es (edits_in y) (all_edits b)) (after_edit w (es ++ edits_in y) b after seat e l.1)

legal_next : (r : Replicated) (before after : List HistoryEvent) (seat : ℕ) (e : Edit)
    → IsLegal r (before ++ Edited seat e ∷ after) → IsNext r.writer (all_edits before) (Edited seat e)
legal_next r [] after seat e l = absurd l
legal_next r (Opening q ∷ b) after seat e l =
    subst (λ (q : Replicated). IsNext r.writer (edits_of q.store ++ all_edits b) (Edited seat e)) (sym l.0) (after_edit r.writer (edits_of r.store) b after seat e l.1)
legal_next r (Edited by f ∷ b) after seat e l = absurd l
legal_next r (Absorbed by p ∷ b) after seat e l = absurd l

pub legal_above : (r : Replicated) (before after : List HistoryEvent) (seat : ℕ) (e : Edit)
    → IsLegal r (before ++ Edited seat e ∷ after) → IsAbove r.writer (all_edits before) e
legal_above r before after seat e l =
    let n = legal_next r before after seat e l in
    (n.0, λ f a. let le = counter_among f (all_edits before) a in omega (arith, le, n.1))

-- edits of nodes with different numbers have different versions
pub legal_apart : (r q : Replicated) (before after : List HistoryEvent) (seat : ℕ) (e : Edit)
    (before' after' : List HistoryEvent) (seat' : ℕ) (f : Edit) → IsLegal r (before ++ Edited seat e ∷ after)
    → IsLegal q (before' ++ Edited seat' f ∷ after') → r.writer ≢ q.writer → e.version ≢ f.version
legal_apart r q before after seat e before' after' seat' f l m ne same =
    let one : e.version.writer ≡ r.writer = (legal_above r before after seat e l).0 in
    let two : f.version.writer ≡ q.writer = (legal_above q before' after' seat' f m).0 in
    ne (sym one ∙ ap (λ v. v.writer) same ∙ two)

pub same_edits_same_store : (h k : List HistoryEvent) → ((e : Edit) → IsAmong e (all_edits h) → IsAmong e (all_edits k))
    → ((e : Edit) → IsAmong e (all_edits k) → IsAmong e (all_edits h)) → store_of h ≡ store_of k
same_edits_same_store h k there back = sum_of-same_edits (all_edits h) (all_edits k) there back
