-- The list of seats: one more seat, and the result of each.
use Rattle.std.proofs.Common.{◌++◌, ◌<◌, ◌∷◌, ◌≡◌}
use Rattle.crowds.proofs.Prelude.{[], All, All-cons, All-nil, ap, AreFresh, AreGathered, arith, get_or, HasWorked, HaveWorked, IfOk, length, length-map, List, map, map-append, Ok, refl, Result, SeatNow, slice_get, Some, subst, suc, sym, zero, ℕ, ◌∙◌}

-- the last element of a list is at its end, and the others keep their positions
push_cases : {X : Type 0} (P : ℕ → X → Type 0) (xs : List X) (x : X) → ((k : ℕ) (y : X) → slice_get xs k ≡ Some y → P k y) → P (length xs) x → (k : ℕ) (y : X) → slice_get (xs ++ x ∷ []) k ≡ Some y → P k y
push_cases P [] x prefix last zero y is = subst (λ z. P 0 z) (cc) last
push_cases P [] x prefix last (suc k) y is = cc
push_cases P (z ∷ xs) x prefix last zero y is = prefix zero y is
push_cases P (z ∷ xs) x prefix last (suc k) y is = push_cases (λ i. P (suc i)) xs x (λ i t at. prefix (suc i) t at) last k y is

pub fresh_none : AreFresh []
fresh_none worker seat is = absurd (cc)

pub fresh_more : (seats : List SeatNow) (seat : SeatNow) → AreFresh seats → seat.calls ≡ 0 → seat.number ≡ length seats → AreFresh (seats ++ seat ∷ [])
fresh_more seats seat fresh calls number = push_cases (λ k s. (s.calls ≡ 0) × (s.number ≡ k)) seats seat fresh (calls, number)

all_fresh : (n : ℕ) (seats : List SeatNow) → ((k : ℕ) (s : SeatNow) → slice_get seats k ≡ Some s → s.calls ≡ 0) → All (λ s. s.calls ≡ 0) seats
all_fresh n [] fresh = All-nil (λ (s : SeatNow). s.calls ≡ 0)
all_fresh n (s ∷ seats) fresh = All-cons (λ (s : SeatNow). s.calls ≡ 0) s seats (fresh 0 s refl) (all_fresh n seats (λ k t is. fresh (suc k) t is))

pub none_taken : (seats : List SeatNow) → AreFresh seats → All (λ s. s.calls ≡ 0) seats
none_taken seats fresh = all_fresh 0 seats (λ k s is. (fresh k s is).0)

pub gathered_none : {S E : Type 0} → AreGathered {S = S} {E = E} [] []
gathered_none = refl

pub gathered_more : {S E : Type 0} (came : List (Result S E)) (seats : List S) (s : S) → AreGathered came seats → AreGathered (came ++ Ok s ∷ []) (seats ++ s ∷ [])
gathered_more came seats s is = ap (λ cs. cs ++ Ok s ∷ []) is ∙ sym (map-append Ok seats (s ∷ []))

worked_from : {E : Type 0} (edits : ℕ) (number : ℕ → ℕ) (old new : List SeatNow) → length new ≡ length old
    → ((k : ℕ) (s : SeatNow) → slice_get old k ≡ Some s → s.number ≡ number k)
    → ((i : ℕ) (seat : SeatNow) (came : Result SeatNow E) → i < length old → IfOk (get_or (map Ok new) i came) (HasWorked edits (get_or old i seat).number))
    → (k : ℕ) (s : SeatNow) → slice_get new k ≡ Some s → HasWorked edits (number k) s
worked_from edits number [] [] len numbers each k s is = cc
worked_from edits number [] (t ∷ new) len numbers each k s is = absurd (omega arith)
worked_from edits number (o ∷ old) [] len numbers each k s is = absurd (omega arith)
worked_from edits number (o ∷ old) (t ∷ new) len numbers each zero s is =
    let here : HasWorked edits o.number t = each 0 o (Ok t) (omega arith) in
    let same : t ≡ s = cc in
    subst (λ n. HasWorked edits n s) (numbers 0 o refl) (subst (λ u. HasWorked edits o.number u) same here)
worked_from edits number (o ∷ old) (t ∷ new) len numbers each (suc k) s is =
    worked_from edits (λ i. number (suc i)) old new (omega arith) (λ i u at. numbers (suc i) u at) (λ i seat came lt. each (suc i) seat came (omega arith)) k s is

pub all_worked : {E : Type 0} (edits : ℕ) (old new : List SeatNow) (came : List (Result SeatNow E)) → AreFresh old → length came ≡ length old
    → ((i : ℕ) (seat : SeatNow) (c : Result SeatNow E) → i < length old → IfOk (get_or came i c) (HasWorked edits (get_or old i seat).number))
    → AreGathered came new → HaveWorked edits new
all_worked edits old new came fresh len each is =
    worked_from edits (λ k. k) old new (sym (length-map new Ok) ∙ ap length (sym is) ∙ len) (λ k s at. (fresh k s at).1) (rw is at each)
