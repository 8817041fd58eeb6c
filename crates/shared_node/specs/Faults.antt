-- What a refusal of a node leaves.
-- Source: this project's own.
use Rattle.std.proofs.Common.{◌++◌, ◌+◌, ◌<◌, ◌∷◌, ◌≡◌, ◌≢◌, ◌≤◌, ◌⊎◌}
use Rattle.shared_node.specs.Prelude.{[], Absorbed, Content, Edited, EntryMap, HistoryEvent, IsLegal, List, None, PlaceParts, Replicated, Some, takes_in, ℕ}
use Rattle.shared_node.specs.{declared.faults.{CloseCause.{CloseCause}, NodeFault.{NodeFault, TheVariants.{Disagree, Memory, NoSeat, Pending, TakesSpent, VersionsSpent}}}, Keepers.{KeeperNow}, Seats.{SeatNow}}
use Rattle.shared_node.specs.declared.faults.CloseCause.TheVariants as causes

abbrev pub max : ℕ
max = 18446744073709551615

-- a pending take is counted and not seen; else nothing of the seat changed, and no more takes can be counted, or the
-- seat has seen more takes than the node holds
abbrev pub AtFault : {N : Type 0} → Replicated → NodeFault N → SeatNow → SeatNow → Type 0
AtFault start NoSeat s t = ⊥
AtFault start (Pending version) s t = (t.seen ≡ s.seen) × (t.calls ≡ s.calls + 1) × (t.number ≡ s.number)
AtFault start (TakesSpent token) s t = (t ≡ s) × IsLegal start token × ((s.calls ≡ max) ⊎ (max ≤ takes_in token + 1))
AtFault start (Disagree seen held) s t = (t ≡ s) × (seen ≡ takes_in s.seen) × (held < seen)
AtFault start VersionsSpent s t = t ≡ s
AtFault start Memory s t = t ≡ s

-- what is refused before anything is done: no more takes can be counted, or the seat has seen more than the node holds
abbrev pub AtCheck : {N : Type 0} → Replicated → NodeFault N → SeatNow → Type 0
AtCheck start NoSeat s = ⊥
AtCheck start (Pending version) s = ⊥
AtCheck start (TakesSpent token) s = IsLegal start token × ((s.calls ≡ max) ⊎ (max ≤ takes_in token + 1))
AtCheck start (Disagree seen held) s = (seen ≡ takes_in s.seen) × (held < seen)
AtCheck start VersionsSpent s = ⊥
AtCheck start Memory s = ⊥

-- a refusal that comes before anything is done
abbrev pub IsEarly : {N : Type 0} → NodeFault N → Type 0
IsEarly NoSeat = ⊥
IsEarly (Pending version) = ⊥
IsEarly (TakesSpent token) = Unit {0}
IsEarly (Disagree seen held) = Unit {0}
IsEarly VersionsSpent = Unit {0}
IsEarly Memory = ⊥

-- a refusal of an edit: one that is pending has its version
abbrev pub IsEditFault : {N : Type 0} → NodeFault N → Type 0
IsEditFault NoSeat = ⊥
IsEditFault (Pending None) = ⊥
IsEditFault (Pending (Some version)) = Unit {0}
IsEditFault (TakesSpent token) = Unit {0}
IsEditFault (Disagree seen held) = Unit {0}
IsEditFault VersionsSpent = Unit {0}
IsEditFault Memory = Unit {0}

-- a refusal of a piece, which has no version
abbrev pub IsPieceFault : {N : Type 0} → NodeFault N → Type 0
IsPieceFault NoSeat = ⊥
IsPieceFault (Pending None) = Unit {0}
IsPieceFault (Pending (Some version)) = ⊥
IsPieceFault (TakesSpent token) = Unit {0}
IsPieceFault (Disagree seen held) = Unit {0}
IsPieceFault VersionsSpent = ⊥
IsPieceFault Memory = Unit {0}

-- a refusal of a seat
abbrev pub IsSeatFault : {N : Type 0} → NodeFault N → Type 0
IsSeatFault NoSeat = Unit {0}
IsSeatFault (Pending version) = ⊥
IsSeatFault (TakesSpent token) = ⊥
IsSeatFault (Disagree seen held) = ⊥
IsSeatFault VersionsSpent = ⊥
IsSeatFault Memory = ⊥

-- what is accepted after a refused edit: the edit, where its publish was refused, and else nothing more
abbrev pub AcceptsEdit : {N : Type 0} → NodeFault N → ℕ → PlaceParts → Content → List HistoryEvent → List HistoryEvent → Type 0
AcceptsEdit NoSeat seat place content old new = ⊥
AcceptsEdit (Pending None) seat place content old new = ⊥
AcceptsEdit (Pending (Some version)) seat place content old new = new ≡ old ++ Edited seat (record { place = place; version = version; content = content }) ∷ []
AcceptsEdit (TakesSpent token) seat place content old new = new ≡ old
AcceptsEdit (Disagree seen held) seat place content old new = new ≡ old
AcceptsEdit VersionsSpent seat place content old new = new ≡ old
AcceptsEdit Memory seat place content old new = new ≡ old

-- and after a refused piece
abbrev pub AcceptsPiece : {N : Type 0} → NodeFault N → ℕ → EntryMap → List HistoryEvent → List HistoryEvent → Type 0
AcceptsPiece NoSeat seat piece old new = ⊥
AcceptsPiece (Pending None) seat piece old new = new ≡ old ++ Absorbed seat piece ∷ []
AcceptsPiece (Pending (Some version)) seat piece old new = ⊥
AcceptsPiece (TakesSpent token) seat piece old new = new ≡ old
AcceptsPiece (Disagree seen held) seat piece old new = new ≡ old
AcceptsPiece VersionsSpent seat piece old new = ⊥
AcceptsPiece Memory seat piece old new = new ≡ old

-- two numbers differ
abbrev pub IsDisagreement : CloseCause → Type 0
IsDisagreement (causes.SeatsOut absent) = ⊥
IsDisagreement (causes.Disagree seat node) = seat ≢ node
IsDisagreement causes.Memory = ⊥

-- the cause that a node isn't closed: so many seats more were given than these, or two numbers differ
abbrev pub AtCause : ℕ → ℕ → CloseCause → Type 0
AtCause given here (causes.SeatsOut absent) = (0 < absent) × (given ≡ here + absent)
AtCause given here (causes.Disagree seat node) = seat ≢ node
AtCause given here causes.Memory = Unit {0}

-- what is shown if a node isn't closed: what was shown; if memory ran out that, or all that was accepted
abbrev pub ShowsStill : CloseCause → KeeperNow → List HistoryEvent → Type 0
ShowsStill (causes.SeatsOut absent) old shown = shown ≡ old.shown
ShowsStill (causes.Disagree seat node) old shown = shown ≡ old.shown
ShowsStill causes.Memory old shown = (shown ≡ old.shown) ⊎ (shown ≡ old.accepted)
