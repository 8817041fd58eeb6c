-- What holds between two sides while a message is on its way, and what a reply makes of it.
-- Source: this project's own.
use Rattle.std.proofs.Common.{◌∷◌, ◌≡◌, ◌≢◌, ◌⊎◌}
use Rattle.std.specs.FinMap as finmap
use Rattle.exchange_session.specs.{Answered.{piece_for}, Joined.{joined}, Told.{IsAskedBack, IsOwnAsk, IsOwnPrint, IsPursued, IsTold, own_print}}
use Rattle.exchange_session.specs.Prelude.{[], All, digest_of, Entry, EntryMap, everything, IsAmong, IsBelow, IsStoreBelow, List, map, PlaceParts, print, Some, within, ℕ, versions_of}
use Rattle.exchange_session.specs.declared.messages.{RangeAsk.{RangeAsk}, RangePrint.{RangePrint}}

-- what a message says
pub record Said : Type 0 where
  pub prints : List RangePrint
  pub asks : List RangeAsk
  pub pieces : List EntryMap

-- no two different entries of these stores at one place have one version
abbrev pub AreToldApartIn : EntryMap → EntryMap → Type 0
AreToldApartIn s t =
    (p : PlaceParts) (x y : Entry) → finmap.get s p ≡ Some x → finmap.get t p ≡ Some y → x.version ≡ y.version → x ≡ y

-- of the place nothing is forgotten: sender and receiver hold the same; or a range that has it is told of or asked for; or a
-- piece brings what the sender holds, and the receiver holds nothing newer
abbrev pub IsMinded : EntryMap → EntryMap → Said → PlaceParts → Type 0
IsMinded sender receiver said p =
    (finmap.get sender p ≡ finmap.get receiver p)
    ⊎ (IsTold p said.prints said.asks
    ⊎ ((piece : EntryMap) × (IsAmong piece said.pieces
    × ((finmap.get piece p ≡ finmap.get sender p) × IsBelow (finmap.get receiver p) (finmap.get sender p)))))

-- a message on its way: it tells what its sender holds, and no place is forgotten
pub record Stands (seed : ℕ) (sender receiver : EntryMap) (said : Said) : Type 0 where
  pub prints : All (IsOwnPrint seed (versions_of sender)) said.prints
  pub asks : All (IsOwnAsk (versions_of sender)) said.asks
  pub pieces : All (λ piece. IsStoreBelow piece sender) said.pieces
  pub minded : (p : PlaceParts) → IsMinded sender receiver said p

-- what `reply` says to a message, where it holds this behind the message's pieces
pub record IsReply (seed : ℕ) (own : EntryMap) (said reply : Said) : Type 0 where
  pub prints : All (IsOwnPrint seed (versions_of own)) reply.prints
  pub asks : All (IsOwnAsk (versions_of own)) reply.asks
  pub pieces : reply.pieces ≡ map (piece_for own) said.asks
  pub pursued : All (IsPursued seed (versions_of own) reply.prints reply.asks) said.prints
  pub asked_back : All (IsAskedBack (digest_of own) reply.asks) said.asks

-- what a side says first: the print of all that it holds
abbrev pub opening : ℕ → EntryMap → Said
opening seed s = record { prints = own_print seed (versions_of s) everything ∷ []; asks = []; pieces = [] }

-- the first message is one on its way
abbrev pub OpeningsStand : Type 0
OpeningsStand = (seed : ℕ) (sender receiver : EntryMap) → Stands seed sender receiver (opening seed sender)

-- a print that is told is the receiver's own, but its versions aren't
abbrev pub Collides : ℕ → EntryMap → EntryMap → Said → Type 0
Collides seed sender own said = (it : RangePrint) × (IsAmong it said.prints
    × ((it.print ≡ print seed (within it.range (versions_of own)))
    × (within it.range (versions_of sender) ≢ within it.range (versions_of own))))

-- a reply to a message on its way is one itself, unless prints collide
abbrev pub RepliesStand : Type 0
RepliesStand = (seed : ℕ) (sender receiver : EntryMap) (said reply : Said) → Stands seed sender receiver said
    → AreToldApartIn sender (joined receiver said.pieces) → IsReply seed (joined receiver said.pieces) said reply
    → Collides seed sender (joined receiver said.pieces) said ⊎ Stands seed (joined receiver said.pieces) sender reply

-- where a message on its way tells of no range and asks for none, whoever takes its pieces holds what its sender holds
abbrev pub QuietEnds : Type 0
QuietEnds = (seed : ℕ) (sender receiver : EntryMap) (pieces : List EntryMap)
    → Stands seed sender receiver (record { prints = []; asks = []; pieces = pieces }) → joined receiver pieces ≡ sender
