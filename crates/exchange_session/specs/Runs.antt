-- Exchanges of two sides, message by message.
-- Source: this project's own.
use Rattle.std.proofs.Common.{◌++◌, ◌≡◌, ◌⊎◌}
use Rattle.std.specs.FinMap as finmap
use Rattle.exchange_session.specs.{Joined.{joined}, Standing.{Collides, IsReply, opening, Said}}
use Rattle.exchange_session.specs.Prelude.{AreToldApart, edits_of, EntryMap, PlaceParts, ℕ}
use Rattle.exchange_session.specs.declared.messages.Message.{Message}

-- what a message says
abbrev pub said_of : Message → Said
said_of m = record { prints = m.prints.items; asks = m.asks.items; pieces = m.pieces.items }

-- in an exchange that one side begins with another, this message may be on its way while its sender and its receiver hold these
pub data Run (seed : ℕ) (one other : EntryMap) : EntryMap → EntryMap → Said → Type 0 where
  -- the first
  begun : Run seed one other one other (opening seed one)
  -- the reply to one before
  answered : {sender receiver : EntryMap} {said reply : Said} → Run seed one other sender receiver said
      → IsReply seed (joined receiver said.pieces) said reply
      → Run seed one other (joined receiver said.pieces) sender reply

-- in an exchange a print was told that was the receiver's own too, though its versions were not the sender's
abbrev pub Collided : ℕ → EntryMap → EntryMap → Type 0
Collided seed one other =
    (sender : EntryMap) × ((receiver : EntryMap) × ((said : Said)
    × (Run seed one other sender receiver said × Collides seed sender (joined receiver said.pieces) said)))

-- at each place the store holds what one of these holds
abbrev pub IsFrom : EntryMap → EntryMap → EntryMap → Type 0
IsFrom one other s = (p : PlaceParts) → (finmap.get s p ≡ finmap.get one p) ⊎ (finmap.get s p ≡ finmap.get other p)

-- both sides hold the same, which comes from what they held at first, unless prints collided
abbrev pub AreDone : ℕ → EntryMap → EntryMap → EntryMap → EntryMap → Type 0
AreDone seed one other s t = AreToldApart (edits_of one ++ edits_of other) → Collided seed one other ⊎ ((s ≡ t) × IsFrom one other s)
