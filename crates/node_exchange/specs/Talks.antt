-- What a side says in an exchange, and what it hears.
-- Source: this project's own.
use Rattle.std.specs.Prelude.{◌≡◌, ◌⊎◌, ◌++◌, ◌∷◌, ℕ, [], All, IsPermutation, List, None, Option, Some}
use Rattle.std.specs.Io.KnownBytes.{Appends, Consumes}
use Rattle.edit_sums.specs.Sums.{EntryMap}
use Rattle.load_places.specs.Places.{PlaceParts}
use Rattle.range_prints.specs.Ranges.{versions_of}
use Rattle.world_law.specs.Cuts.{digest_of}
use Rattle.edit_log.specs.declared.logs.{LogHead.{LogHead}, LogPeer.{LogPeer}}
use Rattle.durable_node.specs.Peers.{AreLatest}
use Rattle.exchange_session.specs.{Joined.{joined}, Standing.{IsReply, opening, Said}, Told.{IsNewerAt, IsNothingNew, IsOwnPrint, IsTold, IsUnequalAt}}
use Rattle.exchange_bytes.specs.Cutting.{all_asks, all_pieces, all_prints, AreFrames}
use Rattle.exchange_bytes.specs.declared.frames.{Frame.{Frame}, Hello.{Hello}}
use Rattle.node_meetings.specs.Meeting.{IsHelloOf, MayMeet, news_of}
use Rattle.node_exchange.specs.Streams.{on_stream, to_answer}

-- the message asks for no answer
abbrev pub IsQuiet : Said → Type 0
IsQuiet m = (m.prints ≡ []) × (m.asks ≡ [])

-- the frames say the message; whoever takes their pieces takes its
pub record Say (fs : List Frame) (m : Said) : Type 0 where
  pub prints : all_prints fs ≡ m.prints
  pub asks : all_asks fs ≡ m.asks
  pub pieces : (s : EntryMap) → joined s (all_pieces fs) ≡ joined s m.pieces

-- the message was written as frames, the first of which has this hello
pub record Written (hello : Option Hello) (m : Said) (written_before written : Option (List ℕ)) : Type 0 where
  pub frames : List Frame
  pub are : AreFrames hello frames
  pub say : Say frames m
  pub wrote : Appends written_before written (on_stream frames)

-- what a node that holds this store answers to what it heard
pub record IsAnswer (seed : ℕ) (own : EntryMap) (heard answer : Said) : Type 0 where
  pub reply : IsReply seed own heard answer
  -- it tells of no place but where told prints aren't its own, and where it is asked by who has something newer
  pub stays : (p : PlaceParts) → IsTold p answer.prints answer.asks
      → IsUnequalAt seed (versions_of own) heard.prints p ⊎ IsNewerAt (digest_of own) heard.asks p
  -- where it agrees, and nothing is newer, it asks for no answer
  pub agreed : All (IsOwnPrint seed (versions_of own)) heard.prints → answer.prints ≡ []
  pub quiet : All (IsOwnPrint seed (versions_of own)) heard.prints → All (IsNothingNew (digest_of own)) heard.asks → answer.asks ≡ []

-- A side's part of an exchange, turn by turn, from where it held `from` and had heard `first`. A hello that is still to be said
-- stands in its next message. It has said and heard these frames, holds `to`, and is to answer `last`.
pub data Talk (seed : ℕ) (from : EntryMap) (first : Said) (hello : Option Hello) : List Frame → List Frame → EntryMap
    → Said → Option Hello → Type 0 where
  begun : Talk seed from first hello [] [] from first hello
  turned : {said heard : List Frame} {s : EntryMap} {last : Said} {due : Option Hello} (answer : Said) (told next : List Frame)
      → Talk seed from first hello said heard s last due
      → IsAnswer seed s last answer → AreFrames due told → Say told answer
      → AreFrames None next
      → Talk seed from first hello (said ++ told) (heard ++ next) (joined s (all_pieces next)) (to_answer next) None

-- it ends where what was heard asks for no answer and no hello is to be said, or with an answer that asks for none
pub data Ended (seed : ℕ) (from : EntryMap) (first : Said) (hello : Option Hello) : List Frame → List Frame → EntryMap → Type 0 where
  heard_out : {said heard : List Frame} {s : EntryMap} {last : Said} → Talk seed from first hello said heard s last None
      → IsQuiet last → Ended seed from first hello said heard s
  said_out : {said heard : List Frame} {s : EntryMap} {last : Said} {due : Option Hello} (answer : Said) (told : List Frame)
      → Talk seed from first hello said heard s last due
      → IsAnswer seed s last answer → AreFrames due told → Say told answer → IsQuiet answer
      → Ended seed from first hello (said ++ told) heard s

-- the rest of an exchange, behind the first message that was heard: the frames that were written and read, and what is held then
pub record Talks (seed : ℕ) (from : EntryMap) (first : Said) (hello : Option Hello) (to : EntryMap)
    (written_before written read_before read : Option (List ℕ)) : Type 0 where
  pub said : List Frame
  pub heard : List Frame
  pub ended : Ended seed from first hello said heard to
  pub wrote : Appends written_before written (on_stream said)
  pub consumed : Consumes read_before read (on_stream heard)

-- whom a node knew, and what is noted in its log of whom it met, if its files are honest
pub record Notes (head : LogHead) (known : List LogPeer) (met : Hello) (time : ℕ) (before after : List LogPeer) : Type 0 where
  pub latest : AreLatest before known
  pub noted : IsPermutation (before ++ news_of head known met time) after

-- the bytes that were written, and those that are still to be read, before and after, if they are known
pub record Traffic : Type 0 where
  pub written_before : Option (List ℕ)
  pub written : Option (List ℕ)
  pub read_before : Option (List ℕ)
  pub read : Option (List ℕ)

-- an exchange that a node begins: it says who it is and the print of all that it holds, hears who the peer is, and they go on
pub record Calls (head : LogHead) (seed : ℕ) (from to : EntryMap) (Noted : List LogPeer → Hello → Type 0) (over : Traffic) : Type 0 where
  pub known : List LogPeer
  pub own : Hello
  pub met : Hello
  pub is_own : IsHelloOf head known seed own
  pub may : MayMeet head known met
  pub notes : Noted known met
  pub begins : List Frame
  pub opens : AreFrames (Some own) begins
  pub says : Say begins (opening seed from)
  pub first : List Frame
  pub answered : AreFrames (Some met) first
  pub said : List Frame
  pub heard : List Frame
  pub ended : Ended seed (joined from (all_pieces first)) (to_answer first) None said heard to
  pub wrote : Appends over.written_before over.written (on_stream (begins ++ said))
  pub consumed : Consumes over.read_before over.read (on_stream (first ++ heard))

-- an exchange that the peer begins: its first message is heard, and its seed is used from then on
pub record Responds (head : LogHead) (from to : EntryMap) (Noted : List LogPeer → Hello → Type 0) (over : Traffic) : Type 0 where
  pub known : List LogPeer
  pub own : Hello
  pub met : Hello
  pub is_own : IsHelloOf head known met.seed own
  pub may : MayMeet head known met
  pub notes : Noted known met
  pub first : List Frame
  pub begun : AreFrames (Some met) first
  pub said : List Frame
  pub heard : List Frame
  pub ended : Ended met.seed (joined from (all_pieces first)) (to_answer first) (Some own) said heard to
  pub wrote : Appends over.written_before over.written (on_stream said)
  pub consumed : Consumes over.read_before over.read (on_stream (first ++ heard))

-- A peer is turned away: the node says this message and who it is and whom it knows, and reads one frame, by which the two may not meet.
pub record TurnsAway (head : LogHead) (given : ℕ) (message : Said) (Knew : List LogPeer → Type 0) (over : Traffic) : Type 0 where
  pub known : List LogPeer
  pub knew : Knew known
  pub own : Hello
  pub is_own : IsHelloOf head known given own
  pub wrote : Written (Some own) message over.written_before over.written
  pub first : Frame
  pub met : Hello
  pub says : first.hello ≡ Some met
  pub may_not : MayMeet head known met → ⊥
  pub read : Consumes over.read_before over.read (on_stream (first ∷ []))
