-- What is heard of a message.
-- Source: this project's own.
use Rattle.std.specs.Prelude.{◌≡◌, ◌∷◌, ℕ, List, Option}
use Rattle.std.specs.Io.KnownBytes.{Consumes}
use Rattle.edit_sums.specs.Sums.{EntryMap}
use Rattle.exchange_session.specs.Joined.{joined}
use Rattle.exchange_session.specs.declared.messages.{RangeAsk.{RangeAsk}, RangePrint.{RangePrint}}
use Rattle.exchange_bytes.specs.Cutting.{all_asks, all_pieces, all_prints, AreFrames}
use Rattle.exchange_bytes.specs.declared.frames.Frame.{Frame}
use Rattle.node_exchange.specs.Streams.{on_stream}

-- behind its first frame the rest of a message was read: its prints and asks are these, and its pieces are taken
pub record Hears (first : Frame) (from to : EntryMap) (told : List RangePrint) (asked : List RangeAsk)
    (read_before read : Option (List ℕ)) : Type 0 where
  pub rest : List Frame
  pub message : AreFrames first.hello (first ∷ rest)
  pub prints : told ≡ all_prints (first ∷ rest)
  pub asks : asked ≡ all_asks (first ∷ rest)
  pub taken : to ≡ joined from (all_pieces (first ∷ rest))
  pub consumed : Consumes read_before read (on_stream rest)
