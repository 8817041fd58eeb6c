-- What contracts see of a frame.
-- Source: this project's own.
use Rattle.std.specs.Prelude.{Bool, List, Option}
use Rattle.edit_sums.specs.Sums.{EntryMap}
use Rattle.exchange_session.specs.declared.messages.{RangeAsk.{RangeAsk}, RangePrint.{RangePrint}}
use Rattle.exchange_bytes.specs.declared.frames.{Frame.{Frame}, Hello.{Hello}}

pub record FrameParts : Type 0 where
  pub hello : Option Hello
  pub prints : List RangePrint
  pub asks : List RangeAsk
  pub piece : EntryMap
  pub more : Bool

abbrev pub parts_of : Frame → FrameParts
parts_of f = record { hello = f.hello; prints = f.prints.items; asks = f.asks.items; piece = f.piece; more = f.more }
