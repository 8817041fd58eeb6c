-- How long frames are at most.
-- Source: this project's own.
use Rattle.std.specs.Prelude.{◌≤◌, ◌+◌, length}
use Rattle.std.specs.FinMap as finmap
use Rattle.std.specs.List.{AllByRecursion}
use Rattle.exchange_session.specs.declared.messages.RangeAsk.{RangeAsk}
use Rattle.exchange_bytes.specs.Cutting.{frame_weight}
use Rattle.exchange_bytes.specs.Frames.{parts_of}
use Rattle.exchange_bytes.specs.Spelling.{frame_spelling, HasFrameSpelling, hello}
use Rattle.exchange_bytes.specs.declared.frames.Frame.{Frame}

-- so few versions that their ask weighs all of them
abbrev pub TellsFew : RangeAsk → Type 0
TellsFew it = length (finmap.entries it.versions) ≤ 1498

-- the bytes of a frame are no more than its parts weigh, its hello takes, and a hundred
abbrev pub AreShort : Type 0
AreShort = (f : Frame) → HasFrameSpelling (parts_of f) → AllByRecursion TellsFew f.asks.items → length (frame_spelling (parts_of f)) ≤ frame_weight f + (length (hello f.hello) + 100)
