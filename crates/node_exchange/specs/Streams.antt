-- Frames on a stream of bytes, and what they say.
-- Source: this project's own.
use Rattle.std.specs.Prelude.{ℕ, List, [], ◌∷◌, ◌++◌, length}
use Rattle.std.specs.Int.{to_be_bytes, w32}
use Rattle.exchange_session.specs.Standing.{Said}
use Rattle.exchange_bytes.specs.Cutting.{all_asks, all_prints}
use Rattle.exchange_bytes.specs.Frames.{parts_of}
use Rattle.exchange_bytes.specs.Spelling.{frame_spelling}
use Rattle.exchange_bytes.specs.declared.frames.Frame.{Frame}

-- a frame's bytes, behind how many they are in four bytes, the greatest first
unfoldable pub framed : Frame → List ℕ
framed f = let bytes = frame_spelling (parts_of f) in to_be_bytes w32 (length bytes) ++ bytes

-- frames, one behind the other
abbrev pub on_stream : List Frame → List ℕ
on_stream [] = []
on_stream (f ∷ fs) = framed f ++ on_stream fs

-- what frames say that is to be answered, once their pieces are taken
abbrev pub to_answer : List Frame → Said
to_answer fs = record { prints = all_prints fs; asks = all_asks fs; pieces = [] }
