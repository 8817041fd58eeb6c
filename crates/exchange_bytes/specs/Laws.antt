-- Each frame has one spelling, and each spelling one frame.
-- Source: this project's own.
use Rattle.std.specs.Prelude.{◌≡◌, ℕ, List, Ok}
use Rattle.byte_fields.specs.Laws.{IsBytes}
use Rattle.exchange_bytes.specs.Frames.{FrameParts}
use Rattle.exchange_bytes.specs.Reading.{frame_in}
use Rattle.exchange_bytes.specs.Spelling.{frame_spelling, HasFrameSpelling}

pub record AreFramesOneToOne : Type 0 where
  -- frames with the same bytes are the same
  pub same_frames : (f g : FrameParts) → HasFrameSpelling f → HasFrameSpelling g → frame_spelling f ≡ frame_spelling g → f ≡ g
  -- no two byte strings are read alike
  pub one_spelling : (b c : List ℕ) (f : FrameParts) → IsBytes b → IsBytes c → frame_in b ≡ Ok f → frame_in c ≡ Ok f → b ≡ c
