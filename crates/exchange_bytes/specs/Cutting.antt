-- Messages that are cut into frames.
-- Source: this project's own.
use Rattle.std.specs.Prelude.{ℕ, All, ◌≡◌, ◌≤◌, ◌+◌, ◌*◌, true, false, List, [], ◌∷◌, ◌++◌, length, map, min, None, Option}
use Rattle.std.specs.FinMap as finmap
use Rattle.std.specs.List.{flat_map}
use Rattle.load_places.specs.Places.{PlaceParts}
use Rattle.edit_sums.specs.Contents.{bytes_of}
use Rattle.edit_sums.specs.Entries.{Entry}
use Rattle.edit_sums.specs.Sums.{EntryMap, join}
use Rattle.edit_sums.specs.declared.contents.Content.{Content}
use Rattle.exchange_session.specs.Joined.{joined}
use Rattle.exchange_session.specs.declared.messages.{Message.{Message}, RangeAsk.{RangeAsk}, RangePrint.{RangePrint}}
use Rattle.exchange_bytes.specs.declared.{cutting.Packing.{Packing}, frames.{Frame.{Frame}, Hello.{Hello}}}

-- ---- what frames say, one after another

abbrev pub all_prints : List Frame → List RangePrint
all_prints fs = flat_map (λ f. f.prints.items) fs

abbrev pub all_asks : List Frame → List RangeAsk
all_asks fs = flat_map (λ f. f.asks.items) fs

abbrev pub all_pieces : List Frame → List EntryMap
all_pieces fs = map (λ f. f.piece) fs

-- frames that others follow, each of which says so; of them and the frame behind them, which has this hello, the first alone has one
abbrev pub AreBefore : Option Hello → List Frame → Option Hello → Type 0
AreBefore first [] last = last ≡ first
AreBefore first (f ∷ fs) last = (f.hello ≡ first) × ((f.more ≡ true) × AreBefore None fs last)

-- the frames of a message: at least one, the first alone with this hello, and each but the last says that more come
pub record AreFrames (first : Option Hello) (fs : List Frame) : Type 0 where
  pub front : List Frame
  pub last : Frame
  pub whole : fs ≡ front ++ last ∷ []
  pub before : AreBefore first front last.hello
  pub ends : last.more ≡ false

-- ---- weights: no fewer bytes than what is written takes

-- the most that a frame takes, but for its hello
abbrev pub frame_limit : ℕ
frame_limit = 900000

abbrev pub print_weight : RangePrint → ℕ
print_weight it = 1200

-- an ask of very many versions fills a frame
abbrev pub ask_weight : RangeAsk → ℕ
ask_weight it = 1200 + 600 * min (length (finmap.entries it.versions)) 1498

abbrev pub content_weight : Content → ℕ
content_weight c = 700 + length (bytes_of c)

abbrev pub entry_weight : PlaceParts × Entry → ℕ
entry_weight e = content_weight e.1.content

abbrev pub total : {X : Type 0} → (X → ℕ) → List X → ℕ
total weight [] = 0
total weight (x ∷ xs) = weight x + total weight xs

abbrev pub piece_weight : EntryMap → ℕ
piece_weight s = total entry_weight (finmap.entries s)

abbrev pub message_weight : Message → ℕ
message_weight m = total print_weight m.prints.items + (total ask_weight m.asks.items + total piece_weight m.pieces.items)

abbrev pub frame_weight : Frame → ℕ
frame_weight f = total print_weight f.prints.items + (total ask_weight f.asks.items + piece_weight f.piece)

-- it takes no more than a frame may
abbrev pub IsSmall : Frame → Type 0
IsSmall f = frame_weight f ≤ frame_limit

-- ---- words for private clauses: frames, and one that is open

abbrev pub prints_in : Packing → List RangePrint
prints_in p = all_prints p.frames.items ++ p.prints.items

abbrev pub asks_in : Packing → List RangeAsk
asks_in p = all_asks p.frames.items ++ p.asks.items

abbrev pub pieces_in : Packing → List EntryMap
pieces_in p = all_pieces p.frames.items ++ p.store ∷ []

abbrev pub IsOpen : Option Hello → Packing → Type 0
IsOpen first p = AreBefore first p.frames.items p.hello

-- all that was said, and then this
pub record SaysAlso (old now : Packing) (told : List RangePrint) (asked : List RangeAsk) (sent : EntryMap) : Type 0 where
  pub prints : prints_in now ≡ prints_in old ++ told
  pub asks : asks_in now ≡ asks_in old ++ asked
  pub pieces : (s : EntryMap) → joined s (pieces_in now) ≡ join (joined s (pieces_in old)) sent
  pub linked : (first : Option Hello) → IsOpen first old → IsOpen first now

-- what weighs so much stands in the open frame alone, if that can hold it
abbrev pub Weighs : Packing → ℕ → Type 0
Weighs p w = w ≤ frame_limit → (p.frames.items ≡ []) × (p.weight ≡ w)

-- it weighs so much more
abbrev pub IsHeavier : Packing → Packing → ℕ → Type 0
IsHeavier old now more = (w : ℕ) → Weighs old w → Weighs now (w + more)

pub record GrowsBy (old now : Packing) (more : ℕ) : Type 0 where
  pub weighs : IsHeavier old now more

abbrev pub open_weight : Packing → ℕ
open_weight p = total print_weight p.prints.items + (total ask_weight p.asks.items + piece_weight p.store)

-- all frames are small, and the open one has room for so much more
pub record HasRoom (p : Packing) (more : ℕ) : Type 0 where
  pub frames : All IsSmall p.frames.items
  pub held : open_weight p + more ≤ p.weight
  pub within : p.weight ≤ frame_limit
