-- Reading from left to right, with the first fault that is met.
-- Source: this project's own.
use Rattle.std.specs.Prelude.{ℕ, ◌^◌, ◌==◌, Bool, true, false, nat_lt, if◌then◌else◌, List, length, Option, None, Some, Result, Ok, Err}
use Rattle.std.specs.FinMap as finmap
use Rattle.byte_fields.specs.Reading.{◌>>=◌, byte_at, cut_at, number_at}
use Rattle.byte_fields.specs.declared.faults.SpellingFault.{SpellingFault}
use Rattle.byte_fields.specs.declared.faults.SpellingFault.TheVariants as fault
use Rattle.load_path.specs.Paths.{path_cmp}
use Rattle.load_places.specs.Places.{place_cmp, PlaceParts, scope_cmp}
use Rattle.edit_sums.specs.Sums.{EntryMap}
use Rattle.world_law.specs.Cuts.{VersionMap}
use Rattle.range_prints.specs.declared.ranges.Range.{Range}
use Rattle.exchange_session.specs.declared.messages.{RangeAsk.{RangeAsk}, RangePrint.{RangePrint}}
use Rattle.store_bytes.specs.ListReading.{group_at, key_above_at, list_at, opened, Reader}
use Rattle.store_bytes.specs.Reading.{entry_at, path_at, place_at, scope_at, version_at}
use Rattle.store_bytes.specs.Stores.{flattened}
use Rattle.exchange_bytes.specs.Chains.{chained_at}
use Rattle.exchange_bytes.specs.Frames.{FrameParts}
use Rattle.exchange_bytes.specs.Peers.{peer_cmp}
use Rattle.exchange_bytes.specs.Spelling.{ask_tells, is_last, print_tells}
use Rattle.exchange_bytes.specs.declared.{frames.Hello.{Hello}, peers.Peer.{Peer}}

-- ---- ranges

abbrev pub last_from : Option PlaceParts → List ℕ → Result (Option PlaceParts × List ℕ) SpellingFault
last_from None rest = Err fault.Order
last_from (Some p) rest = Ok (Some p, rest)

abbrev pub other_from : Option PlaceParts → PlaceParts × List ℕ → Result (Option PlaceParts × List ℕ) SpellingFault
other_from last place = if is_last last place.0 then Err fault.Order else Ok (Some place.0, place.1)

-- a bound of this sort
abbrev pub bound_from : Option PlaceParts → ℕ × List ℕ → Result (Option PlaceParts × List ℕ) SpellingFault
bound_from last sort =
    if sort.0 == 0 then Ok (None, sort.1) else if sort.0 == 1 then last_from last sort.1 else if sort.0 == 2 then place_at sort.1 >>= other_from last else Err fault.Number

unfoldable pub bound_at : Option PlaceParts → Reader (Option PlaceParts)
bound_at last bytes = byte_at bytes >>= bound_from last

-- a lower bound, and an upper one after it
unfoldable pub range_at : Option PlaceParts → Reader Range
range_at last bytes = do
  from ← bound_at last bytes
  until ← bound_at from.0 from.1
  Ok (record { from = from.0; until = until.0 }, until.1)

unfoldable pub print_at : Option PlaceParts → Reader RangePrint
print_at last bytes = do
  range ← range_at last bytes
  print ← number_at range.1
  Ok (record { range = range.0; print = print.0 }, print.1)

unfoldable pub versions_at : Reader VersionMap
versions_at bytes = list_at place_cmp place_at version_at bytes >>= λ versions. Ok (finmap.from_sorted versions.0, versions.1)

unfoldable pub ask_at : Option PlaceParts → Reader RangeAsk
ask_at last bytes = do
  range ← range_at last bytes
  versions ← versions_at range.1
  Ok (record { range = range.0; versions = versions.0 }, versions.1)

abbrev pub prints_at : Reader (List RangePrint)
prints_at bytes = chained_at print_at print_tells None bytes

abbrev pub asks_at : Reader (List RangeAsk)
asks_at bytes = chained_at ask_at ask_tells None bytes

-- ---- what a side says of itself

unfoldable pub mark_at : Reader (List ℕ)
mark_at bytes = cut_at 16 bytes

unfoldable pub writer_at : Reader ℕ
writer_at bytes = number_at bytes >>= λ writer. if nat_lt writer.0 (2 ^ 32) then Ok writer else Err fault.Number

unfoldable pub peer_at : Reader Peer
peer_at bytes = do
  mark ← mark_at bytes
  writer ← writer_at mark.1
  Ok (record { mark = mark.0; writer = writer.0 }, writer.1)

abbrev pub peers_at : Reader (List Peer)
peers_at bytes = chained_at (key_above_at peer_cmp peer_at) (λ p. Some p) None bytes

-- a seed, and peers
unfoldable pub seed_peers_at : Reader (ℕ × List Peer)
seed_peers_at bytes = do
  seed ← number_at bytes
  peers ← peers_at seed.1
  Ok ((seed.0, peers.0), peers.1)

-- a writer, and a mark
unfoldable pub writer_mark_at : Reader (ℕ × List ℕ)
writer_mark_at bytes = do
  writer ← writer_at bytes
  mark ← mark_at writer.1
  Ok ((writer.0, mark.0), mark.1)

unfoldable pub own_at : Reader Hello
own_at bytes = do
  name ← writer_mark_at bytes
  rest ← seed_peers_at name.1
  Ok (record { writer = name.0.0; mark = name.0.1; seed = rest.0.0; peers = rest.0.1 }, rest.1)

abbrev pub some_own : Hello × List ℕ → Result (Option Hello × List ℕ) SpellingFault
some_own own = Ok (Some own.0, own.1)

abbrev pub hello_from : ℕ × List ℕ → Result (Option Hello × List ℕ) SpellingFault
hello_from sort = if sort.0 == 0 then Ok (None, sort.1) else if sort.0 == 1 then own_at sort.1 >>= some_own else Err fault.Number

-- one, or none
unfoldable pub hello_at : Reader (Option Hello)
hello_at bytes = byte_at bytes >>= hello_from

-- ---- frames

unfoldable pub piece_at : Reader EntryMap
piece_at bytes = list_at scope_cmp scope_at (group_at path_cmp path_at entry_at) bytes >>= λ scopes. Ok (finmap.from_sorted (flattened scopes.0), scopes.1)

abbrev pub flag_from : ℕ × List ℕ → Result (Bool × List ℕ) SpellingFault
flag_from byte = if byte.0 == 0 then Ok (false, byte.1) else if byte.0 == 1 then Ok (true, byte.1) else Err fault.Number

unfoldable pub flag_at : Reader Bool
flag_at bytes = byte_at bytes >>= flag_from

-- a piece, and whether more frames come
unfoldable pub piece_flag_at : Reader (EntryMap × Bool)
piece_flag_at bytes = do
  piece ← piece_at bytes
  more ← flag_at piece.1
  Ok ((piece.0, more.0), more.1)

-- prints, and asks
unfoldable pub prints_asks_at : Reader (List RangePrint × List RangeAsk)
prints_asks_at bytes = do
  prints ← prints_at bytes
  asks ← asks_at prints.1
  Ok ((prints.0, asks.0), asks.1)

-- what a message says of ranges, and its entries
unfoldable pub told_at : Reader ((List RangePrint × List RangeAsk) × (EntryMap × Bool))
told_at bytes = do
  told ← prints_asks_at bytes
  rest ← piece_flag_at told.1
  Ok ((told.0, rest.0), rest.1)

unfoldable pub fields_at : Reader FrameParts
fields_at bytes = do
  hello ← hello_at bytes
  told ← told_at hello.1
  Ok (record { hello = hello.0; prints = told.0.0.0; asks = told.0.0.1; piece = told.0.1.0; more = told.0.1.1 }, told.1)

-- what was read, if no bytes follow it
abbrev pub whole : {A : Type 0} → A × List ℕ → Result A SpellingFault
whole read = if length read.1 == 0 then Ok read.0 else Err fault.Trailing

-- the frame that bytes spell, or the first fault; the head and the checksum are tested before what stands between
unfoldable pub frame_in : List ℕ → Result FrameParts SpellingFault
frame_in bytes = do
  inner ← opened 4 bytes
  read ← fields_at inner
  whole read
