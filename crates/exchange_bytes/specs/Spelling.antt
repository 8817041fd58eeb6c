-- How frames are written.
-- Source: this project's own; the checksum is SHA-256 of FIPS 180-4.
use Rattle.std.specs.Prelude.{ℕ, ◌≡◌, ◌<◌, ◌^◌, Bool, false, if◌then◌else◌, List, [], ◌∷◌, ◌++◌, length, Option, None, Some, IsTrue}
use Rattle.std.specs.FinMap as finmap
use Rattle.std.specs.Ordering.{eq_by_cmp}
use Rattle.sha2.specs.Sha256.{sha256}
use Rattle.byte_fields.specs.Spelling.{number}
use Rattle.load_places.specs.Places.{place_cmp, PlaceParts}
use Rattle.edit_sums.specs.Sums.{EntryMap}
use Rattle.range_prints.specs.declared.ranges.Range.{Range}
use Rattle.exchange_session.specs.declared.messages.{RangeAsk.{RangeAsk}, RangePrint.{RangePrint}}
use Rattle.store_bytes.specs.Bytes.{HasSpelling, HasVersionSpelling, scopes_of}
use Rattle.store_bytes.specs.ListSpelling.{head, pairs}
use Rattle.store_bytes.specs.Spelling.{entry, IsPlace, path, place, scope, version}
use Rattle.exchange_bytes.specs.Chains.{AreChained, chained}
use Rattle.exchange_bytes.specs.Frames.{FrameParts}
use Rattle.exchange_bytes.specs.Peers.{is_next}
use Rattle.exchange_bytes.specs.declared.{frames.Hello.{Hello}, peers.Peer.{Peer}}

-- ---- ranges

-- whether a place is the last bound told
abbrev pub is_last : Option PlaceParts → PlaceParts → Bool
is_last None p = false
is_last (Some q) p = eq_by_cmp place_cmp q p

-- none, the last bound told, or another place
abbrev pub bound : Option PlaceParts → Option PlaceParts → List ℕ
bound last None = 0 ∷ []
bound last (Some p) = if is_last last p then 1 ∷ [] else 2 ∷ place p

-- the lower bound after the last one told, the upper bound after the lower one
abbrev pub range : Option PlaceParts → Range → List ℕ
range last r = bound last r.from ++ bound r.from r.until

abbrev pub print : Option PlaceParts → RangePrint → List ℕ
print last it = range last it.range ++ number it.print

abbrev pub ask : Option PlaceParts → RangeAsk → List ℕ
ask last it = range last it.range ++ pairs place version (finmap.entries it.versions)

-- the last bound that is told in a print or an ask
abbrev pub print_tells : RangePrint → Option PlaceParts
print_tells it = it.range.until

abbrev pub ask_tells : RangeAsk → Option PlaceParts
ask_tells it = it.range.until

abbrev pub prints : List RangePrint → List ℕ
prints its = chained print print_tells None its

abbrev pub asks : List RangeAsk → List ℕ
asks its = chained ask ask_tells None its

-- ---- what a side says of itself

abbrev pub peer : Peer → List ℕ
peer p = p.mark ++ number p.writer

abbrev pub peers : List Peer → List ℕ
peers ps = chained (λ last p. peer p) (λ p. Some p) None ps

abbrev pub own : Hello → List ℕ
own h = (number h.writer ++ h.mark) ++ (number h.seed ++ peers h.peers)

abbrev pub hello : Option Hello → List ℕ
hello None = 0 ∷ []
hello (Some h) = 1 ∷ own h

-- ---- frames

-- the entries of a piece, by scope and path
abbrev pub piece : EntryMap → List ℕ
piece s = pairs scope (pairs path entry) (scopes_of s)

abbrev pub flag : Bool → List ℕ
flag b = (if b then 1 else 0) ∷ []

abbrev pub fields : FrameParts → List ℕ
fields f = hello f.hello ++ ((prints f.prints ++ asks f.asks) ++ (piece f.piece ++ flag f.more))

abbrev pub frame_covered : FrameParts → List ℕ
frame_covered f = head 4 ++ fields f

-- behind all that stands its checksum
abbrev pub frame_spelling : FrameParts → List ℕ
frame_spelling f = frame_covered f ++ sha256 (frame_covered f)

-- ---- what has a spelling

abbrev pub IsBound : Option PlaceParts → Type 0
IsBound None = Unit {0}
IsBound (Some p) = IsPlace p

pub record IsRange (r : Range) : Type 0 where
  pub from : IsBound r.from
  pub until : IsBound r.until

pub record IsPrint (last : Option PlaceParts) (it : RangePrint) : Type 0 where
  pub range : IsRange it.range
  pub print : it.print < 2 ^ 64

pub record IsAsk (last : Option PlaceParts) (it : RangeAsk) : Type 0 where
  pub range : IsRange it.range
  pub versions : HasVersionSpelling it.versions

pub record IsPeer (p : Peer) : Type 0 where
  pub mark : length p.mark ≡ 16
  pub writer : p.writer < 2 ^ 32

-- and it is above the peer before it
pub record IsPeerAfter (last : Option Peer) (p : Peer) : Type 0 where
  pub peer : IsPeer p
  pub next : IsTrue (is_next last p)

abbrev pub ArePrints : List RangePrint → Type 0
ArePrints = AreChained IsPrint print_tells None

abbrev pub AreAsks : List RangeAsk → Type 0
AreAsks = AreChained IsAsk ask_tells None

abbrev pub ArePeers : List Peer → Type 0
ArePeers = AreChained IsPeerAfter (λ p. Some p) None

pub record IsHello (h : Hello) : Type 0 where
  pub writer : h.writer < 2 ^ 32
  pub mark : length h.mark ≡ 16
  pub seed : h.seed < 2 ^ 64
  pub peers : ArePeers h.peers

abbrev pub IsHelloOrNone : Option Hello → Type 0
IsHelloOrNone None = Unit {0}
IsHelloOrNone (Some h) = IsHello h

-- all of it has a spelling, as that of every frame in memory does
pub record HasFrameSpelling (f : FrameParts) : Type 0 where
  pub hello : IsHelloOrNone f.hello
  pub prints : ArePrints f.prints
  pub asks : AreAsks f.asks
  pub piece : HasSpelling f.piece
