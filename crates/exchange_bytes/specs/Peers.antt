-- Peers and their order.
-- Source: this project's own.
use Rattle.std.specs.Prelude.{ℕ, suc, Bool, if◌then◌else◌, List, [], ◌∷◌, Option, Some, IsTrue}
use Rattle.std.specs.Cmp.Lexicographic.{slice_cmp}
use Rattle.std.specs.Ordering.{is_lt, nat_cmp, ordering_then}
use Rattle.std.specs.declared.cmp.Ordering.{Ordering}
use Rattle.store_bytes.specs.ListReading.{is_above}
use Rattle.exchange_bytes.specs.declared.peers.Peer.{Peer}

-- by mark, then by number
abbrev pub peer_cmp : Peer → Peer → Ordering
peer_cmp x y = ordering_then (slice_cmp nat_cmp x.mark y.mark) (nat_cmp x.writer y.writer)

-- whether a peer is above the one before it, if there is one
abbrev pub is_next : Option Peer → Peer → Bool
is_next last p = is_above peer_cmp last p

-- each is above the one before it, the first above this one
abbrev pub AreAscending : Option Peer → List Peer → Type 0
AreAscending last [] = Unit {0}
AreAscending last (p ∷ ps) = IsTrue (is_next last p) × AreAscending (Some p) ps

-- how many of the first are below this one
abbrev pub leading : Peer → List Peer → ℕ
leading p [] = 0
leading p (q ∷ qs) = if is_lt (peer_cmp q p) then suc (leading p qs) else 0
