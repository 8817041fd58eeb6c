-- Whom a node knows, and whom it meets.
-- Source: this project's own.
use Rattle.std.proofs.Common.{◌≡◌, ◌≢◌, ◌++◌, ◌∷◌, ◌==◌, ◌-◌, ◌&&◌, ◌↔◌, ℕ, [], Bool, false, if◌then◌else◌, List, map, nat_lt, not}
use Rattle.std.specs.Cmp.Lexicographic.{slice_cmp}
use Rattle.std.specs.List.{filter, list_any}
use Rattle.std.specs.Ordering.{is_eq, nat_cmp}
use Rattle.list_laws.specs.Members.{IsAmong}
use Rattle.edit_log.specs.declared.logs.{LogHead.{LogHead}, LogPeer.{LogPeer}}
use Rattle.exchange_bytes.specs.declared.{frames.Hello.{Hello}, peers.Peer.{Peer}}

-- a peer of the log as it is told to others
abbrev pub peer_of : LogPeer → Peer
peer_of p = record { mark = p.mark; writer = p.writer }

-- who says this of itself
abbrev pub speaker : Hello → Peer
speaker hello = record { mark = hello.mark; writer = hello.writer }

abbrev pub node_of : LogHead → Peer
node_of head = record { mark = head.mark; writer = head.writer }

abbrev pub is_same_mark : Peer → Peer → Bool
is_same_mark p q = is_eq (slice_cmp nat_cmp p.mark q.mark)

-- another file under the same number
abbrev pub is_other_file : Peer → Peer → Bool
is_other_file p q = (q.writer == p.writer) && not (is_same_mark p q)

abbrev pub has_other_file : Peer → List Peer → Bool
has_other_file p = list_any (is_other_file p)

abbrev pub knows_other_file : List LogPeer → Peer → Bool
knows_other_file known p = list_any (λ q. is_other_file p (peer_of q)) known

-- what a node says of itself: who it is, and all whom it knows
pub record IsHelloOf (head : LogHead) (known : List LogPeer) (given : ℕ) (hello : Hello) : Type 0 where
  pub node : speaker hello ≡ node_of head
  pub seed : hello.seed ≡ given
  pub peers : (p : Peer) → IsAmong p hello.peers ↔ IsAmong p (map peer_of known)

-- Who says so may be met by a node with this head, which knows these: it writes under another number, none that is known is another file
-- of its number, and it knows no other file of the node's number.
pub record MayMeet (head : LogHead) (known : List LogPeer) (hello : Hello) : Type 0 where
  pub other : hello.writer ≢ head.writer
  pub free : knows_other_file known (speaker hello) ≡ false
  pub own_free : has_other_file (node_of head) hello.peers ≡ false

-- ---- what is noted of a meeting

abbrev pub is_same : Peer → LogPeer → Bool
is_same p q = (q.writer == p.writer) && is_same_mark p (peer_of q)

abbrev pub is_known : List LogPeer → Peer → Bool
is_known known p = list_any (is_same p) known

-- a peer that is told of is news if it isn't the node itself and isn't known
abbrev pub is_news : LogHead → List LogPeer → Peer → Bool
is_news head known p = not (is_same_mark (node_of head) p) && not (is_known known p)

-- whom the peer tells of, where that is news
abbrev pub told_news : LogHead → List LogPeer → List Peer → List LogPeer
told_news head known told = map (λ p. record { mark = p.mark; writer = p.writer; seen = 0 }) (filter (is_news head known) told)

-- this node was met within the hour before
abbrev pub was_met : List LogPeer → Peer → ℕ → Bool
was_met known p time = list_any (λ q. is_same p q && nat_lt (time - q.seen) 3600) known

abbrev pub met_news : List LogPeer → Peer → ℕ → List LogPeer
met_news known p time = if was_met known p time then [] else record { mark = p.mark; writer = p.writer; seen = time } ∷ []

-- what is noted: those of whom the peer tells, where that is news, and the peer with the time, unless it was met just before
abbrev pub news_of : LogHead → List LogPeer → Hello → ℕ → List LogPeer
news_of head known hello time = told_news head known hello.peers ++ met_news known (speaker hello) time

-- ---- the law

-- Whom a node may not meet may not meet it either, where both said who they are and whom they know.
abbrev pub MeetingsAreMutual : Type 0
MeetingsAreMutual = (one other : LogHead) (ones others : List LogPeer) (given told : ℕ) (says answers : Hello)
    → IsHelloOf one ones given says → IsHelloOf other others told answers → MayMeet one ones answers → MayMeet other others says
