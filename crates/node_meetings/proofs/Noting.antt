-- Peers that are told, one after another.
use Rattle.std.proofs.Common.{◌≡◌, ◌++◌, ◌+◌, ◌<◌, ◌≤◌, ◌∷◌, ◌∙◌, ◌↔◌, ◌⊎◌, [], ap, get_or, inl, inr, length, List, map, subst, sym, take, ℕ}
use Rattle.std.proofs.lemmas.List.{map-append, take_all, take_more}
use Rattle.list_laws.specs.Members.{IsAmong, IsAmong-append_cases, IsAmong-append_left, IsAmong-append_right}
use Rattle.edit_log.specs.declared.logs.LogPeer.{LogPeer}
use Rattle.exchange_bytes.specs.declared.peers.Peer.{Peer}
use Rattle.node_meetings.specs.Meeting.{peer_of}

last_among : {X : Type 0} (x y : X) (xs : List X) → IsAmong x (xs ++ y ∷ []) → (x ≡ y) ⊎ IsAmong x xs
last_among x y xs among = elim (IsAmong-append_cases x xs (y ∷ []) among) [ inl there ↦ inr there | inr (inl is) ↦ inl (sym is) | inr (inr none) ↦ absurd none ]

among_last : {X : Type 0} (x y : X) (xs : List X) → (x ≡ y) ⊎ IsAmong x xs → IsAmong x (xs ++ y ∷ [])
among_last x y xs (inl is) = IsAmong-append_right x xs (y ∷ []) (inl (sym is))
among_last x y xs (inr there) = IsAmong-append_left x xs (y ∷ []) there

-- the peers are those of the log, as they are told
abbrev pub AreToldOf : List Peer → List LogPeer → Type 0
AreToldOf peers known = (p : Peer) → IsAmong p peers ↔ IsAmong p (map peer_of known)

-- one more peer of the log is told
pub one_more_told : (known : List LogPeer) (i : ℕ) (k : LogPeer) (p : Peer) (old new : List Peer) → i < length known → p ≡ peer_of (get_or known i k)
    → AreToldOf old (take i known) → ((q : Peer) → IsAmong q new ↔ ((q ≡ p) ⊎ IsAmong q old)) → AreToldOf new (take (i + 1) known)
one_more_told known i k p old new low peer far more q =
    let before = map peer_of (take i known) in
    let all : map peer_of (take (i + 1) known) ≡ before ++ p ∷ [] =
    ap (map peer_of) (take_more known i k low) ∙ map-append peer_of (take i known) (get_or known i k ∷ []) ∙ ap (λ (r : Peer). before ++ r ∷ []) (sym peer) in
    let to : IsAmong q new → IsAmong q (before ++ p ∷ []) = λ there. among_last q p before (elim ((more q).0 there) [ inl same ↦ inl same | inr earlier ↦ inr ((far q).0 earlier) ]) in
    let from : IsAmong q (before ++ p ∷ []) → IsAmong q new = λ there. elim (last_among q p before there) [ inl same ↦ (more q).1 (inl same) | inr earlier ↦ (more q).1 (inr ((far q).1 earlier)) ] in
    subst (λ (l : List Peer). IsAmong q new ↔ IsAmong q l) (sym all) (to, from)

pub all_told : (known : List LogPeer) (i : ℕ) (peers : List Peer) → length known ≤ i → AreToldOf peers (take i known) → AreToldOf peers known
all_told known i peers end = subst (λ (l : List LogPeer). AreToldOf peers l) (take_all i known end)
