-- Two sides that say who they are and whom they know answer alike whether they may meet.
use Rattle.std.proofs.Common.{◌≡◌, ◌∙◌, ◌||◌, ◌∷◌, [], ap, Bool, false, inl, inr, List, map, refl, subst, sym}
use Rattle.std.{proofs.lemmas.Bool.{or_parts}, specs.List.{list_any}}
use Rattle.list_laws.specs.Members.{IsAmong}
use Rattle.edit_log.specs.declared.logs.{LogPeer.{LogPeer}}
use Rattle.exchange_bytes.specs.declared.{peers.Peer.{Peer}}
use Rattle.node_meetings.specs.Meeting.{is_other_file, knows_other_file, MeetingsAreMutual, node_of, peer_of}

-- ---- what no member of a list is

no_member : {X : Type 0} (p : X → Bool) (x : X) (xs : List X) → list_any p xs ≡ false → IsAmong x xs → p x ≡ false
no_member p x [] none there = absurd there
no_member p x (y ∷ ys) none (inl is) = subst (λ v. p v ≡ false) is (or_parts (p y) (list_any p ys) none).0
no_member p x (y ∷ ys) none (inr later) = no_member p x ys (or_parts (p y) (list_any p ys) none).1 later

none_of_all : {X : Type 0} (p : X → Bool) (xs : List X) → ((x : X) → IsAmong x xs → p x ≡ false) → list_any p xs ≡ false
none_of_all p [] each = refl
none_of_all p (y ∷ ys) each = ap (λ b. b || list_any p ys) (each y (inl refl)) ∙ none_of_all p ys (λ x later. each x (inr later))

-- a peer of the log is told as what it is told as
told_as : (q : LogPeer) (known : List LogPeer) → IsAmong q known → IsAmong (peer_of q) (map peer_of known)
told_as q [] there = absurd there
told_as q (k ∷ known) (inl is) = inl (ap peer_of is)
told_as q (k ∷ known) (inr later) = inr (told_as q known later)

-- whoever is told of is a peer of the log
told_of : (p : Peer) (known : List LogPeer) → IsAmong p (map peer_of known) → (q : LogPeer) × IsAmong q known × (peer_of q ≡ p)
told_of p [] there = absurd there
told_of p (k ∷ known) (inl is) = (k, inl refl, is)
told_of p (k ∷ known) (inr later) = let q = told_of p known later in (q.0, inr q.1, q.2)

pub meetings_are_mutual : MeetingsAreMutual
meetings_are_mutual one other ones others given told says answers is_one is_other may = record {
  other = λ same. may.other (ap (λ p. p.writer) is_other.node ∙ sym same ∙ ap (λ p. p.writer) is_one.node);
  free = subst (λ p. knows_other_file others p ≡ false) (sym is_one.node)
      (none_of_all (λ q. is_other_file (node_of one) (peer_of q)) others
      (λ q there. no_member (is_other_file (node_of one)) (peer_of q) answers.peers may.own_free ((is_other.peers (peer_of q)).1 (told_as q others there))));
  own_free = none_of_all (is_other_file (node_of other)) says.peers
      (λ p there.
      let known = told_of p ones ((is_one.peers p).0 there) in
      let free : knows_other_file ones (node_of other) ≡ false = subst (λ s. knows_other_file ones s ≡ false) is_other.node may.free in
      subst (λ r. is_other_file (node_of other) r ≡ false) known.2 (no_member (λ q. is_other_file (node_of other) (peer_of q)) known.0 ones free known.1));
}
