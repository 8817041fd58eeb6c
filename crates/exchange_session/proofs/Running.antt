-- What is known in an exchange.
use Rattle.std.proofs.Common.{◌++◌, ◌∷◌, ◌≡◌, ◌⊎◌}
use Rattle.std.specs.FinMap as finmap
use Rattle.exchange_session.proofs.Prelude.{[], All, ap, AreToldApart, arith, below_antisym, edit_of, edits_of, edits_of-found, Entry, entry_of, EntryMap, get-join, get_from_cut, inl, inr, IsAmong, IsAmong-append_left, IsAmong-append_right, IsBelow, IsStoreBelow, join, larger, larger-least, larger-left, larger-None, larger-right, larger_cases, List, map, None, Option, PlaceParts, refl, same_store, Some, subst, suc, sym, zero, ℕ, ◌∙◌, versions_of}
use Rattle.exchange_session.proofs.Replying.{openings_stand, replies_stand}
use Rattle.exchange_session.specs.{Answered.{piece_for, places_within}, Joined.{joined}, Runs.{Collided, IsFrom, Run, answered, begun}, Standing.{AreToldApartIn, Said, Stands}}
use Rattle.exchange_session.specs.declared.messages.{RangeAsk.{RangeAsk}}

-- pieces hold nothing that the store doesn't hold
abbrev ArePiecesOf : EntryMap → List EntryMap → Type 0
ArePiecesOf s pieces = All (λ (q : EntryMap). (p : PlaceParts) (x : Entry) → finmap.get q p ≡ Some x → finmap.get s p ≡ Some x) pieces

cut_from : (own : EntryMap) (it : RangeAsk) (p : PlaceParts) (x : Entry) → finmap.get (piece_for own it) p ≡ Some x → finmap.get own p ≡ Some x
unfolding piece_for
cut_from own it p x h = get_from_cut own it.versions (Some (places_within it.range (versions_of own))) p x h

cuts_from : (own : EntryMap) (asks : List RangeAsk) → ArePiecesOf own (map (piece_for own) asks)
cuts_from own [] k d lt = absurd (omega arith)
cuts_from own (ask ∷ asks) zero d lt = cut_from own ask
cuts_from own (ask ∷ asks) (suc k) d lt = cuts_from own asks k d (omega arith)

-- a store that takes pieces of another one holds at each place what one of them held
pub join_from : (s r q : EntryMap) (one other : EntryMap) → IsFrom one other s → IsFrom one other r → ((p : PlaceParts) (x : Entry) → finmap.get q p ≡ Some x → finmap.get s p ≡ Some x) → IsFrom one other (join r q)
join_from s r q one other from_s from_r piece p = by (larger_cases (finmap.get r p) (finmap.get q p))
  where
    held : (o : Option Entry) → finmap.get q p ≡ o → finmap.get (join r q) p ≡ o → (finmap.get (join r q) p ≡ finmap.get one p) ⊎ (finmap.get (join r q) p ≡ finmap.get other p)
    held None q_is is = elim (from_r p) [ inl h ↦ inl (whole ∙ h) | inr h ↦ inr (whole ∙ h) ]
      where
        whole : finmap.get (join r q) p ≡ finmap.get r p
        whole = get-join r q p ∙ ap (larger (finmap.get r p)) q_is ∙ larger-None (finmap.get r p)
    held (Some x) q_is is = elim (from_s p) [ inl h ↦ inl (is ∙ sym (piece p x q_is) ∙ h) | inr h ↦ inr (is ∙ sym (piece p x q_is) ∙ h) ]

    by : (larger (finmap.get r p) (finmap.get q p) ≡ finmap.get r p) ⊎ (larger (finmap.get r p) (finmap.get q p) ≡ finmap.get q p) → (finmap.get (join r q) p ≡ finmap.get one p) ⊎ (finmap.get (join r q) p ≡ finmap.get other p)
    by (inl h) = elim (from_r p) [ inl f ↦ inl (get-join r q p ∙ h ∙ f) | inr f ↦ inr (get-join r q p ∙ h ∙ f) ]
    by (inr h) = held (finmap.get q p) refl (get-join r q p ∙ h)

joined_from : (s r : EntryMap) (pieces : List EntryMap) (one other : EntryMap) → IsFrom one other s → IsFrom one other r → ArePiecesOf s pieces → IsFrom one other (joined r pieces)
joined_from s r [] one other from_s from_r are = from_r
joined_from s r (q ∷ pieces) one other from_s from_r are =
    joined_from s (join r q) pieces one other from_s (join_from s r q one other from_s from_r (are 0 q (omega arith))) (λ k d lt. are (suc k) d (omega arith))

pub record IsKnown (one other sender receiver : EntryMap) (said : Said) : Type 0 where
  pub sender_from : IsFrom one other sender
  pub receiver_from : IsFrom one other receiver
  pub pieces_of : ArePiecesOf sender said.pieces

pub known : {seed : ℕ} {one other sender receiver : EntryMap} {said : Said} → Run seed one other sender receiver said → IsKnown one other sender receiver said
known {seed} {one} {other} begun = record { sender_from = λ p. inl refl; receiver_from = λ p. inr refl; pieces_of = λ k d lt. absurd (omega arith) }
known {seed} {one} {other} (answered {sender} {receiver} {said} {reply} run is) =
    let before = known run in
    record {
      sender_from = joined_from sender receiver said.pieces one other before.sender_from before.receiver_from before.pieces_of;
      receiver_from = before.sender_from;
      pieces_of = subst (λ (l : List EntryMap). ArePiecesOf (joined receiver said.pieces) l) (sym is.pieces) (cuts_from (joined receiver said.pieces) said.asks);
    }

-- entries at one place of stores that come from these
pub apart_from : (one other s t : EntryMap) → AreToldApart (edits_of one ++ edits_of other) → IsFrom one other s → IsFrom one other t → AreToldApartIn s t
apart_from one other s t apart from_s from_t p x y s_is t_is same =
    ap entry_of (apart (edit_of (p, x)) (edit_of (p, y)) (among s x from_s s_is) (among t y from_t t_is) refl same)
  where
    among : (u : EntryMap) (z : Entry) → IsFrom one other u → finmap.get u p ≡ Some z → IsAmong (edit_of (p, z)) (edits_of one ++ edits_of other)
    among u z from is = elim (from p) [
      | inl h ↦ IsAmong-append_left (edit_of (p, z)) (edits_of one) (edits_of other) (edits_of-found one p z (sym h ∙ is))
      | inr h ↦ IsAmong-append_right (edit_of (p, z)) (edits_of one) (edits_of other) (edits_of-found other p z (sym h ∙ is))
    ]

-- a message of an exchange is one on its way, unless prints collided
pub run_stands : {seed : ℕ} {one other sender receiver : EntryMap} {said : Said} → AreToldApart (edits_of one ++ edits_of other) → Run seed one other sender receiver said
    → Collided seed one other ⊎ Stands seed sender receiver said
run_stands {seed} {one} {other} apart begun = inr (openings_stand seed one other)
run_stands {seed} {one} {other} apart (answered {sender} {receiver} {said} {reply} run is) = elim (run_stands apart run) [
  | inl found ↦ inl found
  | inr stands ↦
      let before = known run in
      let later = joined_from sender receiver said.pieces one other before.sender_from before.receiver_from before.pieces_of in
      elim (replies_stand seed sender receiver said reply stands (apart_from one other sender (joined receiver said.pieces) apart before.sender_from later) is) [
        | inl found ↦ inl (sender, (receiver, (said, (run, found))))
        | inr next ↦ inr next
      ]
]

-- a store that comes from both and is above both is their join
pub from_both : (one other s : EntryMap) → IsFrom one other s → IsStoreBelow one s → IsStoreBelow other s → s ≡ join one other
from_both one other s from below_one below_other = same_store _ _ (λ p.
    below_antisym (finmap.get s p) (finmap.get (join one other) p)
    (subst (λ (y : Option Entry). IsBelow (finmap.get s p) y) (sym (get-join one other p)) (elim (from p) [
      | inl h ↦ subst (λ (y : Option Entry). IsBelow y (larger (finmap.get one p) (finmap.get other p))) (sym h) (larger-left (finmap.get one p) (finmap.get other p))
      | inr h ↦ subst (λ (y : Option Entry). IsBelow y (larger (finmap.get one p) (finmap.get other p))) (sym h) (larger-right (finmap.get one p) (finmap.get other p))
    ]))
    (subst (λ (y : Option Entry). IsBelow y (finmap.get s p)) (sym (get-join one other p)) (larger-least (finmap.get one p) (finmap.get other p) (finmap.get s p) (below_one p) (below_other p))))
