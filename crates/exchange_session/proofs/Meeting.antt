-- What is known where two replicas answer each other.
use Rattle.std.proofs.Common.{◌++◌, ◌∷◌, ◌≡◌, ◌⊎◌}
use Rattle.exchange_session.proofs.Prelude.{[], All, AreToldApart, digest_of, Edit, edits_of, edits_of-found, EntryMap, Err, everything, get_from_edits_of, inl, inr, IsAmong, IsAmong-append_cases, IsAmong-append_left, IsAmong-append_right, IsStoreBelow, join, join-left, join-right, map, Ok, OnOk, Result, store_below_trans, subst, sym, ℕ, ◌∙◌, versions_of}
use Rattle.exchange_session.proofs.{Replying.{quiet_ends}, Running.{from_both, join_from, known, run_stands}}
use Rattle.exchange_session.specs.{Answered.{piece_for}, Joined.{joined}, Runs.{answered, AreDone, begun, Collided, IsFrom, Run, said_of}, Standing.{IsReply, Said, Stands}, Told.{IsAskedBack, IsOwnAsk, IsOwnPrint, IsPursued, own_print}}
use Rattle.exchange_session.specs.declared.messages.{Message.{Message}}

-- a reply is the next message
pub replied : {seed : ℕ} {s t a b : EntryMap} (own : EntryMap) (message back : Message) → Run seed s t a b (said_of message) → own ≡ joined b message.pieces.items
    → All (IsOwnPrint seed (versions_of own)) back.prints.items → All (IsOwnAsk (versions_of own)) back.asks.items → back.pieces.items ≡ map (piece_for own) message.asks.items
    → All (IsPursued seed (versions_of own) back.prints.items back.asks.items) message.prints.items → All (IsAskedBack (digest_of own) back.asks.items) message.asks.items
    → Run seed s t own a (said_of back)
replied {seed} {s} {t} {a} {b} own message back run taken prints asks pieces pursued asked =
    let is : IsReply seed own (said_of message) (said_of back) = record { prints = prints; asks = asks; pieces = pieces; pursued = pursued; asked_back = asked } in
    subst (λ (x : EntryMap). Run seed s t x a (said_of back)) (sym taken) (answered run (subst (λ (x : EntryMap). IsReply seed x (said_of message) (said_of back)) taken is))

-- whoever takes the pieces of a message that needs no answer holds what its sender holds
pub met : {seed : ℕ} {s t sender receiver : EntryMap} {said : Said} (behind : EntryMap) → Run seed s t sender receiver said → said.prints ≡ [] → said.asks ≡ [] → behind ≡ joined receiver said.pieces
    → AreToldApart (edits_of s ++ edits_of t) → Collided seed s t ⊎ ((behind ≡ sender) × IsFrom s t sender)
met {seed} {s} {t} {sender} {receiver} {said} behind run no_prints no_asks taken apart = elim (run_stands apart run) [
  | inl found ↦ inl found
  | inr stands ↦
      let quiet = subst (λ (x : Said). Stands seed sender receiver x) (λ i. record { prints = no_prints i; asks = no_asks i; pieces = said.pieces }) stands in
      inr (taken ∙ quiet_ends seed sender receiver said.pieces quiet, (known run).sender_from)
]

-- both hold the join
pub both_joined : (seed : ℕ) (s t a b : EntryMap) → AreDone seed s t a b → IsStoreBelow s a → IsStoreBelow t b → AreToldApart (edits_of s ++ edits_of t)
    → Collided seed s t ⊎ ((a ≡ join s t) × (b ≡ join s t))
both_joined seed s t a b done below_a below_b apart = elim (done apart) [
  | inl found ↦ inl found
  | inr same ↦
      let all : a ≡ join s t = from_both s t a same.1 below_a (subst (λ (x : EntryMap). IsStoreBelow t x) (sym same.0) below_b) in
      inr (all, sym same.0 ∙ all)
]

-- edits of stores that come from others are among theirs
among_both : (s t a : EntryMap) (e : Edit) → IsFrom s t a → IsAmong e (edits_of a) → IsAmong e (edits_of s ++ edits_of t)
among_both s t a e from among =
    let held = get_from_edits_of e a among in
    elim (from e.place) [
      | inl h ↦ IsAmong-append_left e (edits_of s) (edits_of t) (edits_of-found s e.place _ (sym h ∙ held))
      | inr h ↦ IsAmong-append_right e (edits_of s) (edits_of t) (edits_of-found t e.place _ (sym h ∙ held))
    ]

pub apart_too : (s t a b : EntryMap) → IsFrom s t a → IsFrom s t b → AreToldApart (edits_of s ++ edits_of t) → AreToldApart (edits_of a ++ edits_of b)
apart_too s t a b from_a from_b apart e f among_e among_f = apart e f (of e among_e) (of f among_f)
  where
    of : (g : Edit) → IsAmong g (edits_of a ++ edits_of b) → IsAmong g (edits_of s ++ edits_of t)
    of g among = elim (IsAmong-append_cases g (edits_of a) (edits_of b) among) [ inl h ↦ among_both s t a g from_a h | inr h ↦ among_both s t b g from_b h ]

-- both are told everything
pub all_told : (s t a b a2 b2 : EntryMap) → IsFrom s t a → IsFrom s t b → IsStoreBelow s a → IsStoreBelow t b → AreToldApart (edits_of s ++ edits_of t)
    → (AreToldApart (edits_of b ++ edits_of a) → b2 ≡ join b a) → (AreToldApart (edits_of a ++ edits_of b2) → a2 ≡ join a b2) → (a2 ≡ join s t) × (b2 ≡ join s t)
all_told s t a b a2 b2 from_a from_b below_a below_b apart first second =
    let one : b2 ≡ join b a = first (apart_too s t b a from_b from_a apart) in
    let from_one : IsFrom s t b2 = subst (λ (x : EntryMap). IsFrom s t x) (sym one) (join_from a b a s t from_a from_b (λ p x h. h)) in
    let two : a2 ≡ join a b2 = second (apart_too s t a b2 from_a from_one apart) in
    let from_two : IsFrom s t a2 = subst (λ (x : EntryMap). IsFrom s t x) (sym two) (join_from b2 a b2 s t from_one from_a (λ p x h. h)) in
    let s_b2 : IsStoreBelow s b2 = store_below_trans s a b2 below_a (subst (λ (x : EntryMap). IsStoreBelow a x) (sym one) (join-right b a)) in
    let t_b2 : IsStoreBelow t b2 = store_below_trans t b b2 below_b (subst (λ (x : EntryMap). IsStoreBelow b x) (sym one) (join-left b a)) in
    let s_a2 : IsStoreBelow s a2 = store_below_trans s a a2 below_a (subst (λ (x : EntryMap). IsStoreBelow a x) (sym two) (join-left a b2)) in
    let t_a2 : IsStoreBelow t a2 = store_below_trans t b2 a2 t_b2 (subst (λ (x : EntryMap). IsStoreBelow b2 x) (sym two) (join-right a b2)) in
    (from_both s t a2 from_two s_a2 t_a2, from_both s t b2 from_one s_b2 t_b2)

-- the first message
pub began : (seed : ℕ) (a b : EntryMap) (message : Message) → message.prints.items ≡ own_print seed (versions_of a) everything ∷ [] → message.asks.items ≡ [] → message.pieces.items ≡ [] → Run seed a b a b (said_of message)
began seed a b message prints asks pieces =
    subst (λ (x : Said). Run seed a b a b x) (λ i. record { prints = sym prints i; asks = sym asks i; pieces = sym pieces i }) begun

-- two facts of what is returned
pub both_ok : {T E P Q S : Type 0} (r : Result T E) → OnOk r P → OnOk r Q → (P → Q → S) → OnOk r S
both_ok (Ok x) p q f = f p q
both_ok (Err e) p q f = tt
