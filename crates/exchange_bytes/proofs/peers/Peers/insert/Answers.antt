use Rattle.std.proofs.Common.{◌≡◌, ◌<◌, ◌≤◌, ◌⊎◌, length, List, inl, inr, sym, ap, subst, ◌∙◌, arith}
use Rattle.list_laws.specs.Members.{IsAmong}
use Rattle.exchange_bytes.specs.Peers.{AreAscending, leading}
use Rattle.exchange_bytes.specs.declared.peers.Peer.{Peer}
use Rattle.exchange_bytes.proofs.Inserting.{inserted_ascends, inserted_members, IsElsewhere, there_members}
use Rattle.exchange_bytes.proofs.peers.Peers.insert.Goals.{else-at-len-via-then-at-len+else-is_same, else-at-len-via-else-at-len}
use Rattle.exchange_bytes.proofs.peers.Peers.insert.Goals as goal

pub returns-then-is_same-clause-inserted : goal.returns-then-is_same-clause-inserted
returns-then-is_same-clause-inserted c other =
    let ps = c.self.inside.list.items in
    let len : length ps ≡ c.len.result = ap length (sym c.deref.ensures.value) ∙ c.deref.ensures.len ∙ sym c.len.ensures in
    let test = c.if-at-len.true in
    let lt : c.leading_of-at.result < length ps = omega (arith, len, test) in
    subst (λ (l : List Peer). (IsAmong other l → (other ≡ c.args.peer) ⊎ IsAmong other l) × ((other ≡ c.args.peer) ⊎ IsAmong other l → IsAmong other l)) c.self.view_is
    (there_members c.args.peer ps c.leading_of-at.result c.index.result.now lt c.index.ensures (sym c.is_same.ensures.same ∙ c.if-is_same.true) other)

pub invariant_of-self-2 : goal.invariant_of-self-2
invariant_of-self-2 c =
    let ps = c.self.inside.list.items in
    let at = c.leading_of-at.result in
    let len : length ps ≡ c.len.result = ap length (sym c.deref.ensures.value) ∙ c.deref.ensures.len ∙ sym c.len.ensures in
    let count : at ≡ leading c.args.peer ps = c.leading_of-at.ensures.count ∙ ap (leading c.args.peer) c.deref.ensures.value in
    let free : IsElsewhere c.args.peer ps at = elim c.else-at-len.branch as (λ _. IsElsewhere c.args.peer ps at) [
      | else-at-len-via-then-at-len+else-is_same w ↦
          let test = w.if-at-len.true in
          let lt : at < length ps = omega (arith, len, test) in
          inr (w.index.result.now, (lt, w.index.ensures, sym w.is_same.ensures.same ∙ w.if-is_same.false))
      | else-at-len-via-else-at-len w ↦
          let test = w.if-at-len.false in
          let le : length ps ≤ at = omega (arith, len, test) in
          inl le
    ] in
    subst (AreAscending _) (sym c.in_ok-insert.ensures.items) (inserted_ascends c.args.peer ps at count c.self.invariant free)

pub returns-clause-inserted : goal.returns-clause-inserted
returns-clause-inserted c other =
    let ps = c.self.inside.list.items in
    let members = inserted_members c.args.peer ps c.leading_of-at.result other in
    rw (c.in_ok-insert.ensures.items, sym c.self.view_is) members
