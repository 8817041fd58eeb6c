-- A peer that is inserted in order.
use Rattle.std.proofs.Common.{◌≡◌, ◌⊎◌, ◌↔◌, ◌++◌, ◌∷◌, ◌<◌, ◌≤◌, ◌+◌, ℕ, suc, Bool, true, false, cond, List, [], length, take, drop, get_or, Option, None, Some, IsTrue, inl, inr, refl, sym, ap, subst, ◌∙◌, ⊎_elim, take-append-drop}
use Rattle.std.proofs.lemmas.List.{drop_all}
use Rattle.std.specs.Cmp.{IsTotalOrder, nat_cmp_total, on_total, then_total}
use Rattle.std.specs.Cmp.Lexicographic.{nat_list_cmp_total}
use Rattle.std.specs.FinMap.{nat_cmp-IsAntisymmetric, slice_cmp-IsAntisymmetric}
use Rattle.std.specs.List.{AllByRecursion, insert}
use Rattle.std.specs.Ordering.{is_eq, is_lt, ordering_reverse}
use Rattle.std.specs.declared.cmp.Ordering.{Ordering}
use Rattle.std.specs.declared.cmp.Ordering.TheVariants.{Equal, Greater, Less}
use Rattle.list_laws.specs.Members.{IsAmong, IsAmong-append_cases, IsAmong-append_left, IsAmong-append_right}
use Rattle.list_laws.specs.Orderings.{is_equal}
use Rattle.join_law.specs.VersionOrderLaws.{tied_parts}
use Rattle.exchange_bytes.specs.Peers.{AreAscending, is_next, leading, peer_cmp}
use Rattle.exchange_bytes.specs.declared.peers.Peer.{Peer}
use Rattle.exchange_bytes.proofs.Loops.{item_at}

peer_cmp_total : IsTotalOrder peer_cmp
peer_cmp_total = then_total (on_total (λ p. p.mark) nat_list_cmp_total) (on_total (λ p. p.writer) nat_cmp_total)

peer_cmp-IsAntisymmetric : (x y : Peer) → peer_cmp x y ≡ Equal → x ≡ y
peer_cmp-IsAntisymmetric x y e =
    let h = tied_parts _ _ e in
    let mark : x.mark ≡ y.mark = slice_cmp-IsAntisymmetric nat_cmp-IsAntisymmetric _ _ h.0 in
    let writer : x.writer ≡ y.writer = nat_cmp-IsAntisymmetric _ _ h.1 in
    (λ i. record { mark = mark i; writer = writer i })

above : (p q : Peer) → is_lt (peer_cmp q p) ≡ false → is_eq (peer_cmp q p) ≡ false → is_lt (peer_cmp p q) ≡ true
above p q not_less not_same = by (peer_cmp q p) not_less not_same (peer_cmp_total.antisymm p q)
  where
    by : (r : Ordering) → is_lt r ≡ false → is_eq r ≡ false → peer_cmp p q ≡ ordering_reverse r → is_lt (peer_cmp p q) ≡ true
    by Less a b e = absurd cc
    by Equal a b e = absurd cc
    by Greater a b e = ap is_lt e

-- ---- what is before it and what is behind

below_leading : (p : Peer) (ps : List Peer) → AllByRecursion (λ q. IsTrue (is_next (Some q) p)) (take (leading p ps) ps)
below_leading p [] = tt
below_leading p (q ∷ qs) = by (is_lt (peer_cmp q p)) refl (below_leading p qs)
  where
    by : (b : Bool) → is_lt (peer_cmp q p) ≡ b → AllByRecursion (λ r. IsTrue (is_next (Some r) p)) (take (leading p qs) qs) → AllByRecursion (λ r. IsTrue (is_next (Some r) p)) (take (cond b (suc (leading p qs)) 0) (q ∷ qs))
    by true t rest = (t, rest)
    by false t rest = tt

-- the first is not below the peer
IsFrom : Peer → List Peer → Type 0
IsFrom p [] = Unit {0}
IsFrom p (q ∷ qs) = is_lt (peer_cmp q p) ≡ false

from_leading : (p : Peer) (ps : List Peer) → IsFrom p (drop (leading p ps) ps)
unfolding IsFrom
from_leading p [] = tt
from_leading p (q ∷ qs) = by (is_lt (peer_cmp q p)) refl (from_leading p qs)
  where
    by : (b : Bool) → is_lt (peer_cmp q p) ≡ b → IsFrom p (drop (leading p qs) qs) → IsFrom p (drop (cond b (suc (leading p qs)) 0) (q ∷ qs))
    by true t rest = rest
    by false t rest = t

-- the first is above the peer
abbrev IsBefore : Peer → List Peer → Type 0
IsBefore p [] = Unit {0}
IsBefore p (q ∷ qs) = IsTrue (is_next (Some p) q)

put_between : (last : Option Peer) (front back : List Peer) (p : Peer) → AreAscending last (front ++ back) → AllByRecursion (λ q. IsTrue (is_next (Some q) p)) front → IsTrue (is_next last p) → IsBefore p back
    → AreAscending last (front ++ p ∷ back)
put_between last [] [] p up below next before = (next, tt)
put_between last [] (q ∷ qs) p up below next before = (next, (before, up.1))
put_between last (x ∷ front) back p up below next before = (up.0, put_between (Some x) front back p up.1 below.1 below.0 before)

-- ---- the peer isn't there

-- no peer is at the index, or another one
abbrev pub IsElsewhere : Peer → List Peer → ℕ → Type 0
IsElsewhere p ps i = (length ps ≤ i) ⊎ ((x : Peer) × ((i < length ps) × (x ≡ get_or ps i x) × (is_eq (peer_cmp x p) ≡ false)))

before_rest : (p : Peer) (ps : List Peer) (i : ℕ) → IsFrom p (drop i ps) → IsElsewhere p ps i → IsBefore p (drop i ps)
unfolding IsFrom
before_rest p ps i from (inl end) = subst (IsBefore p) (sym (drop_all i ps end)) tt
before_rest p ps i from (inr h) =
    let at = item_at ps i h.0 h.1.0 h.1.1 in
    subst (IsBefore p) (sym at) (above p h.0 (subst (IsFrom p) at from) h.1.2)

pub inserted_ascends : (p : Peer) (ps : List Peer) (i : ℕ) → i ≡ leading p ps → AreAscending None ps → IsElsewhere p ps i → AreAscending None (insert ps i p)
inserted_ascends p ps i is up free =
    put_between None (take i ps) (drop i ps) p (subst (AreAscending None) (sym (take-append-drop i ps)) up)
    (subst (λ k. AllByRecursion (λ q. IsTrue (is_next (Some q) p)) (take k ps)) (sym is) (below_leading p ps)) refl
    (before_rest p ps i (subst (λ k. IsFrom p (drop k ps)) (sym is) (from_leading p ps)) free)

-- ---- members

pub inserted_members : (p : Peer) (ps : List Peer) (i : ℕ) (other : Peer) → IsAmong other (insert ps i p) ↔ ((other ≡ p) ⊎ IsAmong other ps)
inserted_members p ps i other = (λ h. ⊎_elim (λ a. inr (in_front a)) (λ b. in_back b) (IsAmong-append_cases other (take i ps) (p ∷ drop i ps) h), λ h. back h)
  where
    whole : take i ps ++ drop i ps ≡ ps
    whole = take-append-drop i ps

    in_front : IsAmong other (take i ps) → IsAmong other ps
    in_front a = subst (IsAmong other) whole (IsAmong-append_left other (take i ps) (drop i ps) a)

    in_back : IsAmong other (p ∷ drop i ps) → (other ≡ p) ⊎ IsAmong other ps
    in_back (inl e) = inl (sym e)
    in_back (inr b) = inr (subst (IsAmong other) whole (IsAmong-append_right other (take i ps) (drop i ps) b))

    old : IsAmong other (take i ps) ⊎ IsAmong other (drop i ps) → IsAmong other (take i ps ++ p ∷ drop i ps)
    old (inl a) = IsAmong-append_left other (take i ps) (p ∷ drop i ps) a
    old (inr b) = IsAmong-append_right other (take i ps) (p ∷ drop i ps) (inr b)

    back : (other ≡ p) ⊎ IsAmong other ps → IsAmong other (take i ps ++ p ∷ drop i ps)
    back (inl e) = IsAmong-append_right other (take i ps) (p ∷ drop i ps) (inl (sym e))
    back (inr a) = old (IsAmong-append_cases other (take i ps) (drop i ps) (subst (IsAmong other) (sym whole) a))

pub there_members : (p : Peer) (ps : List Peer) (i : ℕ) (x : Peer) → i < length ps → x ≡ get_or ps i x → is_eq (peer_cmp x p) ≡ true → (other : Peer) → IsAmong other ps ↔ ((other ≡ p) ⊎ IsAmong other ps)
there_members p ps i x lt e same other = (λ h. inr h, λ h. back h)
  where
    there : IsAmong p ps
    there =
        subst (IsAmong p) (ap (λ (l : List Peer). take i ps ++ l) (sym (item_at ps i x lt e)) ∙ take-append-drop i ps)
        (IsAmong-append_right p (take i ps) (x ∷ drop (i + 1) ps) (inl (peer_cmp-IsAntisymmetric x p (is_equal _ same))))

    back : (other ≡ p) ⊎ IsAmong other ps → IsAmong other ps
    back (inl o) = subst (λ (z : Peer). IsAmong z ps) (sym o) there
    back (inr a) = a
