-- Of peers in order the last of each node.
use Rattle.std.proofs.Common.{◌≡◌, ◌≤◌, ◌<◌, ◌+◌, ◌∷◌, [], ap, arith, Bool, cond, false, Err, get_or, IfOk, inl, inr, List, None, Ok, Option, refl, Result, Some, subst, subst₂, suc, sym, true, ℕ, ◌∙◌}
use Rattle.std.proofs.lemmas.Cmp.{alike_right, ranked, tied_itself}
use Rattle.std.proofs.lemmas.List.Sorted.{Contains-permutation, IsPermutation-sym}
use Rattle.std.specs.Prelude.{IsPermutation, IsSorted, slice_get}
use Rattle.std.specs.Cmp.{IsTotalOrder, nat_cmp_total, on_total, then_total}
use Rattle.std.specs.Cmp.Lexicographic.{nat_list_cmp_total, slice_cmp}
use Rattle.std.specs.FinMap.{nat_cmp-IsAntisymmetric, slice_cmp-IsAntisymmetric}
use Rattle.std.specs.List.{AllByRecursion}
use Rattle.std.specs.List.Sorted.{IsStrictlySortedBy}
use Rattle.std.specs.Ordering.{is_eq, is_lt, MatchOrdering, nat_cmp, ordering_reverse, ordering_then}
use Rattle.std.specs.declared.cmp.Ordering.{Ordering}
use Rattle.std.specs.declared.cmp.Ordering.TheVariants.{Equal, Greater, Less}
use Rattle.join_law.specs.VersionOrderLaws.{tied_parts}
use Rattle.list_laws.specs.Members.{among_from_contains, contains_from_among, IsAmong}
use Rattle.list_laws.specs.Orderings.{is_equal}
use Rattle.edit_log.specs.declared.logs.LogPeer.{LogPeer}
use Rattle.durable_node.specs.Peers.{AreLatest, is_followed, last_of_each, node_cmp}

-- by mark, then by number, then by time
abbrev pub peer_cmp : LogPeer → LogPeer → Ordering
peer_cmp p q = ordering_then (slice_cmp nat_cmp p.mark q.mark) (ordering_then (nat_cmp p.writer q.writer) (nat_cmp p.seen q.seen))

node_cmp_total : IsTotalOrder node_cmp
node_cmp_total = then_total (on_total (λ p. p.mark) nat_list_cmp_total) (on_total (λ p. p.writer) nat_cmp_total)

record IsSame (p q : LogPeer) : Type 0 where
  mark : q.mark ≡ p.mark
  writer : q.writer ≡ p.writer

same_node : (p q : LogPeer) → is_eq (node_cmp p q) ≡ true → IsSame p q
same_node p q e =
    let h = tied_parts _ _ (is_equal (node_cmp p q) e) in record {
      mark = sym (slice_cmp-IsAntisymmetric nat_cmp-IsAntisymmetric p.mark q.mark h.0);
      writer = sym (nat_cmp-IsAntisymmetric p.writer q.writer h.1);
    }

not_below : (a b : ℕ) → is_lt (nat_cmp a b) ≡ false → b ≤ a
not_below a b h = by (nat_cmp a b) h (ranked a b (nat_cmp a b) refl)
  where
    by : (r : Ordering) → is_lt r ≡ false → MatchOrdering r (a < b) (a ≡ b) (b < a) → b ≤ a
    by Less h m = absurd cc
    by Equal h m = omega (arith, m)
    by Greater h m = omega (arith, m)

-- of two peers in order that are one node the later one was seen no earlier
same_seen : (p q : LogPeer) → is_lt (peer_cmp q p) ≡ false → IsSame p q → p.seen ≤ q.seen
same_seen p q up same =
    let mark : slice_cmp nat_cmp q.mark p.mark ≡ Equal = ap (λ x. slice_cmp nat_cmp x p.mark) same.mark ∙ tied_itself nat_list_cmp_total p.mark in
    let writer : nat_cmp q.writer p.writer ≡ Equal = ap (λ x. nat_cmp x p.writer) same.writer ∙ tied_itself nat_cmp_total p.writer in
    not_below q.seen p.seen (subst₂ (λ a b. is_lt (ordering_then a (ordering_then b (nat_cmp q.seen p.seen))) ≡ false) mark writer up)

less_first : (a b c : Ordering) → ordering_then a b ≡ Less → ordering_then a (ordering_then b c) ≡ Less
less_first Less b c h = refl
less_first Equal Less c h = refl
less_first Equal Equal c h = cc (h)
less_first Equal Greater c h = cc (h)
less_first Greater b c h = cc (h)

-- two peers in order that are two nodes ascend
apart_above : (p q : LogPeer) → is_lt (peer_cmp q p) ≡ false → is_eq (node_cmp p q) ≡ false → node_cmp p q ≡ Less
apart_above p q up other = by (node_cmp q p) refl (node_cmp_total.antisymm p q)
  where
    by : (r : Ordering) → node_cmp q p ≡ r → node_cmp p q ≡ ordering_reverse r → node_cmp p q ≡ Less
    by Less e back =
        let less : peer_cmp q p ≡ Less = less_first (slice_cmp nat_cmp q.mark p.mark) (nat_cmp q.writer p.writer) (nat_cmp q.seen p.seen) e in
        absurd (let no : is_lt Less ≡ false = ap is_lt (sym less) ∙ up in cc)
    by Equal e back = absurd (let no : is_eq Equal ≡ false = ap is_eq (sym back) ∙ other in cc)
    by Greater e back = back

-- ---- lists in order

IsUnder : LogPeer → Option LogPeer → Type 0
IsUnder p None = Unit {0}
IsUnder p (Some q) = is_lt (peer_cmp q p) ≡ false

AreOrdered : List LogPeer → Type 0
AreOrdered [] = Unit {0}
AreOrdered (p ∷ ps) = IsUnder p (slice_get ps 0) × AreOrdered ps

ordered : (ps : List LogPeer) → IsSorted peer_cmp ps → AreOrdered ps
unfolding AreOrdered IsUnder
ordered [] up = tt
ordered (p ∷ []) up = (tt, tt)
ordered (p ∷ q ∷ qs) up = (
  up 0 p (omega arith) (omega arith),
  ordered (q ∷ qs) (λ k d low high.
      let one : suc k + 1 ≡ suc (k + 1) = omega arith in
      subst (λ n. is_lt (peer_cmp (get_or (p ∷ q ∷ qs) n d) (get_or (q ∷ qs) k d)) ≡ false) one (up (suc k) d (omega arith) (omega (arith, high)))),
)

-- ---- what is among them

among : (ps : List LogPeer) (p : LogPeer) → IsAmong p (last_of_each ps) → IsAmong p ps
among [] p h = h
among (x ∷ xs) p h = by (is_followed x (slice_get xs 0)) h (among xs p)
  where
    by : (b : Bool) → IsAmong p (cond b (last_of_each xs) (x ∷ last_of_each xs)) → (IsAmong p (last_of_each xs) → IsAmong p xs) → IsAmong p (x ∷ xs)
    by true here rest = inr (rest here)
    by false (inl e) rest = inl e
    by false (inr here) rest = inr (rest here)

-- one of the list is the same node, and was seen no earlier
abbrev IsSeen : LogPeer → List LogPeer → Type 0
IsSeen p latest = (q : LogPeer) × IsAmong q latest × (q.mark ≡ p.mark) × (q.writer ≡ p.writer) × (p.seen ≤ q.seen)

first_seen : (x : LogPeer) (xs : List LogPeer) → AreOrdered (x ∷ xs) → ((y : LogPeer) → IsAmong y xs → IsSeen y (last_of_each xs)) → IsSeen x (last_of_each (x ∷ xs))
unfolding AreOrdered IsUnder
first_seen x [] up rest = (x, inl refl, refl, refl, omega arith)
first_seen x (y ∷ ys) up rest = by (is_eq (node_cmp x y)) refl
  where
    by : (b : Bool) → is_eq (node_cmp x y) ≡ b → IsSeen x (cond b (last_of_each (y ∷ ys)) (x ∷ last_of_each (y ∷ ys)))
    by true e =
        let same = same_node x y e in
        let q = rest y (inl refl) in
        (q.0, q.1, q.2 ∙ same.mark, q.3 ∙ same.writer, omega (arith, q.4, same_seen x y up.0 same))
    by false e = (x, inl refl, refl, refl, omega arith)

all_seen : (ps : List LogPeer) → AreOrdered ps → (p : LogPeer) → IsAmong p ps → IsSeen p (last_of_each ps)
unfolding AreOrdered
all_seen [] up p h = absurd h
all_seen (x ∷ xs) up p (inl e) = subst (λ y. IsSeen y (last_of_each (x ∷ xs))) e (first_seen x xs up (all_seen xs up.1))
all_seen (x ∷ xs) up p (inr h) = by (is_followed x (slice_get xs 0)) (all_seen xs up.1 p h)
  where
    by : (b : Bool) → IsSeen p (last_of_each xs) → IsSeen p (cond b (last_of_each xs) (x ∷ last_of_each xs))
    by true s = s
    by false s = (s.0, inr s.1, s.2, s.3, s.4)

-- ---- each node stands once

IsBelow : LogPeer → Option LogPeer → Type 0
IsBelow x None = Unit {0}
IsBelow x (Some y) = node_cmp x y ≡ Less

below_all : (x : LogPeer) (ys : List LogPeer) → AreOrdered ys → IsBelow x (slice_get ys 0) → AllByRecursion (λ q. node_cmp x q ≡ Less) ys
unfolding AreOrdered IsUnder IsBelow
below_all x [] up b = tt
below_all x (y ∷ ys) up b = (b, below_all x ys up.1 (next ys up.0))
  where
    next : (zs : List LogPeer) → IsUnder y (slice_get zs 0) → IsBelow x (slice_get zs 0)
    next [] under = tt
    next (z ∷ zs) under = by (is_eq (node_cmp y z)) refl
      where
        by : (c : Bool) → is_eq (node_cmp y z) ≡ c → node_cmp x z ≡ Less
        by true e = sym (alike_right node_cmp_total y z x (is_equal (node_cmp y z) e)) ∙ b
        by false e = node_cmp_total.trans x y z b (apart_above y z under e)

all_kept : (P : LogPeer → Type 0) (ps : List LogPeer) → AllByRecursion P ps → AllByRecursion P (last_of_each ps)
all_kept P [] h = h
all_kept P (x ∷ xs) h = by (is_followed x (slice_get xs 0)) (all_kept P xs h.1)
  where
    by : (b : Bool) → AllByRecursion P (last_of_each xs) → AllByRecursion P (cond b (last_of_each xs) (x ∷ last_of_each xs))
    by true rest = rest
    by false rest = (h.0, rest)

once : (ps : List LogPeer) → AreOrdered ps → IsStrictlySortedBy node_cmp (last_of_each ps)
unfolding AreOrdered IsUnder IsBelow IsStrictlySortedBy
once [] up = tt
once (x ∷ xs) up = by (is_followed x (slice_get xs 0)) refl (once xs up.1)
  where
    apart : (ys : List LogPeer) → IsUnder x (slice_get ys 0) → is_followed x (slice_get ys 0) ≡ false → IsBelow x (slice_get ys 0)
    apart [] under e = tt
    apart (y ∷ ys) under e = apart_above x y under e

    by : (b : Bool) → is_followed x (slice_get xs 0) ≡ b → IsStrictlySortedBy node_cmp (last_of_each xs) → IsStrictlySortedBy node_cmp (cond b (last_of_each xs) (x ∷ last_of_each xs))
    by true e rest = rest
    by false e rest = (all_kept (λ q. node_cmp x q ≡ Less) xs (below_all x xs up.1 (apart xs up.0 e)), rest)

-- ---- the order of the notes doesn't matter

moved_among : (xs ys : List LogPeer) → IsPermutation xs ys → (p : LogPeer) → IsAmong p xs → IsAmong p ys
moved_among xs ys moved p h = among_from_contains p ys (Contains-permutation xs ys p moved (contains_from_among p xs h))

pub latest_moved : (xs ys latest : List LogPeer) → IsPermutation xs ys → AreLatest ys latest → AreLatest xs latest
latest_moved xs ys latest moved is = record {
  among = λ p h. moved_among ys xs (IsPermutation-sym xs ys moved) p (is.among p h);
  seen = λ p h. is.seen p (moved_among xs ys moved p h);
  once = is.once;
}

of_ordered : (ps : List LogPeer) → AreOrdered ps → AreLatest ps (last_of_each ps)
of_ordered ps up = record { among = among ps; seen = all_seen ps up; once = once ps up }

-- the last of each of peers that were sorted
pub latest_sorted : {V E : Type 0} (items : V → List LogPeer) (r : Result V E) (peers sorted now : List LogPeer) → IsPermutation peers sorted → IsSorted peer_cmp sorted → now ≡ sorted
    → IfOk r (λ v. items v ≡ last_of_each now) → IfOk r (λ v. AreLatest peers (items v))
latest_sorted items (Ok v) peers sorted now moved up same last =
    subst (AreLatest peers) (sym (last ∙ ap last_of_each same)) (latest_moved peers sorted (last_of_each sorted) moved (of_ordered sorted (ordered sorted up)))
latest_sorted items (Err e) peers sorted now moved up same last = tt
