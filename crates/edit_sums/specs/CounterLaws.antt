-- The greatest counter that a sum or a join holds.
use Rattle.std.proofs.Common.{◌++◌, ◌∷◌, ◌≡◌, ◌≤◌}
use Rattle.edit_sums.specs.Prelude.{[], ap, arith, Equal, false, Greater, inl, inr, is_gt, IsAmong, Less, List, map, max, nat_cmp, nat_tests, None, Option, Ordering, ordering_then, PlaceParts, refl, Some, subst, ℕ, ◌∙◌}
use Rattle.edit_sums.specs.{declared.entries.Edit.{Edit}, Entries.{Entry, IsBelow}, GreatestLaws.{get_from_edits_of}, SumLaws.{sum_of-edits_of, sum_of-IsSum}, Sums.{edit_of, edits_of, entry_of, EntryMap, greatest_counter, high_among, high_of, join, sum_of}}
use Rattle.std.specs.FinMap as finmap

high_among-append : (xs ys : List Edit) → high_among (xs ++ ys) ≡ max (high_among xs) (high_among ys)
high_among-append [] ys = omega arith
high_among-append (x ∷ xs) ys = omega (arith, high_among-append xs ys)

-- the greatest counter of a store is that of its entries as edits
pub high_among-edits_of : (s : EntryMap) → high_among (edits_of s) ≡ high_of s
high_among-edits_of s = by (finmap.entries s)
  where
    by : (ps : List (PlaceParts × Entry)) → high_among (map edit_of ps) ≡ greatest_counter ps
    by [] = refl
    by (p ∷ ps) = ap (max p.1.version.counter) (by ps)

-- no edit has a greater counter
pub counter_among : (e : Edit) (es : List Edit) → IsAmong e es → e.version.counter ≤ high_among es
counter_among e [] h = absurd h
counter_among e (f ∷ fs) (inl h) = let same : f.version.counter ≡ e.version.counter = ap (λ (g : Edit). g.version.counter) h in omega arith
counter_among e (f ∷ fs) (inr h) = let rest = counter_among e fs h in omega arith

-- it is the least such bound
pub high_among-least : (es : List Edit) (n : ℕ) → ((e : Edit) → IsAmong e es → e.version.counter ≤ n) → high_among es ≤ n
high_among-least [] n h = omega arith
high_among-least (e ∷ es) n h =
    let here = h e (inl refl) in
    let rest = high_among-least es n (λ f a. h f (inr a)) in
    omega arith

not_greater : (a b : ℕ) (r s : Ordering) → is_gt (ordering_then (ordering_then (nat_cmp a b) r) s) ≡ false → a ≤ b
not_greater a b r s h = by (nat_cmp a b) refl h
  where
    by : (o : Ordering) → nat_cmp a b ≡ o → is_gt (ordering_then (ordering_then o r) s) ≡ false → a ≤ b
    by Less e h = grind (arith, nat_tests)
    by Equal e h = grind (arith, nat_tests)
    by Greater e h = cc (h)

-- an entry that is at most another has at most its counter
pub counter_of_below : (x : Entry) (y : Entry) → IsBelow (Some x) (Some y) → x.version.counter ≤ y.version.counter
counter_of_below x y h = not_greater _ _ _ _ h

-- an entry that a store holds is one of its edits
pub edits_of-found : (s : EntryMap) (q : PlaceParts) (x : Entry) → finmap.get s q ≡ Some x → IsAmong (edit_of (q, x)) (edits_of s)
edits_of-found s q x h = (sum_of-IsSum (edits_of s)).found q x (ap (λ (t : EntryMap). finmap.get t q) (sum_of-edits_of s) ∙ h)

-- every entry that is held has at most the greatest counter
pub high_of-above : (s : EntryMap) (q : PlaceParts) (x : Entry) → finmap.get s q ≡ Some x → x.version.counter ≤ high_of s
high_of-above s q x h = subst (λ n. x.version.counter ≤ n) (high_among-edits_of s) (counter_among (edit_of (q, x)) (edits_of s) (edits_of-found s q x h))

pub high_of-sum_of : (es : List Edit) → high_of (sum_of es) ≡ high_among es
high_of-sum_of es =
    let down : high_of (sum_of es) ≤ high_among es = subst (λ n. n ≤ high_among es) (high_among-edits_of (sum_of es)) (high_among-least (edits_of (sum_of es)) (high_among es) (λ e a. counter_among e es ((sum_of-IsSum es).found e.place (entry_of e) (get_from_edits_of e (sum_of es) a)))) in
    let up : high_among es ≤ high_of (sum_of es) = high_among-least es (high_of (sum_of es)) (λ e a. held e (finmap.get (sum_of es) e.place) refl ((sum_of-IsSum es).above e a)) in
    omega arith
  where
    held : (e : Edit) (y : Option Entry) → finmap.get (sum_of es) e.place ≡ y → IsBelow (Some (entry_of e)) y
        → e.version.counter ≤ high_of (sum_of es)
    held e None g b = absurd b
    held e (Some y) g b =
        let low = counter_of_below (entry_of e) y b in
        let high = high_of-above (sum_of es) e.place y g in
        omega arith

pub high_of-join : (s t : EntryMap) → high_of (join s t) ≡ max (high_of s) (high_of t)
high_of-join s t = high_of-sum_of (edits_of s ++ edits_of t) ∙ high_among-append (edits_of s) (edits_of t) ∙ λ i. max (high_among-edits_of s i) (high_among-edits_of t i)
