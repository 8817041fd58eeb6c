-- The parts of bytes before and after the first or last byte that passes a test.
use Rattle.std.proofs.Common.{◌&&◌, ◌++◌, ◌+◌, ◌-◌, ◌<◌, ◌||◌, ◌∷◌, ◌≡◌}
use Rattle.unit_name.specs.Prelude.{[], after_first, after_last, and_from, and_parts, ap, append_assoc, arith, before_first, before_last, Bool, cond, cond-true, drop, drop_all, drop_more, false, find, get_or, get_or-reverse, length, length-append, length-reverse, List, list_all, list_any, lt-ltb, ltb, ltb-true, None, none-some, not, or_parts, position, position_or_len, prefix_len, prefix_len_stops, refl, reverse, reverse-append, same_Some, Some, suc, suffix_len, sym, take, take-append-drop, take_all, take_while-cons, true, zero, ℕ, ◌∙◌}

-- the first byte that fails ends the passing prefix
stops : (q : ℕ → Bool) (u : List ℕ) (d : ℕ) (w : List ℕ) → list_all q u ≡ true → q d ≡ false → prefix_len q (u ++ d ∷ w) ≡ length u
stops q [] d w h f = ap (λ b. cond b (1 + prefix_len q w) 0) f
stops q (x ∷ u) d w h f =
    let t = and_parts (q x) (list_all q u) h in
    let r : prefix_len q (u ++ d ∷ w) ≡ length u = stops q u d w t.1 f in
    ap (λ b. cond b (1 + prefix_len q (u ++ d ∷ w)) 0) t.0 ∙ omega arith

take_start : (u w : List ℕ) → take (length u) (u ++ w) ≡ u
take_start [] w = refl
take_start (x ∷ u) w = ap (λ y. x ∷ y) (take_start u w)

drop_start : (u : List ℕ) (d : ℕ) (w : List ℕ) → drop (suc (length u)) (u ++ d ∷ w) ≡ w
drop_start [] d w = refl
drop_start (x ∷ u) d w = drop_start u d w

-- the parts of bytes that are put together around the first byte that passes
pub before_first_put : (p : ℕ → Bool) (u : List ℕ) (d : ℕ) (w : List ℕ) → list_all (λ b. not (p b)) u ≡ true
    → p d ≡ true → before_first p (u ++ d ∷ w) ≡ u
before_first_put p u d w h t = ap (λ n. take n (u ++ d ∷ w)) (stops (λ b. not (p b)) u d w h (ap not t)) ∙ take_start u (d ∷ w)

pub after_first_put : (p : ℕ → Bool) (u : List ℕ) (d : ℕ) (w : List ℕ) → list_all (λ b. not (p b)) u ≡ true → p d ≡ true
    → after_first p (u ++ d ∷ w) ≡ w
after_first_put p u d w h t =
    let e : length u + 1 ≡ suc (length u) = omega arith in
    ap (λ n. drop (n + 1) (u ++ d ∷ w)) (stops (λ b. not (p b)) u d w h (ap not t)) ∙ ap (λ n. drop n (u ++ d ∷ w)) e ∙ drop_start u d w

reverse_cons : (x : ℕ) (k : List ℕ) → reverse (x ∷ k) ≡ reverse k ++ x ∷ []
reverse_cons x k = reverse-append (x ∷ []) k

all_push : (q : ℕ → Bool) (u : List ℕ) (x : ℕ) → list_all q u ≡ true → q x ≡ true → list_all q (u ++ x ∷ []) ≡ true
all_push q [] x h t = ap (λ b. b && true) t
all_push q (y ∷ u) x h t = let s = and_parts (q y) (list_all q u) h in and_from _ _ s.0 (all_push q u x s.1 t)

all_reverse : (q : ℕ → Bool) (u : List ℕ) → list_all q u ≡ true → list_all q (reverse u) ≡ true
all_reverse q [] h = refl
all_reverse q (x ∷ u) h = let s = and_parts (q x) (list_all q u) h in ap (list_all q) (reverse_cons x u) ∙ all_push q (reverse u) x (all_reverse q u s.1) s.0

after : (p : ℕ → Bool) (a : List ℕ) (d : ℕ) (k : List ℕ) → list_all (λ b. not (p b)) k ≡ true → p d ≡ true
    → suffix_len (λ b. not (p b)) (a ++ d ∷ k) ≡ length k
after p a d k h t =
    let r : reverse (a ++ d ∷ k) ≡ reverse k ++ d ∷ reverse a = reverse-append a (d ∷ k) ∙ ap (λ l. l ++ reverse a) (reverse_cons d k) ∙ append_assoc (reverse k) (d ∷ []) (reverse a) in
    ap (prefix_len (λ b. not (p b))) r ∙ stops (λ b. not (p b)) (reverse k) d (reverse a) (all_reverse (λ b. not (p b)) k h) (ap not t) ∙ length-reverse k

-- the parts of bytes that are put together around the last byte that passes
pub after_last_put : (p : ℕ → Bool) (a : List ℕ) (d : ℕ) (k : List ℕ) → list_all (λ b. not (p b)) k ≡ true → p d ≡ true
    → after_last p (a ++ d ∷ k) ≡ k
after_last_put p a d k h t =
    let s = after p a d k h t in
    let l : length (a ++ d ∷ k) ≡ length a + length (d ∷ k) = length-append a (d ∷ k) in
    let n : length (a ++ d ∷ k) - suffix_len (λ b. not (p b)) (a ++ d ∷ k) ≡ suc (length a) = ap (λ m. length (a ++ d ∷ k) - m) s ∙ omega arith in
    ap (λ m. drop m (a ++ d ∷ k)) n ∙ drop_start a d k

pub before_last_put : (p : ℕ → Bool) (a : List ℕ) (d : ℕ) (k : List ℕ) → list_all (λ b. not (p b)) k ≡ true → p d ≡ true
    → before_last p (a ++ d ∷ k) ≡ a
before_last_put p a d k h t =
    let s = after p a d k h t in
    let l : length (a ++ d ∷ k) ≡ length a + length (d ∷ k) = length-append a (d ∷ k) in
    let n : length (a ++ d ∷ k) - suffix_len (λ b. not (p b)) (a ++ d ∷ k) - 1 ≡ length a = ap (λ m. length (a ++ d ∷ k) - m - 1) s ∙ omega arith in
    ap (λ m. take m (a ++ d ∷ k)) n ∙ take_start a (d ∷ k)

-- some byte passes exactly if the first index is less than the length
pub place_within : (p : ℕ → Bool) (xs : List ℕ) → list_any p xs ≡ true → position_or_len p xs < length xs
place_within p [] h = cc
place_within p (x ∷ xs) h = step (p x) refl (place_within p xs)
  where
    step : (t : Bool) → p x ≡ t → (list_any p xs ≡ true → position_or_len p xs < length xs)
        → cond (not (p x)) (1 + position_or_len p xs) 0 < length (x ∷ xs)
    step true e more = let z : cond (not (p x)) (1 + position_or_len p xs) 0 ≡ 0 = ap (λ b. cond (not b) (1 + position_or_len p xs) 0) e in omega arith
    step false e more =
        let z : cond (not (p x)) (1 + position_or_len p xs) 0 ≡ 1 + position_or_len p xs = ap (λ b. cond (not b) (1 + position_or_len p xs) 0) e in
        let s = more (sym (ap (λ b. b || list_any p xs) e) ∙ h) in omega arith

pub place_past : (p : ℕ → Bool) (xs : List ℕ) → list_any p xs ≡ false → position_or_len p xs ≡ length xs
place_past p [] h = refl
place_past p (x ∷ xs) h =
    let e = or_parts (p x) (list_any p xs) h in
    let z : cond (not (p x)) (1 + position_or_len p xs) 0 ≡ 1 + position_or_len p xs = ap (λ b. cond (not b) (1 + position_or_len p xs) 0) e.0 in
    let s : position_or_len p xs ≡ length xs = place_past p xs e.1 in
    omega arith

-- if no byte passes, all bytes are before it and none after it
pub before_first_all : (p : ℕ → Bool) (xs : List ℕ) → list_any p xs ≡ false → before_first p xs ≡ xs
before_first_all p xs h = let e = place_past p xs h in take_all (position_or_len p xs) xs (omega arith)

pub after_first_none : (p : ℕ → Bool) (xs : List ℕ) → list_any p xs ≡ false → after_first p xs ≡ []
after_first_none p xs h = let e = place_past p xs h in drop_all (position_or_len p xs + 1) xs (omega arith)

-- no byte before the first that passes does
pub before_first_fails : (p : ℕ → Bool) (xs : List ℕ) → list_all (λ b. not (p b)) (before_first p xs) ≡ true
before_first_fails p [] = refl
before_first_fails p (x ∷ xs) = ap (list_all (λ b. not (p b))) (take_while-cons (λ b. not (p b)) x xs) ∙ step (not (p x)) refl (before_first_fails p xs)
  where
    step : (t : Bool) → not (p x) ≡ t → list_all (λ b. not (p b)) (before_first p xs) ≡ true
        → list_all (λ b. not (p b)) (cond t (x ∷ before_first p xs) []) ≡ true
    step true e more = and_from _ _ e more
    step false e more = refl

-- if a whole list passes, so does a part of it
pub all_take : (p : ℕ → Bool) (n : ℕ) (xs : List ℕ) → list_all p xs ≡ true → list_all p (take n xs) ≡ true
all_take p zero xs h = refl
all_take p (suc n) [] h = refl
all_take p (suc n) (x ∷ xs) h = let s = and_parts (p x) (list_all p xs) h in and_from _ _ s.0 (all_take p n xs s.1)

pub all_drop : (p : ℕ → Bool) (n : ℕ) (xs : List ℕ) → list_all p xs ≡ true → list_all p (drop n xs) ≡ true
all_drop p zero xs h = h
all_drop p (suc n) [] h = refl
all_drop p (suc n) (x ∷ xs) h = let s = and_parts (p x) (list_all p xs) h in all_drop p n xs s.1

pub all_append : (p : ℕ → Bool) (xs ys : List ℕ) → list_all p xs ≡ true → list_all p ys ≡ true → list_all p (xs ++ ys) ≡ true
all_append p [] ys h k = k
all_append p (x ∷ xs) ys h k = let s = and_parts (p x) (list_all p xs) h in and_from _ _ s.0 (all_append p xs ys s.1 k)

-- all pass exactly if none fails
pub any_fails : (p : ℕ → Bool) (xs : List ℕ) → list_any (λ b. not (p b)) xs ≡ not (list_all p xs)
any_fails p [] = refl
any_fails p (x ∷ xs) = step (p x) (any_fails p xs)
  where
    step : (t : Bool) → list_any (λ b. not (p b)) xs ≡ not (list_all p xs)
        → (not t || list_any (λ b. not (p b)) xs) ≡ not (t && list_all p xs)
    step true more = more
    step false more = refl

-- there is a first index exactly if some byte passes
pub position_none : (p : ℕ → Bool) (xs : List ℕ) → list_any p xs ≡ false → position p xs ≡ None
position_none p xs h = let e = place_past p xs h in step (ltb (position_or_len p xs) (length xs)) refl e
  where
    step : (t : Bool) → ltb (position_or_len p xs) (length xs) ≡ t → position_or_len p xs ≡ length xs
        → cond t (Some (position_or_len p xs)) None ≡ None
    step true l e = let s = ltb-true _ _ l in absurd (omega arith)
    step false l e = refl

pub none_passes : (p : ℕ → Bool) (xs : List ℕ) → position p xs ≡ None → list_any p xs ≡ false
none_passes p xs h = step (list_any p xs) refl
  where
    step : (t : Bool) → list_any p xs ≡ t → t ≡ false
    step true e = absurd (none-some _ (sym h ∙ cond-true _ _ _ (lt-ltb _ _ (place_within p xs e))))
    step false e = refl

-- an element that is found passes
pub find_passes : {X : Type 0} (p : X → Bool) (xs : List X) (x : X) → find p xs ≡ Some x → p x ≡ true
find_passes p [] x h = absurd (none-some _ h)
find_passes p (y ∷ ys) x h = step (p y) refl h (find_passes p ys x)
  where
    step : (t : Bool) → p y ≡ t → cond t (Some y) (find p ys) ≡ Some x → (find p ys ≡ Some x → p x ≡ true) → p x ≡ true
    step true e s more = sym (ap p (same_Some y x s)) ∙ e
    step false e s more = more s

-- bytes are those before the last byte that passes, that byte, and those after it
pub split_at_last : (p : ℕ → Bool) (d : ℕ) (xs : List ℕ) → ((b : ℕ) → p b ≡ true → b ≡ d)
    → suffix_len (λ b. not (p b)) xs < length xs → xs ≡ before_last p xs ++ d ∷ after_last p xs
split_at_last p d xs only h =
    let m = suffix_len (λ b. not (p b)) xs in
    let at : length xs - m - 1 < length xs = omega arith in
    let r : prefix_len (λ b. not (p b)) (reverse xs) < length (reverse xs) = omega (arith, length-reverse xs) in
    let stop = prefix_len_stops (λ b. not (p b)) (reverse xs) 0 r in
    let here : get_or (reverse xs) m 0 ≡ get_or xs (length xs - 1 - m) 0 = get_or-reverse xs m 0 h in
    let turn : length xs - 1 - m ≡ length xs - m - 1 = omega arith in
    let last : get_or xs (length xs - m - 1) 0 ≡ d = only _ (ap p (sym (here ∙ ap (λ k. get_or xs k 0) turn)) ∙ not_false _ stop) in
    let next : length xs - m - 1 + 1 ≡ length xs - m = omega arith in
    sym (take-append-drop (length xs - m - 1) xs)
    ∙ ap (λ ys. take (length xs - m - 1) xs ++ ys) (drop_more xs (length xs - m - 1) 0 at ∙ ap (λ b. b ∷ drop (length xs - m - 1 + 1) xs) last ∙ ap (λ k. d ∷ drop k xs) next)
  where
    not_false : (t : Bool) → not t ≡ false → t ≡ true
    not_false true e = refl
    not_false false e = cc
