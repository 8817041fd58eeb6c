-- All takes of a node are its crowd's, if there are as many.
use Rattle.std.proofs.Common.{◌&&◌, ◌*◌, ◌+◌, ◌<◌, ◌==◌, ◌∷◌, ◌≡◌, ◌≤◌, ◌⊎◌}
use Rattle.crowds.proofs.Prelude.{[], Absorbed, ap, arith, Bool, cond, count_by, count_by-le-length, crowd_place, Edit, Edited, eq-eqb, eq_by_cmp, false, HistoryEvent, inl, inr, is_own, IsAmong, le-ltb, leb, leb_tells, length, List, lt-ltb, nat_lt, ne_eqb, Opening, own_edits, place_cmp, refl, slice_get, Some, subst, suc, suc-mul, sum_by, sum_by-cons, true, zero, ℕ}

-- an edit of a worker's own file, by one of these workers
abbrev pub is_ours : ℕ → HistoryEvent → Bool
is_ours workers (Opening replica) = false
is_ours workers (Edited seat e) = nat_lt seat workers && eq_by_cmp place_cmp e.place (crowd_place seat)
is_ours workers (Absorbed seat piece) = false

three : (a b : ℕ) → (a < b) ⊎ ((a ≡ b) ⊎ (b < a))
three a b = pick (leb_tells (suc a) b) (leb_tells (suc b) a)
  where
    pick : ((leb (suc a) b ≡ true) × (suc a ≤ b)) ⊎ ((leb (suc a) b ≡ false) × (b < suc a)) → ((leb (suc b) a ≡ true) × (suc b ≤ a)) ⊎ ((leb (suc b) a ≡ false) × (a < suc b)) → (a < b) ⊎ ((a ≡ b) ⊎ (b < a))
    pick (inl x) y = inl (let le = x.1 in omega arith)
    pick (inr x) (inl y) = inr (inr (let le = y.1 in omega arith))
    pick (inr x) (inr y) = inr (inl (let le = x.1 in let ge = y.1 in omega arith))

edited_more : (n seat : ℕ) (e : Edit) → (seat < n) ⊎ ((seat ≡ n) ⊎ (n < seat)) → cond (is_ours (suc n) (Edited seat e)) 1 0 ≡ cond (is_ours n (Edited seat e)) 1 0 + cond (is_own n (Edited seat e)) 1 0
edited_more n seat e (inl lt) =
    let a : nat_lt seat (suc n) ≡ true = lt-ltb seat (suc n) (omega arith) in
    let b : nat_lt seat n ≡ true = lt-ltb seat n lt in
    let d : (seat == n) ≡ false = ne_eqb seat n (λ same. absurd (omega arith)) in
    simp (a, b, d) (omega arith)
edited_more n seat e (inr (inl same)) =
    let a : nat_lt seat (suc n) ≡ true = lt-ltb seat (suc n) (omega arith) in
    let b : nat_lt seat n ≡ false = le-ltb seat n (omega arith) in
    let d : (seat == n) ≡ true = eq-eqb seat n same in
    let path : ◌≡◌ {A = ℕ} (cond (eq_by_cmp place_cmp e.place (crowd_place seat)) 1 0) (cond (eq_by_cmp place_cmp e.place (crowd_place n)) 1 0) = ap (λ k. cond (eq_by_cmp place_cmp e.place (crowd_place k)) 1 0) same in
    simp (a, b, d) (omega (arith, path))
edited_more n seat e (inr (inr gt)) =
    let a : nat_lt seat (suc n) ≡ false = le-ltb seat (suc n) (omega arith) in
    let b : nat_lt seat n ≡ false = le-ltb seat n (omega arith) in
    let d : (seat == n) ≡ false = ne_eqb seat n (λ same. absurd (omega arith)) in
    simp (a, b, d) (omega arith)

one_worker_more : (n : ℕ) (x : HistoryEvent) → cond (is_ours (suc n) x) 1 0 ≡ cond (is_ours n x) 1 0 + cond (is_own n x) 1 0
one_worker_more n (Opening r) = refl
one_worker_more n (Edited seat e) = edited_more n seat e (three seat n)
one_worker_more n (Absorbed seat p) = refl

ours_more : (n : ℕ) (h : List HistoryEvent) → count_by (is_ours (suc n)) h ≡ count_by (is_ours n) h + own_edits n h
ours_more n [] = refl
ours_more n (x ∷ h) =
    let all = sum_by-cons (λ y. cond (is_ours (suc n) y) 1 0) x h in
    let some = sum_by-cons (λ y. cond (is_ours n y) 1 0) x h in
    let own = sum_by-cons (λ y. cond (is_own n y) 1 0) x h in
    let rest = ours_more n h in
    let here = one_worker_more n x in
    omega (arith, all, some, own, rest, here)

pub ours_many : (n edits : ℕ) (h : List HistoryEvent) → ((k : ℕ) → k < n → edits ≤ own_edits k h) → n * edits ≤ count_by (is_ours n) h
ours_many zero edits h each = omega arith
ours_many (suc n) edits h each =
    let rest = ours_many n edits h (λ k lt. each k (omega arith)) in
    let one = each n (omega arith) in
    let more = ours_more n h in
    let parts = suc-mul n edits in
    omega (arith, rest, one, more, parts)

pass_step : {X : Type 0} (p : X → Bool) (y : X) (xs : List X) → length (y ∷ xs) ≤ count_by p (y ∷ xs) → (length xs ≤ count_by p xs → (x : X) → IsAmong x xs → p x ≡ true) → (b : Bool) → p y ≡ b → (x : X) → (y ≡ x) ⊎ IsAmong x xs → p x ≡ true
pass_step p y xs many rest true t x (inl e) = subst (λ z. p z ≡ true) e t
pass_step p y xs many rest true t x (inr h) =
    let parts = sum_by-cons (λ z. cond (p z) 1 0) y xs in
    let one : ◌≡◌ {A = ℕ} (cond (p y) 1 0) 1 = ap (λ b. cond b 1 0) t in
    rest (omega (arith, parts, one)) x h
pass_step p y xs many rest false t x a =
    let parts = sum_by-cons (λ z. cond (p z) 1 0) y xs in
    let short = count_by-le-length p xs in
    let one : ◌≡◌ {A = ℕ} (cond (p y) 1 0) 0 = ap (λ b. cond b 1 0) t in
    absurd (omega (arith, parts, one, short))

-- where as many elements pass as there are, each passes
pub all_pass : {X : Type 0} (p : X → Bool) (xs : List X) → length xs ≤ count_by p xs → (x : X) → IsAmong x xs → p x ≡ true
all_pass p [] many x a = absurd a
all_pass p (y ∷ xs) many x a = pass_step p y xs many (λ le z h. all_pass p xs le z h) (p y) refl x a

pub sum_same : {X : Type 0} (f : X → ℕ) (m : ℕ) (xs : List X) → ((k : ℕ) (x : X) → slice_get xs k ≡ Some x → f x ≡ m) → sum_by f xs ≡ length xs * m
sum_same f m [] each = omega arith
sum_same f m (x ∷ xs) each =
    let first = each 0 x refl in
    let rest = sum_same f m xs (λ k y is. each (suc k) y is) in
    let parts = sum_by-cons f x xs in
    let more = suc-mul (length xs) m in
    omega (arith, first, rest, parts, more)
