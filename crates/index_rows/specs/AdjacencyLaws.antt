-- Adjacency lists: what they hold, and how often.
use Rattle.std.proofs.Common.{◌++◌, ◌+◌, ◌<◌, ◌∷◌, ◌≡◌, ◌≤◌, ◌⊎◌}
use Rattle.index_rows.specs.Prelude.{[], All, among_from_contains, ap, arith, Bool, cases_eq, cond, Contains-get_or, eq-eqb, eqb, false, get_or, inl, inr, IsAmong, length, List, ne_eqb, refl, suc, sym, take, true, zero, ℕ, ◌∙◌}
use Rattle.index_rows.specs.{Adjacency.{AllBelow, neighbors, times}, ListLaws.{All-among}}

-- past the last list there is none
pub neighbors-past : (adjacency : List (List ℕ)) (v : ℕ) → length adjacency ≤ v → neighbors adjacency v ≡ []
neighbors-past [] v l = refl
neighbors-past (r ∷ rs) zero l = absurd (omega arith)
neighbors-past (r ∷ rs) (suc v) l = neighbors-past rs v (omega arith)

pub All-neighbors : (n : ℕ) (adjacency : List (List ℕ)) (v : ℕ) → AllBelow n adjacency → All (λ u. u < n) (neighbors adjacency v)
All-neighbors n [] v h = λ k d lt. absurd (omega arith)
All-neighbors n (x ∷ xs) zero h = h zero x (omega arith)
All-neighbors n (x ∷ xs) (suc v) h = All-neighbors n xs v (λ k d lt. h (suc k) d (omega arith))

pub neighbors-below : (n : ℕ) (adjacency : List (List ℕ)) (u v : ℕ) → AllBelow n adjacency → IsAmong v (neighbors adjacency u) → v < n
neighbors-below n adjacency u v below h = All-among (λ w. w < n) (neighbors adjacency u) v (All-neighbors n adjacency u below) h

-- ---- how often

-- a count of the nodes that pass a test, with one more node
pub count-push : (count : List ℕ → ℕ) (passes : ℕ → Bool)
    → ((x : ℕ) (xs : List ℕ) → count (x ∷ xs) ≡ cond (passes x) (suc (count xs)) (count xs))
    → (xs : List ℕ) (x : ℕ) → count (xs ++ x ∷ []) ≡ count xs + cond (passes x) 1 0
count-push count passes counts [] x = counts x [] ∙ by (passes x) (count [])
  where
    by : (b : Bool) (s : ℕ) → cond b (suc s) s ≡ s + cond b 1 0
    by true s = omega arith
    by false s = omega arith
count-push count passes counts (y ∷ ys) x =
    counts y (ys ++ x ∷ []) ∙ by (passes y) _ _ _ (count-push count passes counts ys x) ∙ sym (ap (λ n. n + cond (passes x) 1 0) (counts y ys))
  where
    by : (b : Bool) (s t d : ℕ) → s ≡ t + d → cond b (suc s) s ≡ cond b (suc t) t + d
    by true s t d e = omega arith
    by false s t d e = e

pub times-push : (v : ℕ) (xs : List ℕ) (x : ℕ) → times v (xs ++ x ∷ []) ≡ times v xs + cond (eqb x v) 1 0
times-push v xs x = count-push (times v) (λ y. eqb y v) (λ y ys. refl) xs x

pub times-push_same : (v : ℕ) (xs : List ℕ) (x : ℕ) → x ≡ v → times v (xs ++ x ∷ []) ≡ times v xs + 1
times-push_same v xs x e = times-push v xs x ∙ ap (λ (b : Bool). times v xs + cond b 1 0) (eq-eqb x v e)

pub times-push_other : (v : ℕ) (xs : List ℕ) (x : ℕ) → ¬ (x ≡ v) → times v (xs ++ x ∷ []) ≡ times v xs
times-push_other v xs x ne = let e : times v xs + 0 ≡ times v xs = omega arith in times-push v xs x ∙ ap (λ (b : Bool). times v xs + cond b 1 0) (ne_eqb x v ne) ∙ e

pub times-cons_same : (v : ℕ) (xs : List ℕ) (x : ℕ) → x ≡ v → times v (x ∷ xs) ≡ suc (times v xs)
times-cons_same v xs x e = ap (λ (b : Bool). cond b (suc (times v xs)) (times v xs)) (eq-eqb x v e)

pub times-cons_other : (v : ℕ) (xs : List ℕ) (x : ℕ) → ¬ (x ≡ v) → times v (x ∷ xs) ≡ times v xs
times-cons_other v xs x ne = ap (λ (b : Bool). cond b (suc (times v xs)) (times v xs)) (ne_eqb x v ne)

-- a node occurs in a list zero times, or it is a member
pub times_cases : (v : ℕ) (xs : List ℕ) → (times v xs ≡ 0) ⊎ IsAmong v xs
times_cases v [] = inl refl
times_cases v (x ∷ xs) =
    elim (cases_eq x v) [
      | inl e ↦ inr (inl e)
      | inr ne ↦ elim (times_cases v xs) [ inl z ↦ inl (times-cons_other v xs x ne ∙ z) | inr h ↦ inr (inr h) ]
    ]

pub times-in : (v : ℕ) (xs : List ℕ) → IsAmong v xs → 0 < times v xs
times-in v [] h = absurd h
times-in v (x ∷ xs) (inl e) = let a = times-cons_same v xs x e in omega (arith, a)
times-in v (x ∷ xs) (inr h) = elim (cases_eq x v) [
  | inl e ↦ (let a = times-cons_same v xs x e in omega (arith, a))
  | inr ne ↦ (let a = times-cons_other v xs x ne in let b : 0 < times v xs = times-in v xs h in omega (arith, a))
]

lt_at : (b : Bool) (s t : ℕ) → s < t → cond b (suc s) s < cond b (suc t) t
lt_at true s t l = omega arith
lt_at false s t l = l

-- before its position in a list, a node occurs less often than in the whole list
pub times_room : (xs : List ℕ) (i : ℕ) → i < length xs → times (get_or xs i 0) (take i xs) < times (get_or xs i 0) xs
times_room [] i lt = absurd (omega arith)
times_room (x ∷ xs) zero lt = let a = times-cons_same x xs x refl in omega (arith, a)
times_room (x ∷ xs) (suc i) lt = lt_at (eqb x (get_or xs i 0)) _ _ (times_room xs i (omega arith))

-- adjacency lists whose members are below n, said list by list
pub AllBelow-adjacency : (n : ℕ) (adjacency : List (List ℕ)) → ((u v : ℕ) → IsAmong v (neighbors adjacency u) → v < n)
    → AllBelow n adjacency
AllBelow-adjacency n [] h k d lt = absurd (omega arith)
AllBelow-adjacency n (r ∷ rs) h zero d lt = λ i e l. h zero (get_or r i e) (among_from_contains _ r (Contains-get_or r i e l))
AllBelow-adjacency n (r ∷ rs) h (suc k) d lt = AllBelow-adjacency n rs (λ u. h (suc u)) k d (omega arith)
