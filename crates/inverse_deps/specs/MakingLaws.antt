-- Lists that are built one by one.
use Rattle.std.proofs.Common.{◌++◌, ◌+◌, ◌<◌, ◌∷◌, ◌≡◌, ◌≤◌, ◌⊎◌}
use Rattle.inverse_deps.specs.Prelude.{[], AllBelow-adjacency, ap, AreAdjacencyOf, arith, cases_eq, cases_lt, get_or, get_or_push, inl, inr, IsAmong, length, length-append, List, neighbors, neighbors-past, refl, subst, suc, sym, zero, ℕ}

-- the first i were built, and each is as it should be
pub record AreMade {X : Type 0} (P : ℕ → X → Type 0) (i : ℕ) (xs : List X) : Type 0 where
  pub count : length xs ≡ i
  pub each : (k : ℕ) (d : X) → k < i → P k (get_or xs k d)

module _ {X : Type 0} (P : ℕ → X → Type 0) where
  pub made_none : (xs : List X) → xs ≡ [] → AreMade P 0 xs
  made_none xs e = record { count = ap length e; each = λ k d l. absurd (omega arith) }

  get_prefix : (xs : List X) (x d : X) (k : ℕ) → k < length xs → get_or (xs ++ x ∷ []) k d ≡ get_or xs k d
  get_prefix [] x d k l = absurd (omega arith)
  get_prefix (y ∷ ys) x d zero l = refl
  get_prefix (y ∷ ys) x d (suc k) l = get_prefix ys x d k (omega arith)

  pub made_more : (i : ℕ) (xs ys : List X) (x : X) → AreMade P i xs → ys ≡ xs ++ x ∷ [] → P i x → AreMade P (i + 1) ys
  made_more i xs ys x a e here =
      let Q : List X → Type 0 = λ l. AreMade P (i + 1) l in
      subst Q (sym e) (record {
        count = (let b : length (xs ++ x ∷ []) ≡ length xs + 1 = length-append xs (x ∷ []) in omega (arith, b, a.count));
        each = λ k d l. elim (cases_eq i k) [
          | inl same ↦ (let R : ℕ → Type 0 = λ j. P j (get_or (xs ++ x ∷ []) j d) in
              subst R same (subst (P i) (sym (get_or_push xs x d i a.count)) here))
          | inr ne ↦ (let s : k < i = omega (arith, l, ne) in
              subst (P k) (sym (get_prefix xs x d k (omega (arith, s, a.count)))) (a.each k d s))
        ];
      })

-- adjacency lists that lead from n nodes to n nodes
pub adjacency_of_successors : (n : ℕ) (adjacency : List (List ℕ)) → length adjacency ≡ n
    → ((u : ℕ) → u < n → (v : ℕ) → IsAmong v (neighbors adjacency u) → v < n) → AreAdjacencyOf n adjacency
adjacency_of_successors n adjacency e h = record { one_each = e; within = AllBelow-adjacency n adjacency (λ u v a. step u v a (cases_lt u n)) }
  where
    step : (u v : ℕ) → IsAmong v (neighbors adjacency u) → (u < n) ⊎ (n ≤ u) → v < n
    step u v a (inl l) = h u l v a
    step u v a (inr l) = let P : List ℕ → Type 0 = λ r. IsAmong v r in absurd (subst P (neighbors-past adjacency u (omega (arith, l, e))) a)
