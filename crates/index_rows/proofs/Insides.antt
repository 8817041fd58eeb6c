-- Edges of several kinds, kind by kind, and members among nodes, node by node.
use Rattle.std.proofs.Common.{◌++◌, ◌+◌, ◌<◌, ◌∷◌, ◌≡◌, ◌≤◌, ◌⊎◌}
use Rattle.index_rows.proofs.Prelude.{[], All, All-neighbors, ap, append-nil, AreAdjacencyOf, AreSuccessorsOf, arith, below_cmp, Bool, cases_lt, cmp_below, cond, false, filter, filter-append, flat_map-append, get_or, inl, inr, is_member, IsLeast, IsLeastOrNone, IsSpread, length, lesser_of, List, map, MatchOption, min, nat_cmp, neighbors, None, Option, refl, Some, subst, suc, successors_inside, sym, take, take_more, true, zero, ℕ, ◌∙◌}
use Rattle.index_rows.proofs.Levels.{IsSpread-append}

-- ---- members

cond_true : (b : Bool) (x : ℕ) (ys : List ℕ) → b ≡ true → cond b (x ∷ ys) ys ≡ x ∷ ys
cond_true true x ys e = refl
cond_true false x ys e = cc

cond_false : (b : Bool) (x : ℕ) (ys : List ℕ) → b ≡ false → cond b (x ∷ ys) ys ≡ ys
cond_false true x ys e = cc
cond_false false x ys e = refl

module _ (s0 s : List Bool) (t0 t : List ℕ) (inside : List Bool) (old nodes : List ℕ) (x : ℕ) (more : nodes ≡ old ++ x ∷ []) (h : IsSpread s0 s t0 t (filter (is_member inside) old)) where
  split : filter (is_member inside) nodes ≡ filter (is_member inside) old ++ cond (is_member inside x) (x ∷ []) []
  split = ap (filter (is_member inside)) more ∙ filter-append (is_member inside) old (x ∷ [])

  pub spread_member : (s1 : List Bool) (t1 : List ℕ) → is_member inside x ≡ true → IsSpread s s1 t t1 (x ∷ []) → IsSpread s0 s1 t0 t1 (filter (is_member inside) nodes)
  spread_member s1 t1 e k =
      let P : List ℕ → Type 0 = λ l. IsSpread s0 s1 t0 t1 l in
      let here : filter (is_member inside) nodes ≡ filter (is_member inside) old ++ x ∷ [] = split ∙ ap (λ l. filter (is_member inside) old ++ l) (cond_true (is_member inside x) x [] e) in
      subst P (sym here) (IsSpread-append s0 s s1 t0 t t1 (filter (is_member inside) old) (x ∷ []) h k)

  pub spread_non_members : is_member inside x ≡ false → IsSpread s0 s t0 t (filter (is_member inside) nodes)
  spread_non_members e =
      let P : List ℕ → Type 0 = λ l. IsSpread s0 s t0 t l in
      let here : filter (is_member inside) nodes ≡ filter (is_member inside) old =
      split ∙ ap (λ l. filter (is_member inside) old ++ l) (cond_false (is_member inside x) x [] e) ∙ append-nil (filter (is_member inside) old) in
      subst P (sym here) h

-- ---- one more kind

pub spread_kind : (s0 s s1 : List Bool) (t0 t t1 : List ℕ) (inside : List Bool) (node : ℕ) (old kinds : List (List (List ℕ))) (adjacency : List (List ℕ)) → kinds ≡ old ++ adjacency ∷ []
    → IsSpread s0 s t0 t (successors_inside inside old node) → IsSpread s s1 t t1 (filter (is_member inside) (neighbors adjacency node)) → IsSpread s0 s1 t0 t1 (successors_inside inside kinds node)
spread_kind s0 s s1 t0 t t1 inside node old kinds adjacency e h k =
    let f : List (List ℕ) → List ℕ = λ r. filter (is_member inside) (neighbors r node) in
    let P : List ℕ → Type 0 = λ l. IsSpread s0 s1 t0 t1 l in
    let here : successors_inside inside kinds node ≡ successors_inside inside old node ++ f adjacency =
    ap (λ ks. successors_inside inside ks node) e ∙ flat_map-append f old (adjacency ∷ []) ∙ ap (λ l. successors_inside inside old node ++ l) (append-nil (f adjacency)) in
    subst P (sym here) (IsSpread-append s0 s s1 t0 t t1 (successors_inside inside old node) (f adjacency) h k)

-- ---- the least of two sets

module _ (P Q : ℕ → Type 0) where
  lesser_one : (x y : ℕ) → x ≤ y → IsLeast nat_cmp P x → IsLeast nat_cmp Q y → IsLeast nat_cmp (λ v. P v ⊎ Q v) x
  lesser_one x y l p q = record {
    member = inl p.member;
    least = λ v m e. elim m [ inl a ↦ p.least v a e | inr b ↦ q.least v b (let f = cmp_below v x e in below_cmp v y (omega (arith, f, l))) ];
  }

  lesser_other : (x y : ℕ) → y ≤ x → IsLeast nat_cmp P x → IsLeast nat_cmp Q y → IsLeast nat_cmp (λ v. P v ⊎ Q v) y
  lesser_other x y l p q = record {
    member = inr q.member;
    least = λ v m e. elim m [ inl a ↦ p.least v a (let f = cmp_below v y e in below_cmp v x (omega (arith, f, l))) | inr b ↦ q.least v b e ];
  }

  pub lesser_is : (a b : Option ℕ) → IsLeastOrNone P a → IsLeastOrNone Q b → IsLeastOrNone (λ v. P v ⊎ Q v) (lesser_of a b)
  lesser_is None None h k = λ v m. elim m [ inl p ↦ h v p | inr q ↦ k v q ]
  lesser_is None (Some y) h k = record { member = inr k.member; least = λ v m e. elim m [ inl p ↦ h v p | inr q ↦ k.least v q e ] }
  lesser_is (Some x) None h k = record { member = inl h.member; least = λ v m e. elim m [ inl p ↦ h.least v p e | inr q ↦ k v q ] }
  lesser_is (Some x) (Some y) h k = elim (cases_lt x y) [
    | inl l ↦ (let e : min x y ≡ x = omega (arith, l) in subst (λ w. IsLeast nat_cmp (λ v. P v ⊎ Q v) w) (sym e) (lesser_one x y (omega (arith, l)) h k))
    | inr l ↦ (let e : min x y ≡ y = omega (arith, l) in subst (λ w. IsLeast nat_cmp (λ v. P v ⊎ Q v) w) (sym e) (lesser_other x y l h k))
  ]

-- the least node of a list that is a member, said in two ways
pub least_of_both : (A B : ℕ → Type 0) (o : Option ℕ) → MatchOption o ((v : ℕ) → A v → ¬ B v) (IsLeast nat_cmp (λ v. A v × B v)) → IsLeastOrNone (λ v. A v × B v) o
least_of_both A B None h = λ v k. h v k.0 k.1
least_of_both A B (Some x) h = h

-- the least member is the same for sets with the same members
pub least_same : (P Q : ℕ → Type 0) → ((v : ℕ) → P v → Q v) → ((v : ℕ) → Q v → P v) → (o : Option ℕ) → IsLeastOrNone P o → IsLeastOrNone Q o
least_same P Q to from None h = λ v q. h v (from v q)
least_same P Q to from (Some x) h = record { member = to x h.member; least = λ v q. h.least v (from v q) }

-- ---- the kinds, as a loop meets them

module _ {A : Type 0} (f : A → List (List ℕ)) where
  mapped_at : (xs : List A) (i : ℕ) (x : A) → i < length xs → x ≡ get_or xs i x → get_or (map f xs) i (f x) ≡ f x
  mapped_at [] i x l e = absurd (omega arith)
  mapped_at (y ∷ ys) zero x l e = ap f (sym e)
  mapped_at (y ∷ ys) (suc i) x l e = mapped_at ys i x (omega arith) e

  length_mapped : (xs : List A) → length (map f xs) ≡ length xs
  length_mapped [] = refl
  length_mapped (y ∷ ys) = ap suc (length_mapped ys)

  module _ (kinds : List (List (List ℕ))) (items xs : List A) (read : xs ≡ items) (view : map f items ≡ kinds) (i : ℕ) (x : A) (l : i < length xs) (e : x ≡ get_or xs i x) where
    same : map f xs ≡ kinds
    same = ap (map f) read ∙ view

    pub kind_more : take (i + 1) kinds ≡ take i kinds ++ f x ∷ []
    kind_more =
        let P : List (List (List ℕ)) → Type 0 = λ ks. take (i + 1) ks ≡ take i ks ++ f x ∷ [] in
        let Q : List (List ℕ) → Type 0 = λ y. take (i + 1) (map f xs) ≡ take i (map f xs) ++ y ∷ [] in
        subst P same (subst Q (mapped_at xs i x l e) (take_more (map f xs) i (f x) (let k = length_mapped xs in omega (arith, k, l))))

    pub kind_adjacency : (n : ℕ) → AreSuccessorsOf n kinds → AreAdjacencyOf n (f x)
    kind_adjacency n a =
        let P : List (List (List ℕ)) → Type 0 = λ ks. AreSuccessorsOf n ks in
        subst (AreAdjacencyOf n) (mapped_at xs i x l e) (subst P (sym same) a i (f x) (let k = length_mapped xs in omega (arith, k, l)))

-- the node has an adjacency list
pub neighbors_there : (n m : ℕ) (adjacency : List (List ℕ)) (node : ℕ) → AreAdjacencyOf n adjacency → m ≡ n → node < m → node < length adjacency
neighbors_there n m adjacency node a e l = let one = a.one_each in omega (arith, one, e, l)

-- and its nodes are below the count
pub neighbors_inside : (n m : ℕ) (adjacency : List (List ℕ)) (node : ℕ) (r : List ℕ) → AreAdjacencyOf n adjacency → m ≡ n → r ≡ neighbors adjacency node → All (λ v. v < m) r
neighbors_inside n m adjacency node r a e f =
    let P : List ℕ → Type 0 = λ l. All (λ v. v < m) l in
    let Q : ℕ → Type 0 = λ k. All (λ v. v < k) (neighbors adjacency node) in
    subst P (sym f) (subst Q (sym e) (All-neighbors n adjacency node a.within))
