-- Edges of several kinds: where they lead.
use Rattle.std.proofs.Common.{◌++◌, ◌<◌, ◌||◌, ◌↔◌, ◌∷◌, ◌≡◌, ◌⊎◌}
use Rattle.index_rows.specs.Prelude.{[], All, All-append, All-head, All-tail, AllByRecursion, ap, append-nil, arith, Bool, cases_eq, cases_lt, cond, eq-eqb, eqb, false, filter, flat_map-append, inl, inr, IsAmong, IsAmong-append_cases, IsAmong-append_left, IsAmong-append_right, IsStrictlySortedBy, length, Less, List, nat_cmp, ne_eqb, refl, replicate, subst, suc, sym, true, zero, ℕ, ◌∙◌}
use Rattle.index_rows.specs.{Adjacency.{AreAdjacencyOf, AreTransposed, IsMember, neighbors, times}, AdjacencyLaws.{All-neighbors, neighbors-below, neighbors-past, times-cons_other, times-cons_same, times-in, times_cases}, ListLaws.{cmp_below}, Successors.{AreOpposite, AreSuccessorsOf, is_member, LeadsInside, stands_in, successors_from, successors_inside}}

-- a node whose adjacency list isn't empty is one of the n nodes
pub neighbors-start : (n : ℕ) (adjacency : List (List ℕ)) (u v : ℕ) → AreAdjacencyOf n adjacency → IsAmong v (neighbors adjacency u) → u < n
neighbors-start n adjacency u v a h = elim (cases_lt u (length adjacency)) [
  | inl l ↦ (let e = a.one_each in omega (arith, l, e))
  | inr l ↦ (let past : neighbors adjacency u ≡ [] = neighbors-past adjacency u l in
      let P : List ℕ → Type 0 = λ r. IsAmong v r in
      absurd (subst P past h))
]

-- the edges of one kind
pub one_kind : (adjacency : List (List ℕ)) (u v : ℕ) → IsAmong v (successors_from (adjacency ∷ []) u) ↔ IsAmong v (neighbors adjacency u)
one_kind adjacency u v = let P : List ℕ → Type 0 = λ l. IsAmong v l ↔ IsAmong v (neighbors adjacency u) in subst P (sym (append-nil (neighbors adjacency u))) (λ h. h, λ h. h)

-- the edges of some kinds and of others
pub more_kinds : (kinds others : List (List (List ℕ))) (u v : ℕ) → IsAmong v (successors_from (kinds ++ others) u)
    ↔ (IsAmong v (successors_from kinds u) ⊎ IsAmong v (successors_from others u))
more_kinds kinds others u v =
    let P : List ℕ → Type 0 = λ l. IsAmong v l ↔ (IsAmong v (successors_from kinds u) ⊎ IsAmong v (successors_from others u)) in
    subst P (sym (flat_map-append (λ adjacency. neighbors adjacency u) kinds others)) (
      IsAmong-append_cases v (successors_from kinds u) (successors_from others u),
      λ h. elim h [
        | inl a ↦ IsAmong-append_left v (successors_from kinds u) (successors_from others u) a
        | inr a ↦ IsAmong-append_right v (successors_from kinds u) (successors_from others u) a
      ],
    )

-- one more kind
pub successors-push : (kinds : List (List (List ℕ))) (adjacency : List (List ℕ)) (u : ℕ)
    → successors_from (kinds ++ adjacency ∷ []) u ≡ successors_from kinds u ++ neighbors adjacency u
successors-push kinds adjacency u = flat_map-append (λ r. neighbors r u) kinds (adjacency ∷ []) ∙ ap (λ l. successors_from kinds u ++ l) (append-nil (neighbors adjacency u))

pub within-one : (n : ℕ) (adjacency : List (List ℕ)) → AreAdjacencyOf n adjacency → AreSuccessorsOf n (adjacency ∷ [])
within-one n adjacency a zero d lt = a
within-one n adjacency a (suc k) d lt = absurd (omega arith)

pub within-both : (n : ℕ) (kinds others : List (List (List ℕ))) → AreSuccessorsOf n kinds → AreSuccessorsOf n others
    → AreSuccessorsOf n (kinds ++ others)
within-both n kinds others a b = All-append (AreAdjacencyOf n) kinds others a b

-- an edge leads to one of the n nodes
pub successors-below : (n : ℕ) (kinds : List (List (List ℕ))) (u v : ℕ) → AreSuccessorsOf n kinds
    → IsAmong v (successors_from kinds u) → v < n
successors-below n [] u v a h = absurd h
successors-below n (adjacency ∷ kinds) u v a h = elim (IsAmong-append_cases v (neighbors adjacency u) (successors_from kinds u) h) [
  | inl k ↦ neighbors-below n adjacency u v (All-head (AreAdjacencyOf n) adjacency kinds a).within k
  | inr k ↦ successors-below n kinds u v (All-tail (AreAdjacencyOf n) adjacency kinds a) k
]

-- and from one of them
pub successors-start : (n : ℕ) (kinds : List (List (List ℕ))) (u v : ℕ) → AreSuccessorsOf n kinds
    → IsAmong v (successors_from kinds u) → u < n
successors-start n [] u v a h = absurd h
successors-start n (adjacency ∷ kinds) u v a h = elim (IsAmong-append_cases v (neighbors adjacency u) (successors_from kinds u) h) [
  | inl k ↦ neighbors-start n adjacency u v (All-head (AreAdjacencyOf n) adjacency kinds a) k
  | inr k ↦ successors-start n kinds u v (All-tail (AreAdjacencyOf n) adjacency kinds a) k
]

-- in the set of all of n nodes, each node is a member
pub IsMember-all : (n v : ℕ) → v < n → IsMember (replicate n true) v
IsMember-all zero v l = absurd (omega arith)
IsMember-all (suc n) zero l = refl
IsMember-all (suc n) (suc v) l = IsMember-all n v (omega arith)

-- ---- ascending lists

-- a node above all of a list's members isn't among them
above_all : (x v : ℕ) (xs : List ℕ) → AllByRecursion (λ y. nat_cmp x y ≡ Less) xs → IsAmong v xs → x < v
above_all x v [] a h = absurd h
above_all x v (y ∷ ys) a (inl e) = subst (λ w. x < w) e (cmp_below x y a.0)
above_all x v (y ∷ ys) a (inr h) = above_all x v ys a.1 h

times_none : (v : ℕ) (xs : List ℕ) → ¬ IsAmong v xs → times v xs ≡ 0
times_none v xs out = elim (times_cases v xs) [ inl z ↦ z | inr a ↦ absurd (out a) ]

-- in a strictly ascending list each member occurs once
pub times_once : (v : ℕ) (xs : List ℕ) → IsStrictlySortedBy nat_cmp xs → IsAmong v xs → times v xs ≡ 1
unfolding IsStrictlySortedBy
times_once v [] s h = absurd h
times_once v (x ∷ xs) s (inl e) =
    times-cons_same v xs x e ∙ ap suc (times_none v xs (λ h. (let l : x < v = above_all x v xs s.0 h in omega (arith, l, e))))
times_once v (x ∷ xs) s (inr h) =
    times-cons_other v xs x (λ e. (let l : x < v = above_all x v xs s.0 h in omega (arith, l, e))) ∙ times_once v xs s.1 h

-- ascending adjacency lists are transposed where their edges lead back
pub transposed_from : (adjacency others : List (List ℕ))
    → ((u : ℕ) → IsStrictlySortedBy nat_cmp (neighbors adjacency u))
    → ((u : ℕ) → IsStrictlySortedBy nat_cmp (neighbors others u))
    → ((u v : ℕ) → IsAmong v (neighbors others u) ↔ IsAmong u (neighbors adjacency v)) → AreTransposed adjacency others
transposed_from adjacency others s t h u v = elim (times_cases v (neighbors others u)) [
  | inl z ↦ z ∙ sym (times_none u (neighbors adjacency v) (λ a. (let b = times-in v (neighbors others u) ((h u v).1 a) in omega (arith, b, z))))
  | inr a ↦ times_once v (neighbors others u) (t u) a ∙ sym (times_once u (neighbors adjacency v) (s v) ((h u v).0 a))
]

-- in the set of all nodes, all nodes of a list are members
filter_all : (n : ℕ) (xs : List ℕ) → All (λ v. v < n) xs → filter (is_member (replicate n true)) xs ≡ xs
filter_all n [] a = refl
filter_all n (x ∷ xs) a = keep (is_member (replicate n true) x) (IsMember-all n x (All-head (λ v. v < n) x xs a)) ∙ ap (λ ys. x ∷ ys) (filter_all n xs (All-tail (λ v. v < n) x xs a))
  where
    keep : (b : Bool) → b ≡ true
        → cond b (x ∷ filter (is_member (replicate n true)) xs) (filter (is_member (replicate n true)) xs)
        ≡ x ∷ filter (is_member (replicate n true)) xs
    keep true e = refl
    keep false e = cc

-- and all edges lead to members
pub inside_all : (n : ℕ) (kinds : List (List (List ℕ))) (u : ℕ) → AreSuccessorsOf n kinds
    → successors_inside (replicate n true) kinds u ≡ successors_from kinds u
inside_all n [] u a = refl
inside_all n (adjacency ∷ kinds) u a =
    ap (λ l. l ++ successors_inside (replicate n true) kinds u) (filter_all n (neighbors adjacency u) (All-neighbors n adjacency u (All-head (AreAdjacencyOf n) adjacency kinds a).within))
    ∙ ap (λ l. neighbors adjacency u ++ l) (inside_all n kinds u (All-tail (AreAdjacencyOf n) adjacency kinds a))

-- ---- transposed edges

or_first : (a b : Bool) → a ≡ true → (a || b) ≡ true
or_first true b e = refl
or_first false b e = cc

or_second : (a b : Bool) → b ≡ true → (a || b) ≡ true
or_second true b e = refl
or_second false b e = e

or_cases : (a b : Bool) → (a || b) ≡ true → (a ≡ true) ⊎ (b ≡ true)
or_cases true b e = inl refl
or_cases false b e = inr e

stands_among : (v : ℕ) (xs : List ℕ) → stands_in v xs ≡ true → IsAmong v xs
stands_among v [] e = cc
stands_among v (x ∷ xs) e = elim (or_cases (eqb x v) (stands_in v xs) e) [
  | inl a ↦ elim (cases_eq x v) [ inl same ↦ inl same | inr ne ↦ (let f = ne_eqb x v ne in absurd (cc)) ]
  | inr a ↦ inr (stands_among v xs a)
]

among_stands : (v : ℕ) (xs : List ℕ) → IsAmong v xs → stands_in v xs ≡ true
among_stands v [] h = absurd h
among_stands v (x ∷ xs) (inl e) = or_first (eqb x v) (stands_in v xs) (eq-eqb x v e)
among_stands v (x ∷ xs) (inr h) = or_second (eqb x v) (stands_in v xs) (among_stands v xs h)

pub same_truth : (a b : Bool) → (a ≡ true → b ≡ true) → (b ≡ true → a ≡ true) → a ≡ b
same_truth true true f g = refl
same_truth true false f g = let e = f refl in cc
same_truth false true f g = let e = g refl in cc
same_truth false false f g = refl

module _ (next others : ℕ → List ℕ) where
  pub opposite_is : AreOpposite next others → (u v : ℕ) → IsAmong v (others u) ↔ IsAmong u (next v)
  opposite_is o u v = (
    λ h. stands_among u (next v) (sym (o u v) ∙ among_stands v (others u) h),
    λ h. stands_among v (others u) (o u v ∙ among_stands u (next v) h),
  )

  pub opposite_from : ((u v : ℕ) → IsAmong v (others u) ↔ IsAmong u (next v)) → AreOpposite next others
  opposite_from h u v = same_truth (stands_in v (others u)) (stands_in u (next v))
      (λ e. among_stands u (next v) ((h u v).0 (stands_among v (others u) e)))
      (λ e. among_stands v (others u) ((h u v).1 (stands_among u (next v) e)))

-- ---- the members of a set in a list

filter_one : (b : Bool) (v x : ℕ) (xs ys : List ℕ) → IsAmong v (cond b (x ∷ ys) ys) → ((b ≡ true) × (x ≡ v)) ⊎ IsAmong v ys
filter_one true v x xs ys (inl e) = inl (refl, e)
filter_one true v x xs ys (inr h) = inr h
filter_one false v x xs ys h = inr h

filter_first : (b : Bool) (v x : ℕ) (ys : List ℕ) → b ≡ true → x ≡ v → IsAmong v (cond b (x ∷ ys) ys)
filter_first true v x ys e f = inl f
filter_first false v x ys e f = cc

filter_later : (b : Bool) (v x : ℕ) (ys : List ℕ) → IsAmong v ys → IsAmong v (cond b (x ∷ ys) ys)
filter_later true v x ys h = inr h
filter_later false v x ys h = h

pub filtered : (inside : List Bool) (xs : List ℕ) (v : ℕ) → IsAmong v (filter (is_member inside) xs) ↔ (IsAmong v xs × IsMember inside v)
filtered inside [] v = (λ h. absurd h, λ h. absurd h.0)
filtered inside (x ∷ xs) v = (
  λ h. elim (filter_one (is_member inside x) v x xs (filter (is_member inside) xs) h) [
    | inl a ↦ (inl a.1, subst (IsMember inside) a.1 a.0)
    | inr a ↦ (let k = (filtered inside xs v).0 a in (inr k.0, k.1))
  ],
  λ h. elim h.0 [
    | inl e ↦ filter_first (is_member inside x) v x (filter (is_member inside) xs) (subst (IsMember inside) (sym e) h.1) e
    | inr a ↦ filter_later (is_member inside x) v x (filter (is_member inside) xs) ((filtered inside xs v).1 (a, h.1))
  ],
)

module _ (inside : List Bool) (adjacency : List (List ℕ)) (kinds : List (List (List ℕ))) (u v : ℕ)
    (rest : IsAmong v (successors_inside inside kinds u) ↔ LeadsInside inside kinds u v) where
  abbrev first : List ℕ
  first = filter (is_member inside) (neighbors adjacency u)

  inside_there : IsAmong v (successors_inside inside (adjacency ∷ kinds) u) → LeadsInside inside (adjacency ∷ kinds) u v
  inside_there h = elim (IsAmong-append_cases v first (successors_inside inside kinds u) h) [
    | inl a ↦ (let k = (filtered inside (neighbors adjacency u) v).0 a in record { step = IsAmong-append_left v (neighbors adjacency u) (successors_from kinds u) k.0; member = k.1 })
    | inr a ↦ (let k = rest.0 a in record { step = IsAmong-append_right v (neighbors adjacency u) (successors_from kinds u) k.step; member = k.member })
  ]

  inside_back : LeadsInside inside (adjacency ∷ kinds) u v → IsAmong v (successors_inside inside (adjacency ∷ kinds) u)
  inside_back l = elim (IsAmong-append_cases v (neighbors adjacency u) (successors_from kinds u) l.step) [
    | inl a ↦ IsAmong-append_left v first (successors_inside inside kinds u) ((filtered inside (neighbors adjacency u) v).1 (a, l.member))
    | inr a ↦ IsAmong-append_right v first (successors_inside inside kinds u) (rest.1 (record { step = a; member = l.member }))
  ]

pub inside_is : (inside : List Bool) (kinds : List (List (List ℕ))) (u v : ℕ)
    → IsAmong v (successors_inside inside kinds u) ↔ LeadsInside inside kinds u v
inside_is inside [] u v = (λ h. absurd h, λ l. absurd l.step)
inside_is inside (adjacency ∷ kinds) u v = let rest = inside_is inside kinds u v in (inside_there inside adjacency kinds u v rest, inside_back inside adjacency kinds u v rest)
