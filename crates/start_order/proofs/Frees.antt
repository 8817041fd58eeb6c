-- The least of the nodes that can start, and what is left when it is removed.
use Rattle.std.proofs.Common.{◌++◌, ◌<◌, ◌↔◌, ◌∷◌, ◌≡◌, ◌≤◌}
use Rattle.start_order.proofs.Prelude.{[], All, All-among, AllByRecursion, arith, cases_lt, cmp_below, drop, false, get_or, Greater, inl, inr, is_gt, IsAmong, IsAmong-append_cases, IsAmong-append_left, IsAmong-append_right, IsLeastIn, IsLeBy, IsStrictlySortedBy, length, Less, lesser_of, List, MatchOption, min, nat_cmp, nat_cmp_is, None, Option, Ordering, refl, slice_get, Some, subst, sym, ℕ, ◌∙◌}

above_all : (x v : ℕ) (xs : List ℕ) → AllByRecursion (λ y. nat_cmp x y ≡ Less) xs → IsAmong v xs → x < v
above_all x v [] a h = absurd h
above_all x v (y ∷ ys) a (inl e) = subst (λ w. x < w) e (cmp_below x y a.0)
above_all x v (y ∷ ys) a (inr h) = above_all x v ys a.1 h

-- the first of nodes in ascending order is the least
pub prefix_least : (items : List ℕ) (x : ℕ) → x ≡ get_or items 0 x → 0 < length items → IsStrictlySortedBy nat_cmp items → IsLeastIn items x
unfolding IsStrictlySortedBy
prefix_least [] x e l s = absurd (omega arith)
prefix_least (y ∷ ys) x e l s = (
  inl (sym e),
  λ v h. elim h [ inl f ↦ omega (arith, e, f) | inr a ↦ (let b = above_all y v ys s.0 a in omega (arith, e, b)) ],
)

-- without it they are still in ascending order
pub rest_ascends : (old new : List ℕ) → new ≡ drop 1 old → IsStrictlySortedBy nat_cmp old → IsStrictlySortedBy nat_cmp new
unfolding IsStrictlySortedBy
rest_ascends [] new e s = subst (IsStrictlySortedBy nat_cmp) (sym e) s
rest_ascends (x ∷ xs) new e s = subst (IsStrictlySortedBy nat_cmp) (sym e) s.1

-- and the others are left
pub rest_left : (old new : List ℕ) (node : ℕ) → new ≡ drop 1 old → IsStrictlySortedBy nat_cmp old → IsLeastIn old node → (v : ℕ) → IsAmong v new ↔ (IsAmong v old × ¬ (node ≡ v))
unfolding IsStrictlySortedBy
rest_left [] new node e s l v = absurd l.0
rest_left (x ∷ xs) new node e s l v =
    let least : node ≤ x = l.1 x (inl refl) in
    let above : IsAmong v xs → x < v = above_all x v xs s.0 in
    let same : x ≡ node = elim l.0 [ inl f ↦ f | inr a ↦ (let b = above_all x node xs s.0 a in absurd (omega (arith, b, least))) ] in
    let P : List ℕ → Type 0 = λ q. IsAmong v q in (
      λ h. (let a = subst P e h in (inr a, λ f. (let b = above a in omega (arith, b, same, f)))),
      λ h. subst P (sym e) (elim h.0 [ inl f ↦ absurd (h.1 (sym same ∙ f)) | inr a ↦ a ]),
    )

-- removing a node that isn't there leaves all
pub all_left : (old : List ℕ) (node : ℕ) → ¬ IsAmong node old → (v : ℕ) → IsAmong v old ↔ (IsAmong v old × ¬ (node ≡ v))
all_left old node out v = (λ h. (h, λ e. out (let P : ℕ → Type 0 = λ w. IsAmong w old in subst P (sym e) h)), λ h. h.0)

pub none_left_out : (old : List ℕ) (node : ℕ) → ((v : ℕ) → ¬ IsAmong v old) → (v : ℕ) → IsAmong v old ↔ (IsAmong v old × ¬ (node ≡ v))
none_left_out old node none = all_left old node (none node)

-- a node below the least isn't there
pub below_least : (old : List ℕ) (first node : ℕ) → IsLeastIn old first → ((v : ℕ) → IsAmong v old → node ≤ v) → ¬ (first ≡ node) → ¬ IsAmong node old
below_least old first node l low ne h = let a = l.1 node h in let b = low first l.0 in ne (omega (arith, a, b))

-- the first key of a tree
not_greater : (k v : ℕ) → is_gt (nat_cmp k v) ≡ false → k ≤ v
not_greater k v e = elim (cases_lt v k) [ inl l ↦ (let P : Ordering → Type 0 = λ o. is_gt o ≡ false in absurd (let f = subst P (sym (nat_cmp_is k v Greater l)) e in cc)) | inr l ↦ l ]

pub key_least : (keys : List ℕ) (k : ℕ) → slice_get keys 0 ≡ Some k → All (IsLeBy nat_cmp k) keys → IsLeastIn keys k
key_least keys k e all = (there keys e, λ v h. not_greater k v (All-among (IsLeBy nat_cmp k) keys v all h))
  where
    there : (ks : List ℕ) → slice_get ks 0 ≡ Some k → IsAmong k ks
    there [] f = cc
    there (x ∷ xs) f = inl (let g : Some x ≡ Some k = f in cc (g))

-- what is left when the least key was removed
pub popped : (old new : List ℕ) (r : Option ℕ) (node : ℕ) → IsLeastIn old node → MatchOption r ((v : ℕ) → ¬ IsAmong v old) (λ k. IsAmong k old × ((v : ℕ) → IsAmong v old → k ≤ v))
    → MatchOption r ((v : ℕ) → ¬ IsAmong v new) (λ k. (v : ℕ) → IsAmong v new ↔ (IsAmong v old × ¬ (k ≡ v))) → (v : ℕ) → IsAmong v new ↔ (IsAmong v old × ¬ (node ≡ v))
popped old new None node l none rest = absurd (none node l.0)
popped old new (Some k) node l least rest =
    let a = least.1 node l.0 in
    let b = l.1 k least.0 in
    let same : k ≡ node = omega (arith, a, b) in
    let P : ℕ → Type 0 = λ n. (v : ℕ) → IsAmong v new ↔ (IsAmong v old × ¬ (n ≡ v)) in
    subst P same rest

-- ---- the least of both

module _ (first later : List ℕ) where
  pub none_of_both : ((v : ℕ) → ¬ IsAmong v first) → ((v : ℕ) → ¬ IsAmong v later) → (v : ℕ) → ¬ IsAmong v (first ++ later)
  none_of_both f g v h = elim (IsAmong-append_cases v first later h) [ inl a ↦ f v a | inr a ↦ g v a ]

  pub least_of_both : (a b : Option ℕ) → MatchOption a ((v : ℕ) → ¬ IsAmong v first) (IsLeastIn first) → MatchOption b ((v : ℕ) → ¬ IsAmong v later) (IsLeastIn later)
      → MatchOption (lesser_of a b) ((v : ℕ) → ¬ IsAmong v (first ++ later)) (IsLeastIn (first ++ later))
  least_of_both None None p q = none_of_both p q
  least_of_both None (Some y) p q = (IsAmong-append_right y first later q.0, λ v h. elim (IsAmong-append_cases v first later h) [ inl a ↦ absurd (p v a) | inr a ↦ q.1 v a ])
  least_of_both (Some x) None p q = (IsAmong-append_left x first later p.0, λ v h. elim (IsAmong-append_cases v first later h) [ inl a ↦ p.1 v a | inr a ↦ absurd (q v a) ])
  least_of_both (Some x) (Some y) p q = elim (cases_lt x y) [
    | inl l ↦ (let e : min x y ≡ x = omega (arith, l) in subst (IsLeastIn (first ++ later)) (sym e)
        (IsAmong-append_left x first later p.0, λ v h. elim (IsAmong-append_cases v first later h) [ inl a ↦ p.1 v a | inr a ↦ (let b = q.1 v a in omega (arith, b, l)) ]))
    | inr l ↦ (let e : min x y ≡ y = omega (arith, l) in subst (IsLeastIn (first ++ later)) (sym e)
        (IsAmong-append_right y first later q.0, λ v h. elim (IsAmong-append_cases v first later h) [ inl a ↦ (let b = p.1 v a in omega (arith, b, l)) | inr a ↦ q.1 v a ]))
  ]

-- the least node, as it was found
pub found : (first later whole : List ℕ) (a b r : Option ℕ) → first ++ later ≡ whole → r ≡ lesser_of a b → MatchOption a ((v : ℕ) → ¬ IsAmong v first) (IsLeastIn first) → MatchOption b ((v : ℕ) → ¬ IsAmong v later) (IsLeastIn later)
    → MatchOption r ((v : ℕ) → ¬ IsAmong v whole) (IsLeastIn whole)
found first later whole a b r e f p q =
    let P : List ℕ → Type 0 = λ l. MatchOption r ((v : ℕ) → ¬ IsAmong v l) (IsLeastIn l) in
    let Q : Option ℕ → Type 0 = λ o. MatchOption o ((v : ℕ) → ¬ IsAmong v (first ++ later)) (IsLeastIn (first ++ later)) in
    subst P e (subst Q (sym f) (least_of_both first later a b p q))

-- what is left of both
pub left_of_both : (first later newer rest : List ℕ) (node : ℕ) → ((v : ℕ) → IsAmong v newer ↔ (IsAmong v first × ¬ (node ≡ v))) → ((v : ℕ) → IsAmong v rest ↔ (IsAmong v later × ¬ (node ≡ v)))
    → (v : ℕ) → IsAmong v (newer ++ rest) ↔ (IsAmong v (first ++ later) × ¬ (node ≡ v))
left_of_both first later newer rest node f g v = (
  λ h. elim (IsAmong-append_cases v newer rest h) [
    | inl a ↦ (let k = (f v).0 a in (IsAmong-append_left v first later k.0, k.1))
    | inr a ↦ (let k = (g v).0 a in (IsAmong-append_right v first later k.0, k.1))
  ],
  λ h. elim (IsAmong-append_cases v first later h.0) [
    | inl a ↦ IsAmong-append_left v newer rest ((f v).1 (a, h.1))
    | inr a ↦ IsAmong-append_right v newer rest ((g v).1 (a, h.1))
  ],
)
