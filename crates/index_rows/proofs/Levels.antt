-- Distances, level by level.
use Rattle.std.proofs.Common.{◌++◌, ◌+◌, ◌<◌, ◌↔◌, ◌∷◌, ◌≡◌, ◌≤◌, ◌⊎◌}
use Rattle.index_rows.proofs.Prelude.{[], AllByRecursion, among_mapped, ap, append_assoc, arith, below_cmp, Bool, cases_lt, distance_cmp, false, flat_map, inl, inr, IsAmong, IsAmong-append_cases, IsAmong-append_left, IsAmong-append_right, IsChain, IsDistance, IsDistances, IsMember, IsMember-none, IsReached, IsSpread, IsStrictlySortedBy, length, length-replicate, Less, List, Listed, map, mapped_from, Named, named_by, names_all, nat_cmp, nat_cmp_total, one_distance, Ordering, ordering_then, reached_least, refl, replicate, subst, suc, sym, tied_itself, unset, zero, ℕ, ◌∙◌}
use Rattle.index_rows.proofs.Listing.{IsStrictlySortedBy-none, IsStrictlySortedBy-push}

-- one list of nodes after another
pub IsSpread-append : (a b c : List Bool) (t u v xs ys : List ℕ) → IsSpread a b t u xs → IsSpread b c u v ys → IsSpread a c t v (xs ++ ys)
IsSpread-append a b c t u v xs ys p q = record {
  units = q.units ∙ p.units;
  kept = λ n m. q.kept n (p.kept n m);
  all = λ n h. elim (IsAmong-append_cases n xs ys h) [ inl k ↦ q.kept n (p.all n k) | inr k ↦ q.all n k ];
  origin = λ n m. elim (q.origin n m) [
    | inl k ↦ elim (p.origin n k) [ inl o ↦ inl o | inr o ↦ inr (IsAmong-append_left n xs ys o) ]
    | inr k ↦ inr (IsAmong-append_right n xs ys k)
  ];
  notes_kept = λ n h. q.notes_kept n (p.notes_kept n h);
  noted = λ n m. elim (q.noted n m) [
    | inl k ↦ elim (p.noted n k) [ inl o ↦ inl o | inr o ↦ inr (q.notes_kept n o) ]
    | inr k ↦ inr k
  ];
  notes_origin = λ n h. elim (q.notes_origin n h) [
    | inl k ↦ elim (p.notes_origin n k) [ inl o ↦ inl o | inr o ↦ inr (IsAmong-append_left n xs ys o.0, o.1) ]
    | inr k ↦ inr (IsAmong-append_right n xs ys k.0, λ m. k.1 (p.kept n m))
  ];
  sum = q.sum ∙ p.sum;
}

module _ (count : ℕ) (next : ℕ → List ℕ) (sources : List ℕ) where
  abbrev Chain : ℕ → ℕ → Type 0
  Chain = IsChain (Listed sources) (Named next)

  abbrev At : ℕ → ℕ → Type 0
  At v k = IsDistance (Listed sources) (Named next) v k

  abbrev cmp : ℕ × ℕ → ℕ × ℕ → Ordering
  cmp = distance_cmp (Listed sources) (Named next) nat_cmp

  -- all nodes up to this distance are in `seen`, and those before it are listed
  pub record IsLevel (distance : ℕ) (seen : List Bool) (level : List ℕ) (pairs : List (ℕ × ℕ)) : Type 0 where
    pub units : length seen ≡ count
    pub room : distance + unset seen + length level ≤ count
    pub near : (j v : ℕ) → j ≤ distance → Chain j v → IsMember seen v
    pub seen_at : (v : ℕ) → IsMember seen v → IsAmong v level ⊎ ((j : ℕ) × IsAmong {X = ℕ × ℕ} (j, v) pairs)
    pub level_at : (v : ℕ) → IsAmong v level → At v distance
    pub pair_at : (p : ℕ × ℕ) → IsAmong p pairs → (p.0 < distance) × At p.1 p.0
    pub ascending : IsStrictlySortedBy cmp pairs

  unset-replicate : (n : ℕ) → unset (replicate n false) ≡ n
  unset-replicate zero = refl
  unset-replicate (suc n) = ap suc (unset-replicate n)

  pub IsLevel-init : (none seen : List Bool) (before level : List ℕ) (pairs : List (ℕ × ℕ)) → none ≡ replicate (count) false → before ≡ [] → pairs ≡ [] → IsSpread none seen before level sources → IsLevel 0 seen level pairs
  IsLevel-init none seen before level pairs e f g h =
      let s : IsSpread (replicate (count) false) seen [] level sources = subst (λ l. IsSpread l seen [] level sources) e (subst (λ l. IsSpread none seen l level sources) f h) in
      subst (IsLevel 0 seen level) (sym g) (record {
        units = s.units ∙ length-replicate (count) false;
        room = (let a = s.sum in let b = unset-replicate (count) in omega (arith, a, b));
        near = near s;
        seen_at = λ v m. elim (s.noted v m) [ inl k ↦ absurd (IsMember-none (count) v k) | inr k ↦ inl k ];
        level_at = λ v k. elim (s.notes_origin v k) [ inl none' ↦ absurd none' | inr o ↦ record { chain = o.0; least = λ j c. omega arith } ];
        pair_at = λ p k. absurd k;
        ascending = IsStrictlySortedBy-none cmp;
      })
    where
      near : IsSpread (replicate (count) false) seen [] level sources → (j v : ℕ) → j ≤ 0 → Chain j v → IsMember seen v
      near s zero v l c = s.all v c
      near s (suc j) v l c = absurd (omega arith)

  -- pairs of one distance come after pairs of lesser ones
  later : (distance : ℕ) (p : ℕ × ℕ) (v : ℕ) → p.0 < distance → cmp p (distance, v) ≡ Less
  later distance p v l = ap (λ o. ordering_then o (nat_cmp p.1 v)) (below_cmp p.0 distance l)

  same_distance_cmp : (distance u v : ℕ) → nat_cmp u v ≡ Less → cmp (distance, u) (distance, v) ≡ Less
  same_distance_cmp distance u v e = ap (λ o. ordering_then o (nat_cmp u v)) (tied_itself nat_cmp_total distance) ∙ e

  above_of : (u : ℕ) (vs : List ℕ) (v : ℕ) → AllByRecursion (λ w. nat_cmp u w ≡ Less) vs → IsAmong v vs → nat_cmp u v ≡ Less
  above_of u [] v a h = absurd h
  above_of u (x ∷ xs) v a (inl e) = subst (λ w. nat_cmp u w ≡ Less) e a.0
  above_of u (x ∷ xs) v a (inr h) = above_of u xs v a.1 h

  ascending_more : (distance : ℕ) (pairs : List (ℕ × ℕ)) (vs : List ℕ) → IsStrictlySortedBy cmp pairs → IsStrictlySortedBy nat_cmp vs
      → ((p : ℕ × ℕ) → IsAmong p pairs → (v : ℕ) → IsAmong v vs → cmp p (distance, v) ≡ Less) → IsStrictlySortedBy cmp (pairs ++ map (λ v. (distance, v)) vs)
  unfolding IsStrictlySortedBy
  ascending_more distance pairs [] s t below = subst (IsStrictlySortedBy cmp) (sym (append_none pairs)) s
    where
      append_none : (ps : List (ℕ × ℕ)) → ps ++ [] ≡ ps
      append_none [] = refl
      append_none (p ∷ ps) = ap (λ qs. p ∷ qs) (append_none ps)
  ascending_more distance pairs (u ∷ us) s t below =
      let one : IsStrictlySortedBy cmp (pairs ++ (distance, u) ∷ []) = IsStrictlySortedBy-push cmp pairs (distance, u) s (λ p h. below p h u (inl refl)) in
      let rest : IsStrictlySortedBy cmp ((pairs ++ (distance, u) ∷ []) ++ map (λ v. (distance, v)) us) =
      ascending_more distance (pairs ++ (distance, u) ∷ []) us one t.1 (λ p h v k. elim (IsAmong-append_cases p pairs ((distance, u) ∷ []) h) [
        | inl a ↦ below p a v (inr k)
        | inr a ↦ elim a [ inl e ↦ subst (λ q. cmp q (distance, v) ≡ Less) e (same_distance_cmp distance u v (above_of u us v t.0 k)) | inr none ↦ absurd none ]
      ]) in
      subst (IsStrictlySortedBy cmp) (append_assoc pairs ((distance, u) ∷ []) (map (λ v. (distance, v)) us)) rest

  -- the next level
  module _ (distance : ℕ) (seen : List Bool) (old level : List ℕ) (pairs : List (ℕ × ℕ)) (h : IsLevel distance seen old pairs) (order : IsStrictlySortedBy nat_cmp level)
      (same : (v : ℕ) → IsAmong v level ↔ IsAmong v old) (some : 0 < length old) where
    listed : ℕ → ℕ × ℕ
    listed v = (distance, v)

    pub IsLevel-next : (new : List Bool) (further : List ℕ) (more : List (ℕ × ℕ)) → more ≡ pairs ++ map (λ v. (distance, v)) level → IsSpread seen new [] further (flat_map next level) → IsLevel (distance + 1) new further more
    IsLevel-next new further more e s = subst (IsLevel (distance + 1) new further) (sym e) (record {
      units = s.units ∙ h.units;
      room = (let a = s.sum in let b = h.room in omega (arith, a, b, some));
      near = near;
      seen_at = λ v m. elim (s.noted v m) [
        | inl k ↦ inr (elim (h.seen_at v k) [
          | inl a ↦ (distance, IsAmong-append_right (distance, v) pairs (map (λ w. (distance, w)) level) (among_mapped (λ w. (distance, w)) v level ((same v).1 a)))
          | inr a ↦ (a.0, IsAmong-append_left (a.0, v) pairs (map (λ w. (distance, w)) level) a.1)
        ])
        | inr k ↦ inl k
      ];
      level_at = λ v k. elim (s.notes_origin v k) [ inl none ↦ absurd none | inr o ↦ nearest v o.0 o.1 ];
      pair_at = λ p k. elim (IsAmong-append_cases p pairs (map (λ w. (distance, w)) level) k) [
        | inl a ↦ (let q = h.pair_at p a in let l : p.0 < distance = q.0 in (omega arith, q.1))
        | inr a ↦ (let r = mapped_from (λ w. (distance, w)) p level a in
            subst (λ (q : ℕ × ℕ). (q.0 < distance + 1) × At q.1 q.0) r.1.1 (omega arith, h.level_at r.0 ((same r.0).0 r.1.0)))
      ];
      ascending = ascending_more distance pairs level h.ascending order (λ p k v a. later distance p v (h.pair_at p k).0);
    })
      where
        -- an edge from a member leads to a node that is now a member
        step : (u v : ℕ) → IsMember seen u → IsAmong v (next u) → IsMember new v
        step u v m a = elim (h.seen_at u m) [
          | inl k ↦ s.all v (names_all next level u v ((same u).1 k) a)
          | inr k ↦ (let q = h.pair_at (k.0, u) k.1 in
              let l : k.0 < distance = q.0 in
              s.kept v (h.near (suc k.0) v (omega arith) (u, (q.1.chain, a))))
        ]

        at_or_below : (j k : ℕ) → j ≤ k + 1 → (j ≤ k) ⊎ (j ≡ suc k)
        at_or_below j k l = elim (cases_lt k j) [ inl m ↦ inr (omega arith) | inr m ↦ inl m ]

        near : (j v : ℕ) → j ≤ distance + 1 → Chain j v → IsMember new v
        near j v l c = elim (at_or_below j distance l) [
          | inl k ↦ s.kept v (h.near j v k c)
          | inr k ↦ (let d : Chain (suc distance) v = subst (λ i. Chain i v) k c in step d.0 v (h.near distance d.0 (omega arith) d.1.0) d.1.1)
        ]

        nearest : (v : ℕ) → IsAmong v (flat_map next level) → ¬ IsMember seen v → At v (distance + 1)
        nearest v a out =
            let b = named_by next level v a in
            let up : suc distance ≡ distance + 1 = omega arith in
            subst (λ i. At v i) up (record {
              chain = (b.0, ((h.level_at b.0 ((same b.0).0 b.1.0)).chain, b.1.1));
              least = λ j c. (let far : ¬ (j ≤ distance) = λ l. out (h.near j v l c) in omega arith);
            })

  -- where no node has this distance, all are listed
  pub IsLevel-done : (distance : ℕ) (seen : List Bool) (level : List ℕ) (pairs : List (ℕ × ℕ)) → level ≡ [] → IsLevel distance seen level pairs → IsDistances (Listed sources) (Named next) nat_cmp pairs
  IsLevel-done distance seen level pairs e h = record { ascending = h.ascending; members = λ k v. (λ a. (h.pair_at (k, v) a).1, λ d. listed_at k v d) }
    where
      place : (v : ℕ) → IsMember seen v → (j : ℕ) × IsAmong {X = ℕ × ℕ} (j, v) pairs
      place v m = elim (h.seen_at v m) [ inl a ↦ absurd (subst (λ l. IsAmong v l) e a) | inr a ↦ a ]

      member : (v : ℕ) → IsReached (Listed sources) (Named next) v → IsMember seen v
      member v r = reached_least (Listed sources) (Named next) (IsMember seen) (record {
        started = λ n a. h.near 0 n (omega arith) a;
        stepped = λ n m k a. (let p = place n k in
            let q = h.pair_at (p.0, n) p.1 in
            let l : p.0 < distance = q.0 in
            h.near (suc p.0) m (omega arith) (n, (q.1.chain, a)));
      }) v r

      listed_at : (k v : ℕ) → At v k → IsAmong {X = ℕ × ℕ} (k, v) pairs
      listed_at k v d =
          let p = place v (member v (record { steps = k; chain = d.chain })) in
          let same : p.0 ≡ k = one_distance (Listed sources) (Named next) v p.0 k (h.pair_at (p.0, v) p.1).1 d in
          subst (λ i. IsAmong {X = ℕ × ℕ} (i, v) pairs) same p.1
