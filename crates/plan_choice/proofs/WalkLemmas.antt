-- Walks that go on from none that is left alone, over bit sets and adjacency lists.
use Rattle.std.proofs.Common.{◌<◌, ◌↔◌, ◌∷◌, ◌≡◌, ◌⊎◌}
use Rattle.plan_choice.proofs.Prelude.{[], All, All-head, All-tail, AreBitsOf, Bool, case_of, cases_eq, count_of, GoesOn, IndexedCase, inl, inr, IsAmong, IsFree, IsGoing, IsMember, IsNeeded, IsReached, LeadsOn, List, Listed, needs_all, needs_itself, needs_next, NeedsNext, NeedsSome, opposite_is, reached_closed, reached_least, SetsBits, subst, successors-start, successors_from, sym, true, ℕ, ◌∙◌}
use Rattle.plan_choice.proofs.Fitting.{bits_along}

-- what holds at each position holds of each member
pub all_among : (P : ℕ → Type 0) (xs : List ℕ) → All P xs → (x : ℕ) → IsAmong x xs → P x
all_among P [] a x h = absurd h
all_among P (y ∷ ys) a x (inl e) = subst P e (All-head P y ys a)
all_among P (y ∷ ys) a x (inr h) = all_among P ys (All-tail P y ys a) x h

pub is_or_not : (v : ℕ) (xs : List ℕ) → IsAmong v xs ⊎ ¬ IsAmong v xs
is_or_not v [] = inr (λ h. h)
is_or_not v (x ∷ xs) = elim (cases_eq x v) [
  | inl e ↦ inl (inl e)
  | inr ne ↦ elim (is_or_not v xs) [ inl a ↦ inl (inr a) | inr out ↦ inr (λ h. elim h [ inl e ↦ ne e | inr a ↦ out a ]) ]
]

-- a bit set of the same members
pub bits_same : (count : ℕ) (P Q : ℕ → Type 0) → ((u : ℕ) → P u ↔ Q u) → (bits : List Bool) → AreBitsOf count P bits → AreBitsOf count Q bits
bits_same count P Q same bits b = record { units = b.units; sets = λ u. (λ m. (same u).0 ((b.sets u).0 m), λ h. (b.sets u).1 ((same u).1 h)) }

module _ (p : IndexedCase) where
  -- these units are added to those that aren't left alone
  pub going_is : (units : List ℕ) → All (λ v. v < count_of p) units → (free bits : List Bool) → AreBitsOf (count_of p) (IsFree (count_of p) (case_of p)) free → SetsBits free bits units true
      → AreBitsOf (count_of p) (IsGoing (count_of p) (case_of p) units) bits
  going_is units below free bits f s = record { units = s.units ∙ f.units; sets = λ u. (to u, from u) }
    where
      to : (u : ℕ) → IsMember bits u → IsGoing (count_of p) (case_of p) units u
      to u m = elim (is_or_not u units) [
        | inl a ↦ (all_among (λ v. v < count_of p) units below u a, inl a)
        | inr out ↦ (let k = (f.sets u).0 (sym (s.others u out) ∙ m) in (k.0, inr k.1))
      ]

      from : (u : ℕ) → IsGoing (count_of p) (case_of p) units u → IsMember bits u
      from u g = elim (is_or_not u units) [
        | inl a ↦ s.there u a
        | inr out ↦ s.others u out ∙ (f.sets u).1 (g.0, elim g.1 [ inl a ↦ absurd (out a) | inr free ↦ free ])
      ]

  -- from the target the walk goes on
  pub from_target : (u : ℕ) → IsGoing (count_of p) (case_of p) (p.target ∷ []) u → GoesOn (case_of p) p.target u
  from_target u g = elim g.1 [ inl a ↦ elim a [ inl e ↦ inl e | inr none ↦ absurd none ] | inr free ↦ inr free ]

  pub to_going : (u : ℕ) → u < count_of p → GoesOn (case_of p) p.target u → IsGoing (count_of p) (case_of p) (p.target ∷ []) u
  to_going u l g = (l, elim g [ inl e ↦ inl (inl e) | inr free ↦ inr free ])

  module _ (none : List (List (List ℕ))) (empty : none ≡ []) where
    pub no_edge : (u v : ℕ) → ¬ IsAmong v (successors_from none u)
    no_edge u v h = let P : List (List (List ℕ)) → Type 0 = λ ks. IsAmong v (successors_from ks u) in absurd (subst P empty h)

    -- what the target needs is reached over needs alone
    pub needed_is : (inside going : List Bool) → AreBitsOf (count_of p) (IsGoing (count_of p) (case_of p) (p.target ∷ [])) going
        → (bits : List Bool) → AreBitsOf (count_of p) (IsReached (Listed (p.target ∷ [])) (LeadsOn p.needs none inside going)) bits → AreBitsOf (count_of p) (IsNeeded (case_of p)) bits
    needed_is inside going g bits r =
        bits_along (count_of p) (Listed (p.target ∷ [])) (Listed (p.target ∷ [])) (LeadsOn p.needs none inside going) (NeedsNext (case_of p) p.target) bits r (λ u. (λ h. h, λ h. h))
        (λ u v. (
          λ l. (from_target u ((g.sets u).0 l.goes_on), elim l.edge [ inl a ↦ a | inr k ↦ absurd (no_edge u v k.step) ]),
          λ h. record { goes_on = (g.sets u).1 (to_going u (successors-start (count_of p) p.needs u v p.valid_needs h.1) h.0); edge = inl h.1 },
        ))

    -- what needs one of these units is reached from them backwards
    module _ (units : List ℕ) (below : All (λ v. v < count_of p) units) (inside going : List Bool) (g : AreBitsOf (count_of p) (IsGoing (count_of p) (case_of p) units) going) where
      abbrev Back : ℕ → ℕ → Type 0
      Back = LeadsOn p.needed_by none inside going

      abbrev IsBehind : ℕ → Type 0
      IsBehind = IsReached (Listed units) Back

      back_edge : (y x : ℕ) → Back y x → IsAmong y ((case_of p).needs x)
      back_edge y x l = elim l.edge [
        | inl a ↦ (opposite_is (successors_from p.needs) (successors_from p.needed_by) p.needs_transposed y x).0 a
        | inr k ↦ absurd (no_edge y x k.step)
      ]

      behind_needs : (u : ℕ) → IsBehind u → NeedsSome (case_of p) units u
      behind_needs u r = reached_least (Listed units) Back (NeedsSome (case_of p) units) (record {
        started = λ x h. (x, (h, needs_itself (case_of p) x));
        stepped = λ y x h l. (let n = needs_next (case_of p) x y (back_edge y x l) in
            elim ((g.sets y).0 l.goes_on).1 [ inl a ↦ (y, (a, n)) | inr free ↦ (h.0, (h.1.0, needs_all (case_of p) x y h.0 n (inr free) h.1.1)) ]);
      }) u r

      -- where the walk from u comes to a unit from which the walk backwards goes on, u is reached backwards
      needs_behind : (u : ℕ) → NeedsSome (case_of p) units u → IsBehind u
      needs_behind u s = reached_least (Listed (u ∷ [])) (NeedsNext (case_of p) u) (λ y. IsMember going y → IsBehind y → IsBehind u) (record {
        started = λ y h m q. elim h [ inl e ↦ subst IsBehind (sym e) q | inr none ↦ absurd none ];
        stepped = λ y z h l m q. (let a = (opposite_is (successors_from p.needs) (successors_from p.needed_by) p.needs_transposed z y).1 l.1 in
            let back = (reached_closed (Listed units) Back).stepped z y q (record { goes_on = m; edge = inl a }) in
            elim l.0 [ inl e ↦ subst IsBehind (sym e) back | inr free ↦ h ((g.sets y).1 (successors-start (count_of p) p.needs y z p.valid_needs l.1, inr free)) back ]);
      }) s.0 s.1.1 ((g.sets s.0).1 (all_among (λ v. v < count_of p) units below s.0 s.1.0, inl s.1.0)) (record { steps = 0; chain = s.1.0 })

      pub needing_is : (bits : List Bool) → AreBitsOf (count_of p) IsBehind bits → AreBitsOf (count_of p) (NeedsSome (case_of p) units) bits
      needing_is bits r = bits_same (count_of p) IsBehind (NeedsSome (case_of p) units) (λ u. (behind_needs u, needs_behind u)) bits r
