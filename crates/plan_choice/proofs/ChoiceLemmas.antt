-- What is pulled, what loses a conflict, and what is chosen, over bit sets and adjacency lists.
use Rattle.std.proofs.Common.{◌++◌, ◌<◌, ◌↔◌, ◌∷◌, ◌≡◌, ◌⊎◌}
use Rattle.plan_choice.proofs.Prelude.{[], AreBitsOf, below_cmp, Bool, case_of, cases_eq, cmp_below, count_of, Err, false, get_or, get_or-set_other, get_or-set_same, Global, IfOk, IndexedCase, inl, inr, IsAbsent, IsAmong, IsAmong-append_left, IsAmong-append_right, IsAmong-push_cases, IsChosen, IsDropped, IsExtra, IsGoing, IsGood, IsListOf, IsLoser, IsMember, IsPulled, IsReached, Keeps, LeadsOn, length, length-set, List, Listed, LosesTo, Manager, member_or_not, MissesRequisite, more_kinds, nat_cmp, NeedsSome, neighbors, Ok, opposite_is, Pulls, refl, Result, set, SetsBits, subst, successors-below, successors-start, successors_from, sym, true, Vec, ℕ, ◌∙◌}
use Rattle.plan_choice.proofs.{Fitting.{bits_along, is_false, untrue}, WalkLemmas.{from_target, is_or_not, no_edge, to_going}}

-- ---- bits that are set

pub SetsBits-none : (old : List Bool) (value : Bool) → SetsBits old old [] value
SetsBits-none old value = record { units = refl; there = λ v h. absurd h; others = λ v h. refl }

pub SetsBits-more : (old bits : List Bool) (nodes more : List ℕ) (x : ℕ) (value : Bool) → x < length bits → more ≡ nodes ++ x ∷ [] → SetsBits old bits nodes value → SetsBits old (set bits x value) more value
SetsBits-more old bits nodes more x value lt e h = subst (λ l. SetsBits old (set bits x value) l value) (sym e) (record {
  units = length-set bits x value ∙ h.units;
  there = λ v k. elim (cases_eq x v) [
    | inl same ↦ subst (λ w. get_or (set bits x value) w false ≡ value) same (get_or-set_same bits x value false lt)
    | inr ne ↦ elim (IsAmong-push_cases x v nodes k) [
      | inl a ↦ get_or-set_other bits x v value false (λ f. ne (sym f)) ∙ h.there v a
      | inr same ↦ absurd (ne same)
    ]
  ];
  others = λ v out. get_or-set_other bits x v value false (λ f. out (IsAmong-append_right v nodes (x ∷ []) (inl (sym f)))) ∙ h.others v (λ a. out (IsAmong-append_left v nodes (x ∷ []) a));
})

-- the bits of one list are set, and then cleared again
pub bits_of_neighbors : (none bits : List Bool) (nodes : List ℕ) → ((v : ℕ) → ¬ IsMember none v) → SetsBits none bits nodes true → (v : ℕ) → IsMember bits v ↔ IsAmong v nodes
bits_of_neighbors none bits nodes clean s v = (to, s.there v)
  where
    to : IsMember bits v → IsAmong v nodes
    to m = elim (is_or_not v nodes) [ inl a ↦ a | inr out ↦ absurd (clean v (sym (s.others v out) ∙ m)) ]

pub clean_again : (none bits after : List Bool) (nodes : List ℕ) → ((v : ℕ) → ¬ IsMember none v) → SetsBits none bits nodes true → SetsBits bits after nodes false → (v : ℕ) → ¬ IsMember after v
clean_again none bits after nodes clean s t v m = by (member_or_not bits v)
  where
    by : IsMember bits v ⊎ ¬ IsMember bits v → ⊥
    by (inl k) = (let a = (bits_of_neighbors none bits nodes clean s v).0 k in let e = t.there v a in unlike (get_or after v false) e m)
      where
        unlike : (b : Bool) → b ≡ false → b ≡ true → ⊥
        unlike b f g = cc
    by (inr out) = out (sym (t.others v (λ a. out (s.there v a))) ∙ m)

module _ (p : IndexedCase) where
  -- ---- pulled

  -- what is pulled is reached over needs, and over wants within what is good
  pub pulled_is : (good going : List Bool) → AreBitsOf (count_of p) (IsGood (case_of p)) good → AreBitsOf (count_of p) (IsGoing (count_of p) (case_of p) (p.target ∷ [])) going
      → (bits : List Bool) → AreBitsOf (count_of p) (IsReached (Listed (p.target ∷ [])) (LeadsOn p.needs p.wants good going)) bits → AreBitsOf (count_of p) (IsPulled (case_of p)) bits
  pulled_is good going g o bits r =
      bits_along (count_of p) (Listed (p.target ∷ [])) (Listed (p.target ∷ [])) (LeadsOn p.needs p.wants good going) (Pulls (case_of p)) bits r (λ u. (λ h. h, λ h. h))
      (λ u v. (
        λ l. (from_target p u ((o.sets u).0 l.goes_on), elim l.edge [ inl a ↦ inl a | inr k ↦ inr (k.step, (g.sets v).0 k.member) ]),
        λ h. elim h.1 [
          | inl a ↦ record { goes_on = (o.sets u).1 (to_going p u (successors-start (count_of p) p.needs u v p.valid_needs a) h.0); edge = inl a }
          | inr a ↦ record { goes_on = (o.sets u).1 (to_going p u (successors-start (count_of p) p.wants u v p.valid_wants a.0) h.0); edge = inr (record { step = a.0; member = (g.sets v).1 a.1 }) }
        ],
      ))

  -- ---- lacked requisites

  -- an extra unit that doesn't run misses a requisite exactly where one is absent
  pub missing_is : (extra resting absent : List Bool) (list : List ℕ) → p.profile ≡ Manager → AreBitsOf (count_of p) (IsExtra (case_of p)) extra
      → ((u : ℕ) → IsMember resting u ↔ (IsMember extra u × ¬ IsMember p.running.items u)) → AreBitsOf (count_of p) (IsAbsent (count_of p) (case_of p)) absent
      → IsListOf (count_of p) (λ u. IsMember resting u × ((v : ℕ) × (IsAmong v (successors_from p.requisites u) × IsMember absent v))) list → IsListOf (count_of p) (MissesRequisite nat_cmp (case_of p)) list
  missing_is extra resting absent list e x r o l = record {
    below = l.below;
    members = λ u. (
      λ h. (let k = (l.members u).0 h in
          let a = (o.sets k.1.0).0 k.1.1.1 in
          record {
            manager = e;
            extra = (x.sets u).0 ((r u).0 k.0).0;
            rests = is_false ((case_of p).is_running u) ((r u).0 k.0).1;
            requisite = k.1.0;
            lacks = record { asked = k.1.1.0; rests = a.rests; unpulled = a.unpulled };
          }),
      λ m. (l.members u).1 (
        (r u).1 ((x.sets u).1 m.extra, untrue ((case_of p).is_running u) m.rests),
        (
          m.requisite,
          (
            m.lacks.asked,
            (o.sets m.requisite).1 (record {
              within = successors-below (count_of p) p.requisites u m.requisite p.valid_requisites m.lacks.asked;
              rests = m.lacks.rests;
              unpulled = m.lacks.unpulled;
            }),
          ),
        ),
      ),
    );
  }

  -- ---- units that lose a conflict

  abbrev pub LosesConflict : ℕ → Type 0
  LosesConflict u = (v : ℕ) × LosesTo nat_cmp (case_of p) u v

  -- a unit loses exactly where it is extra, and another extra unit names it and either isn't named by it or is less
  pub loser_is : (extra named : List Bool) (u : ℕ) → AreBitsOf (count_of p) (IsExtra (case_of p)) extra
      → ((v : ℕ) → IsMember named v ↔ IsAmong v (neighbors p.conflicts.now u))
      → IsMember extra u → (v : ℕ) × (IsAmong v (neighbors p.conflicted_by.now u) × IsMember extra v × (IsMember named v → v < u)) → LosesConflict u
  loser_is extra named u e m x l = (
    l.0,
    record {
      extra = (e.sets u).0 x;
      other_extra = (e.sets l.0).0 l.1.1;
      is_named = (opposite_is (neighbors p.conflicts.now) (neighbors p.conflicted_by.now) p.conflicts_transposed u l.0).0 l.1.0;
      greater = λ a. below_cmp l.0 u (l.1.2 ((m l.0).1 a));
    },
  )

  pub loser_was : (extra named : List Bool) (u : ℕ) → AreBitsOf (count_of p) (IsExtra (case_of p)) extra
      → ((v : ℕ) → IsMember named v ↔ IsAmong v (neighbors p.conflicts.now u))
      → LosesConflict u → IsMember extra u × ((v : ℕ) × (IsAmong v (neighbors p.conflicted_by.now u) × IsMember extra v × (IsMember named v → v < u)))
  loser_was extra named u e m l =
      ((e.sets u).1 l.1.extra, (l.0, ((opposite_is (neighbors p.conflicts.now) (neighbors p.conflicted_by.now) p.conflicts_transposed u l.0).1 l.1.is_named, (e.sets l.0).1 l.1.other_extra, λ k. cmp_below l.0 u (l.1.greater ((m l.0).0 k)))))

  -- ---- remaining and chosen

  -- pulled, and not dropped
  abbrev pub Remains : ℕ → Type 0
  Remains u = IsPulled (case_of p) u × ¬ IsDropped nat_cmp (case_of p) u

  module _ (pulled fallen : List Bool) (losers : List ℕ)
      (is_pulled : AreBitsOf (count_of p) (IsPulled (case_of p)) pulled) (lost : IsListOf (count_of p) (IsLoser nat_cmp (case_of p)) losers)
      (fell : (v : ℕ) → IsMember fallen v ↔ NeedsSome (case_of p) losers v) where
    dropped_fell : (v : ℕ) → IsDropped nat_cmp (case_of p) v → IsMember fallen v
    dropped_fell v d = (fell v).1 (d.loser, ((lost.members d.loser).1 d.lost, d.needed))

    fell_dropped : (v : ℕ) → IsMember pulled v → IsMember fallen v → IsDropped nat_cmp (case_of p) v
    fell_dropped v m f =
        let s = (fell v).0 f in
        record { pulled = (is_pulled.sets v).0 m; loser = s.0; lost = (lost.members s.0).0 s.1.0; needed = s.1.1 }

    pub remaining_is : (bits : List Bool) → AreBitsOf (count_of p) (λ v. IsMember pulled v × ¬ IsMember fallen v) bits → AreBitsOf (count_of p) Remains bits
    remaining_is bits r = record {
      units = r.units;
      sets = λ v. (
        λ m. (let l = (r.sets v).0 m in ((is_pulled.sets v).0 l.0, λ d. l.1 (dropped_fell v d))),
        λ h. (let m = (is_pulled.sets v).1 h.0 in (r.sets v).1 (m, λ f. h.1 (fell_dropped v m f))),
      );
    }

  pub chosen_is : (none : List (List (List ℕ))) (rest going : List Bool) → none ≡ [] → AreBitsOf (count_of p) Remains rest → AreBitsOf (count_of p) (IsGoing (count_of p) (case_of p) (p.target ∷ [])) going
      → (bits : List Bool) → AreBitsOf (count_of p) (IsReached (Listed (p.target ∷ [])) (LeadsOn none (p.needs ++ p.wants) rest going)) bits → AreBitsOf (count_of p) (IsChosen nat_cmp (case_of p)) bits
  chosen_is none rest going empty remaining o bits r =
      bits_along (count_of p) (Listed (p.target ∷ [])) (Listed (p.target ∷ [])) (LeadsOn none (p.needs ++ p.wants) rest going) (Keeps nat_cmp (case_of p)) bits r (λ u. (λ h. h, λ h. h))
      (λ u v. (
        λ l. elim l.edge [
          | inl a ↦ absurd (no_edge p none empty u v a)
          | inr k ↦ (let m = (remaining.sets v).0 k.member in record { goes_on = from_target p u ((o.sets u).0 l.goes_on); asked = (more_kinds p.needs p.wants u v).0 k.step; pulled = m.0; stays = m.1 })
        ],
        λ h. record {
          goes_on = (o.sets u).1 (to_going p u (elim h.asked [ inl a ↦ successors-start (count_of p) p.needs u v p.valid_needs a | inr a ↦ successors-start (count_of p) p.wants u v p.valid_wants a ]) h.goes_on);
          edge = inr (record { step = (more_kinds p.needs p.wants u v).1 h.asked; member = (remaining.sets v).1 (h.pulled, h.stays) });
        },
      ))

-- a bit set that a call returns, as the set of something else
module _ {E : Type 0} (count n : ℕ) (set other : ℕ → Type 0) (same : n ≡ count) (so : (bits : List Bool) → AreBitsOf count set bits → AreBitsOf count other bits) where
  pub bits_are : (r : Result (Vec Bool Global) E) → IfOk r (λ bits. length bits.items ≡ n) → IfOk r (λ bits. (v : ℕ) → IsMember bits.items v ↔ set v)
      → IfOk r (λ bits. AreBitsOf count other bits.items)
  bits_are (Err e) units sets = tt
  bits_are (Ok bits) units sets = so bits.items (record { units = units ∙ same; sets = sets })
