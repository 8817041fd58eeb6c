-- A request has at most one answer; and what a plan promises.
use Rattle.std.proofs.Common.{◌++◌, ◌<◌, ◌∷◌, ◌≡◌, ◌≤◌, ◌⊎◌}
use Rattle.plan_choice.specs.Prelude.{ap, arith, Bool, cycle_stuck, false, Files, inl, inr, IsAmong, IsAntisymmetric, IsLeast, IsTotalOrder, IsTrue, List, one_closure, one_cycle, one_least, one_start_list, Ordering, refl, subst, sym, true, ℕ, ◌∙◌}
use Rattle.plan_choice.specs.{Answers.{AreNeededConflicts, conflict, cycle, IsClearBelow, IsFirstPair, IsPlan, IsRefusal, IsUnloadedNeed, LacksRequisite, manual_start, need_fault, rank, Refusal, requisite, Stands, target_fault, WaitsForever}, Case.{Case}, SetLaws.{chosen_closed, chosen_loaded, chosen_peace, chosen_requisites, files_or_manager, SparesItself, unlike}, Sets.{AreInConflict, GoesOn, IsChosen, IsLeftAlone, IsNeeded, IsStoppedByConflict, Lacks, Precedes, Starts, TakesAlong}}

-- What a plan chooses is closed under need, but for units that are left alone, and loaded; no requisite is lacking, but
-- of what is only wanted and left alone; and no two chosen units conflict. Each unit that starts comes after all started
-- units before it.
pub record KeepsPromises {N : Type 0} (order : N → N → Ordering) (c : Case N) (starts : List N) : Type 0 where
  pub target : IsChosen order c c.target
  pub closed : (u v : N) → IsChosen order c u → GoesOn c c.target u → IsAmong v (c.needs u) → IsChosen order c v ⊎ IsLeftAlone c v
  pub loaded : (u : N) → IsChosen order c u → IsTrue (c.is_loaded u)
  pub requisites : (u v : N) → IsChosen order c u → IsNeeded c u ⊎ ¬ IsLeftAlone c u → ¬ Lacks c u v
  pub peace : (u v : N) → IsChosen order c u → IsChosen order c v → ¬ AreInConflict c u v
  pub after : (prefix : List N) (u : N) (rest : List N) → starts ≡ prefix ++ u ∷ rest → (v : N) → Starts order c v
      → Precedes c v u → IsAmong v prefix

-- By files alone there are no exceptions: what is chosen is closed under need, and its requisites are running.
pub record KeepsFilePromises {N : Type 0} (order : N → N → Ordering) (c : Case N) : Type 0 where
  pub closed : (u v : N) → IsChosen order c u → IsAmong v (c.needs u) → IsChosen order c v
  pub requisites : (u v : N) → IsChosen order c u → IsAmong v (c.requisites u) → IsTrue (c.is_running v)

module _ {N : Type 0} (order : N → N → Ordering) (c : Case N) where
  -- no cause of lesser rank holds
  pub clear_first : (k : ℕ) (other : Refusal N) → IsClearBelow order c k → Stands order c other → rank other < k → ⊥
  clear_first k (target_fault u) clear s l = unlike _ s.1 (clear.target_loaded l)
  clear_first k (need_fault u) clear s l = unlike _ s.member.1 (clear.needs_loaded l u s.member.0)
  clear_first k manual_start clear s l = unlike _ (clear.may_start l) s
  clear_first k (requisite u v) clear s l = let m = s.inner.member in clear.requisites_there l u v m.0 m.1
  clear_first k (conflict u v) clear s l = let m = s.inner.member in clear.at_peace l u v m.0 m.1 m.2
  clear_first k (cycle list) clear s l = let u = cycle_stuck order (WaitsForever order c) (Precedes c) list s in clear.none_waits l u.0 u.1

  rank_small : (r : Refusal N) → rank r < 7
  rank_small (target_fault u) = omega arith
  rank_small (need_fault u) = omega arith
  rank_small manual_start = omega arith
  rank_small (requisite u v) = omega arith
  rank_small (conflict u v) = omega arith
  rank_small (cycle list) = omega arith

  -- where there is a plan, no cause holds
  pub plan_unrefused : (stops starts : List N) → IsPlan order c stops starts → (other : Refusal N) → ¬ Stands order c other
  plan_unrefused stops starts p other s = clear_first 7 other p.clear s (rank_small other)

  -- a refusal has the first cause that holds
  pub refusal_first : (r other : Refusal N) → IsRefusal order c r → Stands order c other → rank r ≤ rank other
  refusal_first r other p s = let out : ¬ (rank other < rank r) = λ l. clear_first (rank r) other p.clear s l in omega arith

  module _ (total : IsTotalOrder order) (exact : IsAntisymmetric order) where
    one_outer : (relation : N → N → Type 0) (a b x y : N) → IsFirstPair order relation a b → IsFirstPair order relation x y → a ≡ x
    one_outer relation a b x y p q = one_least order total exact (λ u. (v : N) × relation u v) a x p.outer q.outer

    one_inner : (relation : N → N → Type 0) (a b x y : N) → IsFirstPair order relation a b → IsFirstPair order relation x y → b ≡ y
    one_inner relation a b x y p q =
        one_least order total exact (relation x) b y (subst (λ u. IsLeast order (relation u) b) (one_outer relation a b x y p q) p.inner) q.inner

    same_at : (r s : Refusal N) → rank r ≡ rank s → Stands order c r → Stands order c s → r ≡ s
    same_at (target_fault u) (target_fault v) e p q = ap target_fault (p.0 ∙ sym q.0)
    same_at (need_fault u) (need_fault v) e p q = ap need_fault (one_least order total exact (IsUnloadedNeed order c) u v p q)
    same_at manual_start manual_start e p q = refl
    same_at (requisite a b) (requisite x y) e p q =
        let f = one_outer (LacksRequisite order c) a b x y p q in
        let g = one_inner (LacksRequisite order c) a b x y p q in
        cc
    same_at (conflict a b) (conflict x y) e p q =
        let f = one_outer (AreNeededConflicts order c) a b x y p q in
        let g = one_inner (AreNeededConflicts order c) a b x y p q in
        cc
    same_at (cycle xs) (cycle ys) e p q = ap cycle (one_cycle order (WaitsForever order c) (Precedes c) total exact xs ys p q)
    same_at r s e p q = absurd (omega arith)

    -- there is at most one refusal
    pub one_refusal : (r s : Refusal N) → IsRefusal order c r → IsRefusal order c s → r ≡ s
    one_refusal r s p q =
        let a = refusal_first r s p q.stands in
        let b = refusal_first s r q p.stands in
        same_at r s (omega (arith, a, b)) p.stands q.stands

    -- there is at most one plan
    pub one_stop : (xs ys xs' ys' : List N) → IsPlan order c xs ys → IsPlan order c xs' ys' → xs ≡ xs'
    one_stop xs ys xs' ys' p q = one_closure (IsStoppedByConflict order c) (TakesAlong order c) order total xs xs' p.stopped q.stopped

    pub one_start : (xs ys xs' ys' : List N) → IsPlan order c xs ys → IsPlan order c xs' ys' → ys ≡ ys'
    one_start xs ys xs' ys' p q = one_start_list (Starts order c) (Precedes c) order total exact ys ys' p.started q.started

    pub plan_keeps : (stops starts : List N) → SparesItself c → IsPlan order c stops starts → KeepsPromises order c starts
    plan_keeps stops starts spares p = record {
      target = record { steps = 0; chain = inl refl };
      closed = chosen_closed c order;
      loaded = chosen_loaded c order (p.clear.needs_loaded (omega arith));
      requisites = chosen_requisites c order (p.clear.requisites_there (omega arith));
      peace = chosen_peace c order (p.clear.at_peace (omega arith)) total exact spares;
      after = λ prefix u rest e v s b. (p.started.each_least prefix u rest e).member.ready v s b;
    }

-- by files alone a plan keeps the promises without exceptions
pub files_keep : {N : Type 0} (order : N → N → Ordering) (c : Case N) (starts : List N) → c.profile ≡ Files
    → KeepsPromises order c starts → KeepsFilePromises order c
files_keep {N} order c starts e k = record {
  closed = λ u v h a. elim (k.closed u v h (inr (free u)) a) [ inl chosen ↦ chosen | inr left ↦ absurd (free v left) ];
  requisites = λ u v h a. stable (c.is_running v) (λ rests. k.requisites u v h (inr (free u)) (record { asked = a; rests = rests; unpulled = λ m. absurd (files_or_manager (sym e ∙ m)) }));
}
  where
    free : (u : N) → ¬ IsLeftAlone c u
    free u left = files_or_manager (sym e ∙ left.0)

    stable : (b : Bool) → ¬ (b ≡ false) → b ≡ true
    stable true h = refl
    stable false h = absurd (h refl)
