-- What a plan chooses is closed under need and loaded, lacks no requisite, and no two chosen units conflict, with the
-- exceptions for units that are left alone.
use Rattle.std.proofs.Common.{◌∷◌, ◌≡◌, ◌⊎◌}
use Rattle.plan_choice.specs.Prelude.{[], Bool, Equal, false, Files, Greater, inl, inr, IsAmong, IsAntisymmetric, IsChain, IsTotalOrder, IsTrue, Less, Listed, Manager, Ordering, Profile, reached_closed, reached_least, refl, subst, suc, sym, true, turned, zero, ℕ}
use Rattle.plan_choice.specs.{Case.{Case}, Sets.{AreInConflict, GoesOn, IsChosen, IsDropped, IsExtra, IsGood, IsLeftAlone, IsLoser, IsNeeded, IsPulled, Keeps, Lacks, LosesTo, Needs, NeedsNext, Pulls}}

-- no unit's own settings conflict with the unit itself
abbrev pub SparesItself : {N : Type 0} → Case N → Type 0
SparesItself {N} c = (u : N) → ¬ IsAmong u (c.conflicts u)

-- the two profiles differ
pub files_or_manager : ¬ (Files ≡ Manager)
files_or_manager e = cc

pub unlike : (b : Bool) → b ≡ false → ¬ (b ≡ true)
unlike b f t = cc

pub is_false : (b : Bool) → ¬ (b ≡ true) → b ≡ false
is_false true h = absurd (h refl)
is_false false h = refl

module _ {N : Type 0} (c : Case N) where
  -- a unit is left alone, or it isn't
  pub left_or_not : (u : N) → IsLeftAlone c u ⊎ ¬ IsLeftAlone c u
  left_or_not u = by c.profile (c.is_running u)
    where
      by : (p : Profile) (b : Bool) → ((p ≡ Manager) × IsTrue b) ⊎ ¬ ((p ≡ Manager) × IsTrue b)
      by Files b = inr (λ h. files_or_manager h.0)
      by Manager true = inl (refl, refl)
      by Manager false = inr (λ h. absurd (cc (h.1)))

  -- what began at u goes on beyond v as what begins at v does, if it goes on from v
  pub goes_beyond : (u v w : N) → GoesOn c u v → GoesOn c v w → GoesOn c u w
  goes_beyond u v w g (inl e) = subst (GoesOn c u) e g
  goes_beyond u v w g (inr free) = inr free

  pub needs_itself : (u : N) → Needs c u u
  needs_itself u = record { steps = 0; chain = inl refl }

  pub needs_more : (u v w : N) → Needs c u v → GoesOn c u v → IsAmong w (c.needs v) → Needs c u w
  needs_more u v w n g a = (reached_closed (Listed (u ∷ [])) (NeedsNext c u)).stepped v w n (g, a)

  -- u needs what it asks for itself
  pub needs_next : (u v : N) → IsAmong v (c.needs u) → Needs c u v
  needs_next u v a = needs_more u u v (needs_itself u) (inl refl) a

  -- u needs all that the units need that it needs and from which it goes on
  pub needs_all : (u v w : N) → Needs c u v → GoesOn c u v → Needs c v w → Needs c u w
  needs_all u v w n g m = reached_least (Listed (v ∷ [])) (NeedsNext c v) (Needs c u) (record {
    started = λ x h. elim h [ inl e ↦ subst (Needs c u) e n | inr none ↦ absurd none ];
    stepped = λ x y r l. needs_more u x y r (goes_beyond u v x g l.0) l.1;
  }) w m

  pub flip : (u v : N) → AreInConflict c u v → AreInConflict c v u
  flip u v (inl h) = inr h
  flip u v (inr h) = inl h

  pub target_pulled : IsPulled c c.target
  target_pulled = record { steps = 0; chain = inl refl }

  pub pulled_more : (u v : N) → IsPulled c u → Pulls c u v → IsPulled c v
  pulled_more u v p l = (reached_closed (Listed (c.target ∷ [])) (Pulls c)).stepped u v p l

  -- pulled because the target or a good unit needs it
  abbrev HasReason : N → Type 0
  HasReason v = IsNeeded c v ⊎ ((y : N) × (IsGood c y × Needs c y v))

  pub pulled_reason : (v : N) → IsPulled c v → IsNeeded c v ⊎ ((y : N) × (IsGood c y × Needs c y v))
  pulled_reason v p = reached_least (Listed (c.target ∷ [])) (Pulls c) HasReason (record { started = λ n h. inl (record { steps = 0; chain = h }); stepped = step }) v p
    where
      step : (u w : N) → HasReason u → Pulls c u w → HasReason w
      step u w h (g, inr a) = inr (w, (a.1, needs_itself w))
      step u w (inl n) (g, inl a) = inl (needs_more c.target u w n g a)
      step u w (inr y) (inl e, inl a) = inl (needs_next c.target w (subst (λ x. IsAmong w (c.needs x)) (sym e) a))
      step u w (inr y) (inr free, inl a) = inr (y.0, (y.1.0, needs_more y.0 u w y.1.1 (inr free) a))

  module _ (order : N → N → Ordering) where
    -- what loses is extra
    pub loser_extra : (u : N) → IsLoser order c u → IsExtra c u
    loser_extra u (inl l) = l.1.extra
    loser_extra u (inr m) = m.extra

    -- the target is needed, so it never loses, and neither does what it needs
    pub chosen_kept : (v : N) → IsChosen order c v → IsPulled c v × ¬ IsDropped order c v
    chosen_kept v h = by h.steps v h.chain
      where
        by : (k : ℕ) (u : N) → IsChain (Listed (c.target ∷ [])) (Keeps order c) k u → IsPulled c u × ¬ IsDropped order c u
        by zero u (inl e) = subst (λ x. IsPulled c x × ¬ IsDropped order c x) e (target_pulled, λ d. (loser_extra d.loser d.lost).beyond d.needed)
        by zero u (inr none) = absurd none
        by (suc k) u r = (r.1.1.pulled, r.1.1.stays)

    pub chosen_more : (u v : N) → IsChosen order c u → Keeps order c u v → IsChosen order c v
    chosen_more u v h l = (reached_closed (Listed (c.target ∷ [])) (Keeps order c)).stepped u v h l

    -- what is chosen is closed under need, but for what is left alone
    pub chosen_closed : (u v : N) → IsChosen order c u → GoesOn c c.target u → IsAmong v (c.needs u) → IsChosen order c v ⊎ IsLeftAlone c v
    chosen_closed u v h g a = elim (left_or_not v) [
      | inl left ↦ inr left
      | inr free ↦ (let k = chosen_kept u h in
          inl (chosen_more u v h (record {
            goes_on = g;
            asked = inl a;
            pulled = pulled_more u v k.0 (g, inl a);
            stays = λ d. k.1 (record { pulled = k.0; loser = d.loser; lost = d.lost; needed = needs_all u v d.loser (needs_next u v a) (inr free) d.needed });
          })))
    ]

    pub chosen_loaded : ((v : N) → IsNeeded c v → IsTrue (c.is_loaded v)) → (v : N) → IsChosen order c v → IsTrue (c.is_loaded v)
    chosen_loaded loaded v h = elim (pulled_reason v (chosen_kept v h).0) [ inl n ↦ loaded v n | inr g ↦ g.1.0.all_loaded v g.1.1 ]

    -- no requisite is lacking, but of what is only wanted and left alone
    pub chosen_requisites : ((u v : N) → IsNeeded c u → ¬ Lacks c u v) → (u v : N) → IsChosen order c u
        → IsNeeded c u ⊎ ¬ IsLeftAlone c u → ¬ Lacks c u v
    chosen_requisites there u v h (inl n) l = there u v n l
    chosen_requisites there u v h (inr free) l = by c.profile refl
      where
        k : IsPulled c u × ¬ IsDropped order c u
        k = chosen_kept u h

        by : (p : Profile) → c.profile ≡ p → ⊥
        by Files e = elim (pulled_reason u k.0) [ inl n ↦ there u v n l | inr g ↦ unlike (c.is_running v) l.rests (g.1.0.requisites_run e u v g.1.1 l.asked) ]
        by Manager e = k.1 (record {
          pulled = k.0;
          loser = u;
          lost = inr (record {
            manager = e;
            extra = record { pulled = k.0; beyond = λ n. there u v n l };
            rests = is_false (c.is_running u) (λ r. free (e, r));
            requisite = v;
            lacks = l;
          });
          needed = needs_itself u;
        })

    module _ (none : (u v : N) → IsNeeded c u → IsNeeded c v → ¬ AreInConflict c u v) where
      -- nothing pulled conflicts with what the target needs
      needed_peace : (u v : N) → IsNeeded c u → IsPulled c v → ¬ AreInConflict c u v
      needed_peace u v n p k = elim (pulled_reason v p) [ inl m ↦ none u v n m k | inr g ↦ g.1.0.at_peace v u g.1.1 n (flip u v k) ]

      module _ (total : IsTotalOrder order) (exact : IsAntisymmetric order) (spares : SparesItself c) where
        -- where an extra unit names another one, one of the two loses: the named one, unless it names the other and is
        -- less
        one_loses : (u v : N) → IsExtra c u → IsExtra c v → IsAmong v (c.conflicts u) → ¬ LosesTo order c u v → ¬ LosesTo order c v u → ⊥
        one_loses u v eu ev a out off = by (order u v) refl
          where
            by : (r : Ordering) → order u v ≡ r → ⊥
            by Less e = off (record { extra = ev; other_extra = eu; is_named = a; greater = λ b. e })
            by Equal e = spares u (subst (λ x. IsAmong x (c.conflicts u)) (sym (exact u v e)) a)
            by Greater e = off (record {
              extra = ev;
              other_extra = eu;
              is_named = a;
              greater = λ b. absurd (out (record { extra = eu; other_extra = ev; is_named = b; greater = λ d. turned order total u v Greater e }));
            })

        -- no two chosen units conflict
        pub chosen_peace : (u v : N) → IsChosen order c u → IsChosen order c v → ¬ AreInConflict c u v
        chosen_peace u v hu hv k =
            let ku = chosen_kept u hu in
            let kv = chosen_kept v hv in
            let eu : IsExtra c u = record { pulled = ku.0; beyond = λ n. needed_peace u v n kv.0 k } in
            let ev : IsExtra c v = record { pulled = kv.0; beyond = λ n. needed_peace v u n ku.0 (flip u v k) } in
            let out : ¬ LosesTo order c u v = λ l. ku.1 (record { pulled = ku.0; loser = u; lost = inl (v, l); needed = needs_itself u }) in
            let off : ¬ LosesTo order c v u = λ l. kv.1 (record { pulled = kv.0; loser = v; lost = inl (u, l); needed = needs_itself v }) in
            elim k [ inl a ↦ one_loses u v eu ev a out off | inr a ↦ one_loses v u ev eu a off out ]
