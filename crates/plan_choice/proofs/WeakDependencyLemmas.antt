-- A good unit needs nothing with which something is wrong.
use Rattle.std.proofs.Common.{◌++◌, ◌+◌, ◌<◌, ◌↔◌, ◌∷◌, ◌≡◌, ◌⊎◌}
use Rattle.plan_choice.proofs.Prelude.{[], AreBitsOf, arith, Bool, case_of, cases_eq, count_of, Files, HasIdleRequisite, IndexedCase, inl, inr, IsAmong, IsAmong-append_cases, IsAmong-append_left, IsAmong-append_right, IsAmong-push_cases, IsGood, IsIdle, IsListOf, IsMember, IsMember-within, IsSound, IsTrue, List, Listed, Needs, needs_itself, NeedsNext, NeedsSome, reached_least, subst, successors-below, sym, ℕ}
use Rattle.plan_choice.proofs.Fitting.{is_false, stable, untrue}

module _ (p : IndexedCase) where
  -- a requisite of the unit is found among the idle units
  pub idle_found : (idle : List Bool) → AreBitsOf (count_of p) (IsIdle (count_of p) (case_of p)) idle → p.profile ≡ Files → (u v : ℕ) → IsAmong v ((case_of p).requisites u) → IsMember idle v → HasIdleRequisite (case_of p) u
  idle_found idle i e u v a m = record { files = e; requisite = v; asked = a; rests = is_false ((case_of p).is_running v) ((i.sets v).0 m).1 }

  -- or none is
  pub idle_missed : (idle : List Bool) → AreBitsOf (count_of p) (IsIdle (count_of p) (case_of p)) idle → (u : ℕ) → ((v : ℕ) → IsAmong v ((case_of p).requisites u) → ¬ IsMember idle v) → ¬ HasIdleRequisite (case_of p) u
  idle_missed idle i u none h =
      none h.requisite h.asked ((i.sets h.requisite).1 (successors-below (count_of p) p.requisites u h.requisite p.valid_requisites h.asked, untrue ((case_of p).is_running h.requisite) h.rests))

  -- where no requisite is idle by files alone, they run
  pub run_unless_idle : (u : ℕ) → ¬ HasIdleRequisite (case_of p) u → p.profile ≡ Files → (v : ℕ) → IsAmong v ((case_of p).requisites u) → IsTrue ((case_of p).is_running v)
  run_unless_idle u none e v a = stable ((case_of p).is_running v) (λ out. none (record { files = e; requisite = v; asked = a; rests = is_false ((case_of p).is_running v) out }))

  pub none_idle : (u : ℕ) → IsSound (case_of p) u → ¬ HasIdleRequisite (case_of p) u
  none_idle u s h = untrue ((case_of p).is_running h.requisite) h.rests (s.requisites_run h.files h.requisite h.asked)

  stable_sound : (u : ℕ) → ¬ (¬ IsSound (case_of p) u) → IsSound (case_of p) u
  stable_sound u h = record {
    loaded = stable ((case_of p).is_loaded u) (λ out. h (λ s. out s.loaded));
    requisites_run = λ e v a. stable ((case_of p).is_running v) (λ out. h (λ s. out (s.requisites_run e v a)));
    at_peace = λ v n k. h (λ s. s.at_peace v n k);
  }

  -- a unit is good exactly where it needs only sound units
  good_sound : (u : ℕ) → IsGood (case_of p) u → (v : ℕ) → Needs (case_of p) u v → IsSound (case_of p) v
  good_sound u g v n = record {
    loaded = g.all_loaded v n;
    requisites_run = λ e w a. g.requisites_run e v w n a;
    at_peace = λ w m k. g.at_peace v w n m k;
  }

  sound_good : (u : ℕ) → ((v : ℕ) → Needs (case_of p) u v → IsSound (case_of p) v) → IsGood (case_of p) u
  sound_good u h = record {
    all_loaded = λ v n. (h v n).loaded;
    requisites_run = λ e v w n a. (h v n).requisites_run e w a;
    at_peace = λ v w n m k. (h v n).at_peace w m k;
  }

  -- a unit with an index needs only units with an index
  pub needs_within : (u v : ℕ) → u < count_of p → Needs (case_of p) u v → v < count_of p
  needs_within u v l n = reached_least (Listed (u ∷ [])) (NeedsNext (case_of p) u) (λ x. x < count_of p) (record {
    started = λ x h. elim h [ inl e ↦ subst (λ y. y < count_of p) e l | inr none ↦ absurd none ];
    stepped = λ x y h l. successors-below (count_of p) p.needs x y p.valid_needs l.1;
  }) v n

  -- the set of all units except those that need a faulty one is the set of the good ones
  module _ (faulty : List ℕ) (bad good : List Bool)
      (faults : IsListOf (count_of p) (λ u. (u < count_of p) × ¬ IsSound (case_of p) u) faulty)
      (spoilt : (v : ℕ) → IsMember bad v ↔ NeedsSome (case_of p) faulty v)
      (others : (v : ℕ) → IsMember good v ↔ ((v < count_of p) × ¬ IsMember bad v)) where
    pub good_is : (u : ℕ) → IsMember good u ↔ IsGood (case_of p) u
    good_is u = (
      λ m. (let o = (others u).0 m in
          sound_good u (λ v n. stable_sound v (λ out. o.1 ((spoilt u).1 (v, ((faults.members v).1 (needs_within u v o.0 n, out), n)))))),
      λ g. (others u).1 (
        IsMember-within p.loaded.items u (g.all_loaded u (needs_itself (case_of p) u)),
        (λ b. (let s = (spoilt u).0 b in ((faults.members s.0).0 s.1.0).1 (good_sound u g s.0 s.1.1))),
      ),
    )

-- the members of a list of those below i with P, after one more iteration
below_still : (i v : ℕ) → v < i + 1 → ¬ (i ≡ v) → v < i
below_still i v l ne = omega arith

module _ (P : ℕ → Type 0) (old new : List ℕ) (i : ℕ) (h : (v : ℕ) → IsAmong v old ↔ ((v < i) × P v)) where
  pub listed_more : P i → new ≡ old ++ i ∷ [] → (v : ℕ) → IsAmong v new ↔ ((v < i + 1) × P v)
  listed_more p e v =
      let Q : List ℕ → Type 0 = λ l. IsAmong v l ↔ ((v < i + 1) × P v) in
      subst Q (sym e) (
        λ k. elim (IsAmong-push_cases i v old k) [
          | inl a ↦ (let f = (h v).0 a in let l : v < i = f.0 in (omega arith, f.1))
          | inr same ↦ (omega arith, subst P same p)
        ],
        λ k. elim (cases_eq i v) [
          | inl same ↦ IsAmong-append_right v old (i ∷ []) (inl same)
          | inr ne ↦ IsAmong-append_left v old (i ∷ []) ((h v).1 (below_still i v k.0 ne, k.1))
        ],
      )

  pub listed_still : ¬ P i → new ≡ old → (v : ℕ) → IsAmong v new ↔ ((v < i + 1) × P v)
  listed_still out e v =
      let Q : List ℕ → Type 0 = λ l. IsAmong v l ↔ ((v < i + 1) × P v) in
      subst Q (sym e) (
        λ k. (let f = (h v).0 k in let l : v < i = f.0 in (omega arith, f.1)),
        λ k. elim (cases_eq i v) [
          | inl same ↦ absurd (out (subst P (sym same) k.1))
          | inr ne ↦ (h v).1 (below_still i v k.0 ne, k.1)
        ],
      )

-- and after the last iteration
pub listed_all : (P : ℕ → Type 0) (list : List ℕ) (i n : ℕ) → i ≡ n → ((v : ℕ) → IsAmong v list ↔ ((v < i) × P v)) → IsListOf n (λ v. (v < n) × P v) list
listed_all P list i n e h =
    let Q : ℕ → Type 0 = λ k. (v : ℕ) → IsAmong v list ↔ ((v < k) × P v) in
    let m = subst Q e h in
    record { below = λ u a. ((m u).0 a).0; members = m }

-- one list after another
pub listed_either : (P Q : ℕ → Type 0) (xs ys both : List ℕ) (n : ℕ) → both ≡ xs ++ ys → IsListOf n P xs → IsListOf n Q ys → IsListOf n (λ v. P v ⊎ Q v) both
listed_either P Q xs ys both n e a b =
    let R : List ℕ → Type 0 = λ l. IsListOf n (λ v. P v ⊎ Q v) l in
    subst R (sym e) (record {
      below = λ u h. elim (IsAmong-append_cases u xs ys h) [ inl k ↦ a.below u k | inr k ↦ b.below u k ];
      members = λ u. (
        λ h. elim (IsAmong-append_cases u xs ys h) [ inl k ↦ inl ((a.members u).0 k) | inr k ↦ inr ((b.members u).0 k) ],
        λ h. elim h [ inl k ↦ IsAmong-append_left u xs ys ((a.members u).1 k) | inr k ↦ IsAmong-append_right u xs ys ((b.members u).1 k) ],
      );
    })
