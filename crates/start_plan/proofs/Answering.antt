-- Plans and refusals over indices, given by name.
use Rattle.std.proofs.Common.{◌++◌, ◌<◌, ◌∷◌, ◌≡◌}
use Rattle.start_plan.proofs.Prelude.{[], All, among_from_contains, ap, AsksTemplate, Bad, Case, case_of, Conflict, conflict, Contains-get_or, count_of, Cycle, cycle, DepKind, EdgeMap, get_or, inl, inr, is_loaded, IsAmong, IsBlockedAlong, IsChain, IsCycle, IsFault, IsFaultOf, IsIndexing, IsKnown, IsNamedCase, IsNeeded, IsPlan, IsRefusal, IsRefusalOf, IsReturnable, IsReturnedBy, IsStoppedByConflict, IsUnitIn, List, Listed, LoadMap, manual_start, ManualStart, Masked, Memory, Name, name_at, name_cmp, named_by, named_refusal, names_in, nat_cmp, nat_list_cmp_total, need_fault, needing, NeedsNext, NotFound, Precedes, Refusal, refusal_is_named, Request, requisite, Starts, starts_named, status_in, stuck_chosen, subst, suc, sym, TakesAlong, target_fault, Template, unit_in, WaitsForever, Why, zero, ℕ, ◌∙◌}
use Rattle.start_plan.proofs.Casing.{main_is}
use Rattle.start_plan.specs.declared.requests.Refusal.TheVariants.{Requisite}

-- what holds of all members of a list holds at each position
all_from : {X : Type 0} (P : X → Type 0) (xs : List X) → ((x : X) → IsAmong x xs → P x) → All P xs
all_from P xs h = λ k d l. h (get_or xs k d) (among_from_contains _ xs (Contains-get_or xs k d l))

-- a list, split before one of its members
record IsCut {X : Type 0} (x : X) (xs : List X) : Type 0 where
  prefix : List X
  rest : List X
  is : xs ≡ prefix ++ x ∷ rest

cut_at : {X : Type 0} (x : X) (xs : List X) → IsAmong x xs → IsCut x xs
cut_at x [] h = absurd h
cut_at {X} x (y ∷ ys) (inl e) = record { prefix = []; rest = ys; is = ap (λ (z : X). z ∷ ys) e }
cut_at {X} x (y ∷ ys) (inr h) = let c = cut_at x ys h in record { prefix = y ∷ c.prefix; rest = c.rest; is = ap (λ (zs : List X). y ∷ zs) c.is }

-- all nodes of a ring are stuck
along_stuck : (stuck : ℕ → Type 0) (before : ℕ → ℕ → Type 0) (u : ℕ) (ws : List ℕ) (v : ℕ) → IsBlockedAlong nat_cmp stuck before u ws v → (x : ℕ) → IsAmong x (u ∷ ws) → stuck x
along_stuck stuck before u [] v b x (inl e) = subst stuck e b.member.0
along_stuck stuck before u [] v b x (inr h) = absurd h
along_stuck stuck before u (w ∷ ws) v b x (inl e) = subst stuck e b.0.member.0
along_stuck stuck before u (w ∷ ws) v b x (inr h) = along_stuck stuck before w ws v b.1 x h

ring_stuck : (stuck : ℕ → Type 0) (before : ℕ → ℕ → Type 0) (list : List ℕ) → IsCycle nat_cmp stuck before list → (x : ℕ) → IsAmong x list → stuck x
ring_stuck stuck before [] c x h = absurd h
ring_stuck stuck before (first ∷ rest) c x h = along_stuck stuck before first rest first c.round x h

module _ (load : LoadMap) (edges : EdgeMap) (request : Request) (order : IsIndexing (count_of load) (name_at load) name_cmp) (c : Case ℕ)
    (h : IsNamedCase (count_of load) (name_at load) c (case_of load edges request)) where
  starts_within : (i : ℕ) → Starts nat_cmp c i → i < count_of load
  starts_within = (starts_named (count_of load) (name_at load) name_cmp nat_list_cmp_total order c (case_of load edges request) h).within

  stopped_within : (k i : ℕ) → IsChain (IsStoppedByConflict nat_cmp c) (TakesAlong nat_cmp c) k i → i < count_of load
  stopped_within zero i o = h.running.within i o.outside.runs
  stopped_within (suc k) i o = h.running.within i o.1.1.outside.runs

  pub stops_below : (stops starts : List ℕ) → IsPlan nat_cmp c stops starts → All (λ i. i < count_of load) stops
  stops_below stops starts p = all_from (λ i. i < count_of load) stops (λ i a. (let r = (p.stopped.members i).0 a in stopped_within r.steps i r.chain))

  pub starts_below : (stops starts : List ℕ) → IsPlan nat_cmp c stops starts → All (λ i. i < count_of load) starts
  starts_below stops starts p =
      all_from (λ i. i < count_of load) starts
      (λ i a. (let cut = cut_at i starts a in starts_within i (p.started.each_least cut.prefix i cut.rest cut.is).member.is_chosen))

  cycle_below : (list : List ℕ) → IsCycle nat_cmp (WaitsForever nat_cmp c) (Precedes c) list → All (λ i. i < count_of load) list
  cycle_below list s =
      all_from (λ i. i < count_of load) list
      (λ i a. starts_within i (stuck_chosen (Starts nat_cmp c) (Precedes c) i (ring_stuck (WaitsForever nat_cmp c) (Precedes c) list s i a)))

  chain_within : (k i : ℕ) → IsChain (Listed (c.target ∷ [])) (NeedsNext c c.target) k i → i < count_of load
  chain_within zero i (inl e) = let P : ℕ → Type 0 = λ j. j < count_of load in subst P e h.below
  chain_within zero i (inr a) = absurd a
  chain_within (suc k) i n = (h.needs n.0 (chain_within k n.0 n.1.0)).within i n.1.1.1

  needs_within : (i : ℕ) → IsNeeded c i → i < count_of load
  needs_within i n = chain_within n.steps i n.chain

  by_name : (why : Why ℕ) → IsRefusal nat_cmp c why → IsRefusal name_cmp (case_of load edges request) (named_refusal (name_at load) why)
  by_name = refusal_is_named (count_of load) (name_at load) name_cmp nat_list_cmp_total order c (case_of load edges request) h

  -- ---- refusals

  module _ (known : IsKnown load request.target) (lead : (dep : DepKind) (u v : Name) → IsAmong v (names_in edges dep u) → IsUnitIn load v) where
    target_unit : IsUnitIn load (case_of load edges request).target
    target_unit = subst (IsUnitIn load) (sym (main_is load request.target known.0 known.1)) known.1.unit

    needed_chain : (k : ℕ) (u : Name) → IsChain (Listed ((case_of load edges request).target ∷ [])) (NeedsNext (case_of load edges request) (case_of load edges request).target) k u → IsUnitIn load u
    needed_chain zero u (inl e) = subst (IsUnitIn load) e target_unit
    needed_chain zero u (inr a) = absurd a
    needed_chain (suc k) u n = let r = named_by (λ dep. names_in edges dep n.0) needing u n.1.1.1 in lead r.0 n.0 u r.1.1

    pub returnable : (why : Why ℕ) → IsRefusal nat_cmp c why → IsReturnable load why
    returnable (target_fault u) r =
        let s = (by_name (target_fault u) r).stands in
        let P : ℕ → Type 0 = λ k. k < count_of load in
        record {
          below = subst P (sym r.stands.0) h.below;
          unit = subst (IsUnitIn load) (sym s.0) target_unit;
          unloaded = ap (λ v. is_loaded (unit_in load v)) s.0 ∙ s.1;
        }
    returnable (need_fault u) r =
        let s = (by_name (need_fault u) r).stands in
        record {
          below = needs_within u r.stands.member.0;
          unit = needed_chain s.member.0.steps (name_at load u) s.member.0.chain;
          unloaded = s.member.1;
        }
    returnable manual_start r = tt
    returnable (requisite u v) r =
        let l = needs_within u r.stands.outer.member.1.0 in
        (l, (h.requisites u l).within v r.stands.inner.member.1.asked)
    returnable (conflict u v) r = (needs_within u r.stands.outer.member.1.0, needs_within v r.stands.inner.member.1)
    returnable (cycle list) r = cycle_below list r.stands

  fault_returned : (u : Name) → IsFault load edges request u → (refusal : Refusal) → IsFaultOf load u refusal → IsRefusalOf load edges request refusal
  fault_returned u f Template t = absurd t
  fault_returned u f (NotFound v) t =
      (subst (IsFault load edges request) (sym t.0) f, ap (status_in load) t.0 ∙ t.1)
  fault_returned u f (Masked v) t =
      (subst (IsFault load edges request) (sym t.0) f, ap (status_in load) t.0 ∙ t.1)
  fault_returned u f (Bad v) t =
      (subst (IsFault load edges request) (sym t.0) f, (t.1.0, ap (status_in load) t.0 ∙ t.1.1))
  fault_returned u f ManualStart t = absurd t
  fault_returned u f (Requisite v w) t = absurd t
  fault_returned u f (Conflict v w) t = absurd t
  fault_returned u f (Cycle units) t = absurd t
  fault_returned u f Memory t = absurd t

  pub returned : ¬ AsksTemplate request → (why : Why ℕ) → IsRefusal nat_cmp c why → (refusal : Refusal) → IsReturnedBy load why refusal → IsRefusalOf load edges request refusal
  returned whole (target_fault u) r refusal t =
      fault_returned (name_at load u) (inl (record { no_template = whole; refused = by_name (target_fault u) r })) refusal t
  returned whole (need_fault u) r refusal t =
      fault_returned (name_at load u) (inr (record { no_template = whole; refused = by_name (need_fault u) r })) refusal t
  returned whole manual_start r refusal t =
      subst (IsRefusalOf load edges request) (sym t) (record { no_template = whole; refused = by_name manual_start r })
  returned whole (requisite u v) r refusal t =
      subst (IsRefusalOf load edges request) (sym t) (record { no_template = whole; refused = by_name (requisite u v) r })
  returned whole (conflict u v) r refusal t =
      subst (IsRefusalOf load edges request) (sym t) (record { no_template = whole; refused = by_name (conflict u v) r })
  returned whole (cycle list) r refusal t =
      subst (IsRefusalOf load edges request) (sym t) (record { no_template = whole; refused = by_name (cycle list) r })
