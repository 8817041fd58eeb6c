-- Laws of plans: a request has one answer, which the load alone determines, and a plan keeps its promises.
use Rattle.std.proofs.Common.{◌||◌, ◌∷◌, ◌≡◌, ◌≢◌, ◌⊎◌}
use mathlib.Core.Path.{fun_ext}
use Rattle.start_plan.specs.Prelude.{[], ap, AreEdges, Case, conflict, cycle, DepKind, EdgeMap, edges_come_from_names, Files, files_keep, flat_map, HostViewMap, inl, inr, is_same, IsAmong, IsEdge, IsLoad, IsOutside, IsStoppedByConflict, IsTrue, KeepsFilePromises, KeepsPromises, List, list_any, LoadMap, manual_start, map, Name, name_cmp, name_cmp-IsAntisymmetric, named_by, names_in, nat_list_cmp_total, need_fault, None, one_list_of_edges, one_refusal, one_start, one_stop, Option, plan_keeps, plan_unrefused, reached_least, refl, requisite, Some, SparesItself, Status, status_in, subst, sym, TakesAlong, target_fault, true≢false, unit_in, Why, ◌∙◌}
use Rattle.start_plan.specs.{declared.requests.{Plan.{Plan}, Refusal.{Refusal, TheVariants.{Bad, Conflict, Cycle, ManualStart, Masked, Memory, NotFound, Requisite, Template}}, Request.{Request}}, Outcomes.{IsFault, IsPlanned, IsRefusalOf, IsRefused}, Requests.{AsksTemplate, case_of, is_loaded, is_manual, is_perpetual_by, main_of, needing, tying, weak}}
use Rattle.setting_rules.specs.declared.kinds.DepKind.TheVariants as kind
use Rattle.unit_loads.specs.declared.units.Status.TheVariants as status

-- There is at most one plan.
abbrev pub OnePlan : Type 0
OnePlan = (load : LoadMap) (edges : EdgeMap) (request : Request) (p q : Plan) → IsPlanned load edges request p → IsPlanned load edges request q → p ≡ q

-- There is at most one refusal, unless memory runs out.
abbrev pub OneRefusal : Type 0
OneRefusal = (load : LoadMap) (edges : EdgeMap) (request : Request) (r s : Refusal) → IsRefusalOf load edges request r → IsRefusalOf load edges request s
    → r ≢ Memory → s ≢ Memory → r ≡ s

-- There are never both.
abbrev pub PlanOrRefusal : Type 0
PlanOrRefusal = (load : LoadMap) (edges : EdgeMap) (request : Request) (p : Plan) (r : Refusal) → IsPlanned load edges request p → IsRefusalOf load edges request r → ¬ (r ≢ Memory)

-- The load and the request alone determine the answer: any lists of the load's edges give one case.
abbrev pub OneCase : Type 0
OneCase = (load : LoadMap) (request : Request) (a b : EdgeMap) → AreEdges load a → AreEdges load b → case_of load a request ≡ case_of load b request

-- What for a manager always runs never stops.
abbrev pub PerpetualUnitsNeverStop : Type 0
PerpetualUnitsNeverStop = (load : LoadMap) (edges : EdgeMap) (request : Request) (p : Plan) (u : Name) → IsPlanned load edges request p
    → IsTrue (is_perpetual_by load.viewer.profile (unit_in load u)) → ¬ IsAmong u p.stop

-- In a load of a store, the units that a plan chooses include the target. They include all that they need, but for the
-- running units that a manager leaves alone and what those need. They are all loaded, and they don't conflict. They lack
-- no requisite, but for what is only wanted and left alone. Each unit starts after all started units that are to start
-- before it.
abbrev pub PlansKeepPromises : Type 0
PlansKeepPromises = (s : HostViewMap) (extra : List Name) (load : LoadMap) (edges : EdgeMap) (request : Request) (p : Plan) → IsLoad s extra load → AreEdges load edges
    → IsPlanned load edges request p → KeepsPromises name_cmp (case_of load edges request) p.start

-- In a load of a store by files alone there are no exceptions: what a plan chooses is closed under need, and its
-- requisites are running.
abbrev pub PlansByFilesKeepPromises : Type 0
PlansByFilesKeepPromises = (s : HostViewMap) (extra : List Name) (load : LoadMap) (edges : EdgeMap) (request : Request) (p : Plan) → load.viewer.profile ≡ Files
    → IsLoad s extra load → AreEdges load edges → IsPlanned load edges request p → KeepsFilePromises name_cmp (case_of load edges request)

plan_with : List Name → List Name → Plan
plan_with stop start = record { stop = stop; start = start }

plan_is : (p q : Plan) → p.stop ≡ q.stop → p.start ≡ q.start → p ≡ q
unfolding plan_with
plan_is p q a b = ap (λ x. plan_with x p.start) a ∙ ap (plan_with q.stop) b

pub one_plan : OnePlan
one_plan load edges request p q a b =
    plan_is p q
    (one_stop name_cmp (case_of load edges request) nat_list_cmp_total name_cmp-IsAntisymmetric p.stop p.start q.stop q.start a.planned b.planned)
    (one_start name_cmp (case_of load edges request) nat_list_cmp_total name_cmp-IsAntisymmetric p.stop p.start q.stop q.start a.planned b.planned)

-- ---- refusals

-- why a unit isn't loaded
by_status : Name → Option Status → Refusal
by_status u None = Memory
by_status u (Some (status.Loaded path)) = Memory
by_status u (Some status.BuiltIn) = Memory
by_status u (Some status.NotFound) = NotFound u
by_status u (Some status.Masked) = Masked u
by_status u (Some (status.Bad cause)) = Bad u

-- the refusal for a cause
returned_as : LoadMap → Why Name → Refusal
returned_as load (target_fault u) = by_status u (status_in load u)
returned_as load (need_fault u) = by_status u (status_in load u)
returned_as load manual_start = ManualStart
returned_as load (requisite u v) = Requisite u v
returned_as load (conflict u v) = Conflict u v
returned_as load (cycle units) = Cycle units

-- a refusal other than `Memory` is for a template, or for the cause that holds
record ReturnsCause (load : LoadMap) (edges : EdgeMap) (request : Request) (r : Refusal) : Type 0 where
  why : Why Name
  refused : IsRefused load edges request why
  returned : r ≡ returned_as load why

module _ (load : LoadMap) (edges : EdgeMap) (request : Request) where
  returns_fault : (u : Name) (r : Refusal) (o : Option Status) → IsFault load edges request u → status_in load u ≡ o
      → r ≡ by_status u o → ReturnsCause load edges request r
  unfolding returned_as
  returns_fault u r o (inl f) e t = record { why = target_fault u; refused = f; returned = t ∙ ap (by_status u) (sym e) }
  returns_fault u r o (inr f) e t = record { why = need_fault u; refused = f; returned = t ∙ ap (by_status u) (sym e) }

  returns : (r : Refusal) → IsRefusalOf load edges request r → r ≢ Memory
      → ((r ≡ Template) × AsksTemplate request) ⊎ ReturnsCause load edges request r
  unfolding returned_as by_status
  returns Template h n = inl (refl, h)
  returns (NotFound u) h n = inr (returns_fault u (NotFound u) (Some status.NotFound) h.0 h.1 refl)
  returns (Masked u) h n = inr (returns_fault u (Masked u) (Some status.Masked) h.0 h.1 refl)
  returns (Bad u) h n = inr (returns_fault u (Bad u) (Some (status.Bad h.1.0)) h.0 h.1.1 refl)
  returns ManualStart h n = inr (record { why = manual_start; refused = h; returned = refl })
  returns (Requisite u v) h n = inr (record { why = requisite u v; refused = h; returned = refl })
  returns (Conflict u v) h n = inr (record { why = conflict u v; refused = h; returned = refl })
  returns (Cycle units) h n = inr (record { why = cycle units; refused = h; returned = refl })
  returns Memory h n = absurd (n refl)

  same_returned : (r s : Refusal) → ((r ≡ Template) × AsksTemplate request) ⊎ ReturnsCause load edges request r
      → ((s ≡ Template) × AsksTemplate request) ⊎ ReturnsCause load edges request s → r ≡ s
  same_returned r s (inl a) (inl b) = a.0 ∙ sym b.0
  same_returned r s (inl a) (inr b) = absurd (b.refused.no_template a.1)
  same_returned r s (inr a) (inl b) = absurd (a.refused.no_template b.1)
  same_returned r s (inr a) (inr b) =
      a.returned
      ∙ ap (returned_as load) (one_refusal name_cmp (case_of load edges request) nat_list_cmp_total name_cmp-IsAntisymmetric a.why b.why a.refused.refused b.refused.refused)
      ∙ sym b.returned

pub one_refusal_returned : OneRefusal
one_refusal_returned load edges request r s a b n m = same_returned load edges request r s (returns load edges request r a n) (returns load edges request s b m)

pub plan_or_refusal : PlanOrRefusal
plan_or_refusal load edges request p r a b n = by (returns load edges request r b n)
  where
    by : ((r ≡ Template) × AsksTemplate request) ⊎ ReturnsCause load edges request r → ⊥
    by (inl t) = a.no_template t.1
    by (inr t) = plan_unrefused name_cmp (case_of load edges request) p.stop p.start a.planned t.why t.refused.refused.stands

-- ---- cases

abbrev case_by : LoadMap → Request → (DepKind → Name → List Name) → Case Name
case_by load request lists = record {
  profile = load.viewer.profile;
  target = main_of load request.target;
  is_loaded = λ u. is_loaded (unit_in load u);
  refuses_manual_start = λ u. is_manual (unit_in load u);
  is_running = λ u. is_perpetual_by load.viewer.profile (unit_in load u) || list_any (is_same u) (map (main_of load) request.running);
  is_perpetual = λ u. is_perpetual_by load.viewer.profile (unit_in load u);
  needs = λ u. flat_map (λ dep. lists dep u) needing;
  wants = λ u. flat_map (λ dep. lists dep u) weak;
  requisites = λ u. flat_map (λ dep. lists dep u) (kind.Requisite ∷ []);
  conflicts = λ u. flat_map (λ dep. lists dep u) (kind.Conflicts ∷ []);
  predecessors = λ u. flat_map (λ dep. lists dep u) (kind.After ∷ []);
  stops_with = λ u. flat_map (λ dep. lists dep u) tying;
}

pub one_case : OneCase
one_case load request a b p q =
    let lists : (λ dep u. names_in a dep u) ≡ (λ dep u. names_in b dep u) = fun_ext (λ dep. fun_ext (λ u. one_list_of_edges load a b p q dep u)) in
    ap (case_by load request) lists

-- ---- promises

spares_itself : (s : HostViewMap) (extra : List Name) (load : LoadMap) (edges : EdgeMap) (request : Request)
    → IsLoad s extra load → AreEdges load edges
    → SparesItself (case_of load edges request)
spares_itself s extra load edges request l a u h =
    let r = named_by (λ dep. names_in edges dep u) (kind.Conflicts ∷ []) u h in
    let kind_is : kind.Conflicts ≡ r.0 = elim r.1.0 [ inl e ↦ e | inr n ↦ absurd n ] in
    let e : IsEdge load r.0 u u = ((a.lists r.0 u).exact u).0 r.1.1 in
    let conflict_edge : IsEdge load kind.Conflicts u u = subst (λ (d : DepKind). IsEdge load d u u) (sym kind_is) e in
    elim ((edges_come_from_names s extra load kind.Conflicts u u l).0 conflict_edge).2 [
      | inl n ↦ elim n [ inl d ↦ d.other refl | inr d ↦ d.other refl ]
      | inr j ↦ elim j [ inl x ↦ elim x [ inl p ↦ p | inr t ↦ t ] | inr x ↦ elim x [ inl p ↦ p | inr t ↦ t ] ]
    ]

pub perpetual_units_never_stop : PerpetualUnitsNeverStop
perpetual_units_never_stop load edges request p u planned always among =
    let c = case_of load edges request in
    let outside = reached_least (IsStoppedByConflict name_cmp c) (TakesAlong name_cmp c) (IsOutside name_cmp c)
    (record { started = λ n s. s.outside; stepped = λ k m is t. t.outside }) u ((planned.planned.stopped.members u).0 among) in
    true≢false (sym always ∙ outside.may_stop)

pub plans_keep_promises : PlansKeepPromises
plans_keep_promises s extra load edges request p l a planned =
    plan_keeps name_cmp (case_of load edges request) nat_list_cmp_total name_cmp-IsAntisymmetric p.stop p.start
    (spares_itself s extra load edges request l a) planned.planned

pub plans_by_files_keep_promises : PlansByFilesKeepPromises
plans_by_files_keep_promises s extra load edges request p files l a planned =
    files_keep name_cmp (case_of load edges request) p.start files (plans_keep_promises s extra load edges request p l a planned)
