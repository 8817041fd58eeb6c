-- Laws of plans: loads that are the same but for places have the same plans and refusals, whatever host a request is for.
use Rattle.std.proofs.Common.{◌||◌, ◌∷◌, ◌≡◌}
use Rattle.tree_answers.specs.Prelude.{[], Answer, ap, Bad, Case, case_of, Conflict, Cycle, EdgeMap, Files, HostViewMap, inl, inr, IsFault, IsPlan, IsPlanBy, IsPlanned, IsRefusal, IsRefusalOf, IsRefused, is_loaded, is_loaded_by, is_manual, is_perpetual, is_perpetual_by, is_same, List, list_any, LoadedUnit, LoadMap, main_of, Manager, ManualStart, map, Masked, Memory, Name, name_cmp, None, NotFound, of_fleet, Option, option_map, PlanMap, Profile, refl, Refusal, Request, Requisite, Some, Status, status_in, subst, sym, Template, unit_in, unwrap_or, Why, ◌∙◌}
use Rattle.tree_answers.specs.{Alike.{AreSameAnswers, status_at_fleet}, FoundLaws.{mains_found, units_found}, SameLoads.{AreSamePairs, IsSameUnitFound}, TwinLaws.{loaded_at_fleet}}
use Rattle.unit_loads.specs.declared.units.Status.TheVariants as status
use Rattle.fleet_answers.specs.declared.questions.Answer.TheVariants as answer

-- ---- what is found of units

module _ (v w : HostViewMap) where
  loaded_same : (o p : Option LoadedUnit) → IsSameUnitFound v w o p → is_loaded p ≡ is_loaded o
  loaded_same None p e = ap is_loaded e
  loaded_same (Some u) p (t, same, at) = ap is_loaded at ∙ ap is_loaded_by same.status_is ∙ loaded_at_fleet u.status

  perpetual_same : (profile : Profile) (o p : Option LoadedUnit) → IsSameUnitFound v w o p
      → is_perpetual_by profile p ≡ is_perpetual_by profile o
  perpetual_same profile None p e = ap (is_perpetual_by profile) e
  perpetual_same Files (Some u) p (t, same, at) = ap (is_perpetual_by Files) at
  perpetual_same Manager (Some u) p (t, same, at) = ap (is_perpetual_by Manager) at ∙ ap is_perpetual same.name_is

  manual_same : (o p : Option LoadedUnit) → IsSameUnitFound v w o p → is_manual p ≡ is_manual o
  manual_same None p e = ap is_manual e
  manual_same (Some u) p (t, same, at) = ap is_manual at ∙ same.manual_is

  abbrev status_of : Option LoadedUnit → Option Status
  status_of o = option_map (λ (u : LoadedUnit). u.status) o

  status_same : (o p : Option LoadedUnit) → IsSameUnitFound v w o p → status_of p ≡ option_map status_at_fleet (status_of o)
  status_same None p e = ap status_of e
  status_same (Some u) p (t, same, at) = ap status_of at ∙ ap (λ (x : Status). Some x) same.status_is

  module _ (load other : LoadMap) (same : AreSamePairs v w load.names other.names)
      (profile : load.viewer.profile ≡ other.viewer.profile) (all : EdgeMap) (request : Request) where
    abbrev bare : Request
    bare = record request { viewer = of_fleet request.viewer.profile }

    main_alike : (n : Name) → main_of other n ≡ main_of load n
    main_alike n = ap (λ o. unwrap_or o n) (mains_found v w load other same n)

    running_alike : (ns : List Name) → map (main_of other) ns ≡ map (main_of load) ns
    running_alike [] = refl
    running_alike (n ∷ ns) = (λ i. main_alike n i ∷ running_alike ns i)

    always_alike : (u : Name)
        → is_perpetual_by load.viewer.profile (unit_in load u) ≡ is_perpetual_by other.viewer.profile (unit_in other u)
    always_alike u =
        ap (λ by. is_perpetual_by by (unit_in load u)) profile
        ∙ sym (perpetual_same other.viewer.profile (unit_in load u) (unit_in other u) (units_found v w load other same u))

    case_alike : case_of load all request ≡ case_of other all bare
    case_alike = (λ i. record (case_of load all request) {
      profile = profile i;
      target = sym (main_alike request.target) i;
      is_loaded = λ u. sym (loaded_same (unit_in load u) (unit_in other u) (units_found v w load other same u)) i;
      refuses_manual_start = λ u. sym (manual_same (unit_in load u) (unit_in other u) (units_found v w load other same u)) i;
      is_running = λ u. always_alike u i || list_any (is_same u) (sym (running_alike request.running) i);
      is_perpetual = λ u. always_alike u i;
    })

    planned : (plan : PlanMap) → IsPlanned load all request plan → IsPlanned other all bare plan
    planned plan is = record {
      no_template = is.no_template;
      planned = subst (λ (c : Case Name). IsPlan name_cmp c plan.stop plan.start) case_alike is.planned;
    }

    refused : (why : Why Name) → IsRefused load all request why → IsRefused other all bare why
    refused why is = record {
      no_template = is.no_template;
      refused = subst (λ (c : Case Name). IsRefusal name_cmp c why) case_alike is.refused;
    }

    faulted : (u : Name) → IsFault load all request u → IsFault other all bare u
    faulted u (inl f) = inl (refused _ f)
    faulted u (inr f) = inr (refused _ f)

    status_alike : (u : Name) (x : Status) → status_in load u ≡ Some x → status_in other u ≡ Some (status_at_fleet x)
    status_alike u x e =
        status_same (unit_in load u) (unit_in other u) (units_found v w load other same u) ∙ ap (option_map status_at_fleet) e

    refusal : (r : Refusal) → IsRefusalOf load all request r → IsRefusalOf other all bare r
    refusal Template h = h
    refusal (NotFound u) h = (faulted u h.0, status_alike u status.NotFound h.1)
    refusal (Masked u) h = (faulted u h.0, status_alike u status.Masked h.1)
    refusal (Bad u) h = (faulted u h.0, (h.1.0, status_alike u (status.Bad h.1.0) h.1.1))
    refusal ManualStart h = refused _ h
    refusal (Requisite u x) h = refused _ h
    refusal (Conflict u x) h = refused _ h
    refusal (Cycle units) h = refused _ h
    refusal Memory h = h

    pub plan_there : (a : Answer) → IsPlanBy load all request a → (b : Answer) × IsPlanBy other all bare b × AreSameAnswers v w a b
    plan_there a (inl p) = (
      answer.Planned p.0,
      inl (p.0, planned p.0 p.1, refl),
      subst (λ (x : Answer). AreSameAnswers v w x (answer.Planned p.0)) (sym p.2) refl,
    )
    plan_there a (inr p) = (
      answer.Refused p.0,
      inr (p.0, refusal p.0 p.1, p.2, refl),
      subst (λ (x : Answer). AreSameAnswers v w x (answer.Refused p.0)) (sym p.3) refl,
    )
