-- Laws of hosts: one at whose places nothing is visible has the answer to each question that is had without a host.
use Rattle.std.proofs.Common.{◌++◌, ◌||◌, ◌↔◌, ◌≡◌}
use Rattle.fleet_answers.specs.Prelude.{All-weaker, ap, AreEdges, AreEdgesFrom, AreEdgesOf, Bad, Case, case_of, Conflict, Cycle, DependencyList, DepKind, EdgeMap, EntryMap, HasTemplate, Host, host_view_of, hosts_without_places_are_as_large, hosts_without_places_load_alike, HostViewMap, inl, inr, is_perpetual_by, is_same, IsEdge, IsEdgeAmong, IsFault, IsLoad, IsPlan, IsPlanned, IsRefusal, IsRefusalOf, IsRefused, List, list_any, loaded_for, LoadMap, main_of, ManualStart, map, Masked, Memory, Name, name_cmp, NotFound, of_fleet, of_host, PlanMap, Profile, refl, Refusal, Request, Requisite, ShowsNothing, subst, sym, Template, unit_in, Viewer, viewer_of, Why, ℕ, ◌∙◌}
use Rattle.fleet_answers.specs.{Answers.{AreLinkedUnits, ArePulled, asked, viewer_asked, IsAnswer, IsLinkedUnit, IsPlanBy, IsPlanReturned, IsReturned, IsUnitWithEdges, IsWholeAnswer, names_asked, without_host}, declared.questions.{Answer.{Answer}, LinkedUnit.{LinkedUnit}, Question.{Question, TheVariants.{Plan as OfPlan, Pulled as OfPulled, Unit as OfUnit, Units as OfUnits}}}}

-- A host at whose places nothing is visible has the answer to each question that is had without a host.
abbrev pub HostsWithoutPlacesHaveTheFleetsAnswers : Type 0
HostsWithoutPlacesHaveTheFleetsAnswers =
    (s : EntryMap) (host : List ℕ) (profile : Profile) → ShowsNothing s (Host host) → (extra : List Name) (question : Question)
    → viewer_asked question ≡ of_host host profile → (a : Answer) → IsAnswer s extra question a ↔ IsAnswer s extra (without_host question) a

-- ---- a load answers the same, whatever host it is for

-- by one profile
module _ (load : LoadMap) (viewer : Viewer) (profile : load.viewer.profile ≡ viewer.profile) where
  abbrev moved : LoadMap
  moved = loaded_for viewer load

  edge : (dep : DepKind) (u v : Name) → IsEdge load dep u v → IsEdge moved dep u v
  edge dep u v e = subst (λ (by : Profile). IsEdgeAmong by load.names dep u v) profile e

  edge_back : (dep : DepKind) (u v : Name) → IsEdge moved dep u v → IsEdge load dep u v
  edge_back dep u v e = subst (λ (by : Profile). IsEdgeAmong by load.names dep u v) (sym profile) e

  edges_from : (dep : DepKind) (u : Name) (names : List Name) → AreEdgesFrom load dep u names → AreEdgesFrom moved dep u names
  edges_from dep u names are = record {
    ascending = are.ascending;
    exact = λ v. (λ among. edge dep u v ((are.exact v).0 among), λ e. (are.exact v).1 (edge_back dep u v e));
  }

  edges : (all : EdgeMap) → AreEdges load all → AreEdges moved all
  edges all are = record { names = are.names; in_order = are.in_order; lists = λ dep u. edges_from dep u _ (are.lists dep u) }

  edges_of : (u : Name) (lists : List DependencyList) → AreEdgesOf load u lists → AreEdgesOf moved u lists
  edges_of u lists are =
      let P : DependencyList → Type 0 = λ list. AreEdgesFrom load list.kind u list.names in
      let Q : DependencyList → Type 0 = λ list. AreEdgesFrom moved list.kind u list.names in
      record { kinds_are = are.kinds_are; each = All-weaker P Q (λ list e. edges_from list.kind u list.names e) lists are.each }

  linked_unit : (name : Name) (unit : LinkedUnit) → IsLinkedUnit load name unit → IsLinkedUnit moved name unit
  linked_unit name unit is = record {
    main = is.main;
    main_is = is.main_is;
    unit_is = is.unit_is;
    edges_are = edges_of is.main unit.edges is.edges_are;
  }

  all_linked : (returned : List LinkedUnit) → AreLinkedUnits load returned → AreLinkedUnits moved returned
  all_linked returned are =
      let P : LinkedUnit → Type 0 = λ one. (main : Name) × IsUnitWithEdges load main one in
      let Q : LinkedUnit → Type 0 = λ one. (main : Name) × IsUnitWithEdges moved main one in
      record {
        units_are = are.units_are;
        edges_are = All-weaker P Q (λ one h. (h.0, record { unit_is = h.1.unit_is; edges_are = edges_of h.0 one.edges h.1.edges_are })) returned are.edges_are;
      }

  pulled : (name : Name) (pairs : List (ℕ × Name)) → ArePulled load name pairs → ArePulled moved name pairs
  pulled name pairs are = record {
    edges = are.edges;
    edges_are = edges are.edges are.edges_are;
    depths_are = λ main stands. are.depths_are main (record { main_is = stands.main_is; unit = stands.unit });
  }

  -- and whatever host a request is for
  module _ (all : EdgeMap) (request : Request) (wanted : Viewer) where
    abbrev moved_request : Request
    moved_request = record request { viewer = wanted }

    one_case : case_of load all request ≡ case_of moved all moved_request
    one_case = ap case_by profile
      where
        case_by : Profile → Case Name
        case_by by = record (case_of load all request) {
          profile = by;
          is_running = λ u. is_perpetual_by by (unit_in load u) || list_any (is_same u) (map (main_of load) request.running);
          is_perpetual = λ u. is_perpetual_by by (unit_in load u);
        }

    planned : (plan : PlanMap) → IsPlanned load all request plan → IsPlanned moved all moved_request plan
    planned plan is = record {
      no_template = is.no_template;
      planned = subst (λ (c : Case Name). IsPlan name_cmp c plan.stop plan.start) one_case is.planned;
    }

    refused : (why : Why Name) → IsRefused load all request why → IsRefused moved all moved_request why
    refused why is = record {
      no_template = is.no_template;
      refused = subst (λ (c : Case Name). IsRefusal name_cmp c why) one_case is.refused;
    }

    faulted : (u : Name) → IsFault load all request u → IsFault moved all moved_request u
    faulted u (inl f) = inl (refused _ f)
    faulted u (inr f) = inr (refused _ f)

    refusal : (r : Refusal) → IsRefusalOf load all request r → IsRefusalOf moved all moved_request r
    refusal Template h = h
    refusal (NotFound u) h = (faulted u h.0, h.1)
    refusal (Masked u) h = (faulted u h.0, h.1)
    refusal (Bad u) h = (faulted u h.0, h.1)
    refusal ManualStart h = refused _ h
    refusal (Requisite u v) h = refused _ h
    refusal (Conflict u v) h = refused _ h
    refusal (Cycle units) h = refused _ h
    refusal Memory h = h

    plan_by : (a : Answer) → IsPlanBy load all request a → IsPlanBy moved all moved_request a
    plan_by a (inl p) = inl (p.0, planned p.0 p.1, p.2)
    plan_by a (inr p) = inr (p.0, refusal p.0 p.1, p.2, p.3)

  plan_returned : (request : Request) (wanted : Viewer) (a : Answer)
      → IsPlanReturned load request a → IsPlanReturned moved (record request { viewer = wanted }) a
  plan_returned request wanted a returned = record {
    edges = returned.edges;
    edges_are = edges returned.edges returned.edges_are;
    plan_is = plan_by returned.edges request wanted a returned.plan_is;
  }

  returned_without : (question : Question) (a : Answer) → IsReturned load question a → IsReturned moved (without_host question) a
  returned_without (OfUnit wanted name) a returned = (returned.0, linked_unit name returned.0 returned.1, returned.2)
  returned_without (OfPulled wanted name) a returned = (returned.0, pulled name returned.0 returned.1, returned.2)
  returned_without (OfPlan request) a returned = plan_returned request (of_fleet request.viewer.profile) a returned
  returned_without (OfUnits wanted) a returned = (returned.0, all_linked returned.0 returned.1, returned.2)

  returned_with : (question : Question) (a : Answer) → IsReturned load (without_host question) a → IsReturned moved question a
  returned_with (OfUnit wanted name) a returned = (returned.0, linked_unit name returned.0 returned.1, returned.2)
  returned_with (OfPulled wanted name) a returned = (returned.0, pulled name returned.0 returned.1, returned.2)
  returned_with (OfPlan request) a returned = plan_returned (record request { viewer = of_fleet request.viewer.profile }) request.viewer a returned
  returned_with (OfUnits wanted) a returned = (returned.0, all_linked returned.0 returned.1, returned.2)

-- what is loaded of a view is loaded for who looks
for_looker : (v : HostViewMap) (names : List Name) (load : LoadMap) → IsLoad v names load → IsLoad v names (loaded_for (viewer_of v) load)
for_looker v names load is = record {
  viewer_is = refl;
  extra_is = is.extra_is;
  universe = is.universe;
  loaded = is.loaded;
  named = is.named;
  words = is.words;
}

-- and by its profile
of_looker : (v : HostViewMap) (names : List Name) (load : LoadMap) → IsLoad v names load → load.viewer.profile ≡ v.profile
of_looker v names load is = ap (λ (viewer : Viewer). viewer.profile) is.viewer_is

-- ---- a host without places

names_stay : (question : Question) → names_asked (without_host question) ≡ names_asked question
names_stay (OfUnit viewer name) = refl
names_stay (OfPulled viewer name) = refl
names_stay (OfPlan request) = refl
names_stay (OfUnits viewer) = refl

no_host : (question : Question) → viewer_asked (without_host question) ≡ of_fleet (viewer_asked question).profile
no_host (OfUnit viewer name) = refl
no_host (OfPulled viewer name) = refl
no_host (OfPlan request) = refl
no_host (OfUnits viewer) = refl

-- a question has the answer of another with the same names, where it has so in what is looked at
module _ (s : EntryMap) (extra : List Name) (one other : Question) (same : names_asked one ≡ names_asked other) (a : Answer)
    (whole : (names : List Name)
    → IsWholeAnswer (host_view_of s (viewer_asked one)) names one a
    → IsWholeAnswer (host_view_of s (viewer_asked other)) names other a) where
  all_same : asked extra one ≡ asked extra other
  all_same = ap (λ names. extra ++ names) same

  answered : IsAnswer s extra one a → IsAnswer s extra other a
  answered (inl template) = inl (subst HasTemplate all_same template.0, template.1)
  answered (inr returned) = inr (
    λ template. returned.0 (subst HasTemplate (sym all_same) template),
    subst (λ names. IsWholeAnswer (host_view_of s (viewer_asked other)) names other a) all_same (whole (asked extra one) returned.1),
  )

module _ (s : EntryMap) (host : List ℕ) (profile : Profile) (none : ShowsNothing s (Host host)) (question : Question) (a : Answer) where
  abbrev hosts : HostViewMap
  hosts = host_view_of s (of_host host profile)

  abbrev fleets : HostViewMap
  fleets = host_view_of s (of_fleet profile)

  abbrev bare : Question
  bare = without_host question

  whole_without : (names : List Name) → IsWholeAnswer hosts names question a → IsWholeAnswer fleets names bare a
  whole_without names (inl large) = inl ((hosts_without_places_are_as_large s host profile none names).0 large.0, large.1)
  whole_without names (inr returned) = inr (record {
    load = loaded_for (of_fleet profile) returned.load;
    snapshot = record {
      within = λ large. returned.snapshot.within ((hosts_without_places_are_as_large s host profile none names).1 large);
      is_load = (hosts_without_places_load_alike s host profile none names returned.load).0 (for_looker hosts names returned.load returned.snapshot.is_load);
    };
    returned_is =
        returned_without returned.load (of_fleet profile) (of_looker hosts names returned.load returned.snapshot.is_load) question a returned.returned_is;
  })

  whole_with : (names : List Name) → IsWholeAnswer fleets names bare a → IsWholeAnswer hosts names question a
  whole_with names (inl large) = inl ((hosts_without_places_are_as_large s host profile none names).1 large.0, large.1)
  whole_with names (inr returned) = inr (record {
    load = loaded_for (of_host host profile) returned.load;
    snapshot = record {
      within = λ large. returned.snapshot.within ((hosts_without_places_are_as_large s host profile none names).0 large);
      is_load = (hosts_without_places_load_alike s host profile none names returned.load).1 (for_looker fleets names returned.load returned.snapshot.is_load);
    };
    returned_is =
        returned_with returned.load (of_host host profile) (of_looker fleets names returned.load returned.snapshot.is_load) question a returned.returned_is;
  })

  -- the same where the question's host is this one
  module _ (is : viewer_asked question ≡ of_host host profile) where
    abbrev WholeFor : Viewer → Question → List Name → Type 0
    WholeFor viewer asking names = IsWholeAnswer (host_view_of s viewer) names asking a

    -- asked without a host it is for the fleet
    bare_is : viewer_asked bare ≡ of_fleet profile
    bare_is = no_host question ∙ ap (λ (viewer : Viewer). of_fleet viewer.profile) is

    there : (names : List Name) → WholeFor (viewer_asked question) question names → WholeFor (viewer_asked bare) bare names
    there names h =
        subst (λ (viewer : Viewer). WholeFor viewer bare names) (sym bare_is)
        (whole_without names (subst (λ (viewer : Viewer). WholeFor viewer question names) is h))

    back : (names : List Name) → WholeFor (viewer_asked bare) bare names → WholeFor (viewer_asked question) question names
    back names h =
        subst (λ (viewer : Viewer). WholeFor viewer question names) (sym is)
        (whole_with names (subst (λ (viewer : Viewer). WholeFor viewer bare names) bare_is h))

pub hosts_without_places_have_the_fleets_answers : HostsWithoutPlacesHaveTheFleetsAnswers
hosts_without_places_have_the_fleets_answers s host profile none extra question is a = (
  answered s extra question (without_host question) (sym (names_stay question)) a (there s host profile none question a is),
  answered s extra (without_host question) question (names_stay question) a (back s host profile none question a is),
)
