-- Laws of answers: a store and a question have one answer, and no place of another host changes it.
use Rattle.std.proofs.Common.{◌↔◌, ◌∷◌, ◌≡◌, ◌≢◌}
use Rattle.fleet_answers.specs.Prelude.{[], All, All-head, All-tail, ap, AreDepths, AreEdges, AreEdgesOf, AreSameSuccessors, asked_by, Bad, Case, Conflict, Cycle, DependencyList, EdgeMap, EntryMap, Files, host_view_of, HostViewMap, inl, inr, IsAmong, IsAmong-append_right, IsDistance, IsDistances, IsFault, IsKnown, IsLoad, IsPlan, IsPlanned, IsRefusal, IsRefusalOf, IsRefused, known_names, LeadsBy, level_for, List, Listed, LoadedUnit, LoadMap, Manager, ManualStart, map, Masked, Memory, Name, name_cmp, nat_list_cmp_total, None, NotFound, one_case, one_list_by_kind, one_list_of_distances, one_list_of_edges, one_load, one_plan, one_refusal_returned, other_hosts_are_not_in_view, perpetual_units, PlaceParts, plan_or_refusal, PlanMap, Profile, pulling, refl, Refusal, Request, Requisite, same_distance, Some, subst, sym, Template, unit_in, units_are_their_own_mains, Why, ℕ, ◌∙◌}
use Rattle.fleet_answers.specs.{Answers.{AreKnown, AreLinkedUnits, ArePulled, asked, graph_of, viewer_asked, IsAnswer, IsLinkedUnit, IsUnitWithEdges, IsPlanBy, IsReturned, IsReturnedFrom, IsWholeAnswer, names_asked}, declared.questions.{Answer.{Answer}, LinkedUnit.{LinkedUnit}, Question.{Question, TheVariants.{Plan as OfPlan, Pulled as OfPulled, Unit as OfUnit, Units as OfUnits}}}}
use Rattle.std.specs.FinMap as finmap
use Rattle.fleet_answers.specs.declared.questions.Answer.TheVariants as answer

-- A store and a question have one answer.
abbrev pub OneAnswer : Type 0
OneAnswer = (s : EntryMap) (extra : List Name) (question : Question) (a b : Answer) → IsAnswer s extra question a → IsAnswer s extra question b → a ≡ b

-- What is at another host's place changes no answer for this host, and what is at any host's place changes none without
-- a host.
abbrev pub OtherHostsChangeNothing : Type 0
OtherHostsChangeNothing = (s t : EntryMap) (extra : List Name) (question : Question) (place : PlaceParts) → level_for (viewer_asked question) place ≡ None
    → ((q : PlaceParts) → q ≢ place → finmap.get s q ≡ finmap.get t q) → (a : Answer) → IsAnswer s extra question a
    → IsAnswer t extra question a

-- ---- the names of a question are in a load of them

-- names that are given are asked for
pub asked_among : (profile : Profile) (extra : List Name) (n : Name) → IsAmong n extra → IsAmong n (asked_by profile extra)
asked_among Files extra n h = h
asked_among Manager extra n h = IsAmong-append_right n perpetual_units extra h

pub names_are_known : (s : HostViewMap) (names : List Name) (load : LoadMap) → IsLoad s names load → AreKnown load names
names_are_known s names load is n a = (known_names s names load n is).1 (record { steps = 0; chain = inl (asked_among s.profile names n a) })

pub own_are_known : (s : HostViewMap) (extra : List Name) (question : Question) (load : LoadMap)
    → IsLoad s (asked extra question) load → AreKnown load (names_asked question)
own_are_known s extra question load is n a = names_are_known s (asked extra question) load is n (IsAmong-append_right n extra (names_asked question) a)

-- ---- units

same_some : {X : Type 0} (x y : X) → Some x ≡ Some y → x ≡ y
same_some x y e = cc (e)

pub linked : LoadedUnit → List DependencyList → LinkedUnit
linked unit edges = record { unit = unit; edges = edges }

pub linked_is : (a b : LinkedUnit) → a.unit ≡ b.unit → a.edges ≡ b.edges → a ≡ b
unfolding linked
linked_is a b p q = ap (λ x. linked x a.edges) p ∙ ap (linked b.unit) q

one_linked : (load : LoadMap) (name : Name) (a b : LinkedUnit) → IsLinkedUnit load name a → IsLinkedUnit load name b → a ≡ b
one_linked load name a b l m =
    let mains : l.main ≡ m.main = same_some l.main m.main (sym l.main_is ∙ m.main_is) in
    linked_is a b (same_some a.unit b.unit (sym l.unit_is ∙ ap (unit_in load) mains ∙ m.unit_is))
    (one_list_by_kind load m.main a.edges b.edges (subst (λ (main : Name). AreEdgesOf load main a.edges) mains l.edges_are) m.edges_are)

-- ---- all units

-- each unit of the load stands at its own name
abbrev pub AreAtTheirNames : LoadMap → Type 0
AreAtTheirNames load = (n : Name) (unit : LoadedUnit) → unit_in load n ≡ Some unit → unit.name ≡ n

pub at_their_names : (s : HostViewMap) (extra : List Name) (load : LoadMap) → IsLoad s extra load → AreAtTheirNames load
at_their_names s extra load is n unit e =
    let own = (units_are_their_own_mains s extra load n unit is e).2 in
    ap (λ (u : LoadedUnit). u.name) own.by_mains_is ∙ own.is_unit.name_is

module _ (load : LoadMap) (right : AreAtTheirNames load) where
  abbrev HasEdges : LinkedUnit → Type 0
  HasEdges one = (main : Name) × IsUnitWithEdges load main one

  -- one unit has one list of edges
  one_with_edges : (a b : LinkedUnit) → a.unit ≡ b.unit → HasEdges a → HasEdges b → a ≡ b
  one_with_edges a b e h k =
      let mains : h.0 ≡ k.0 = sym (right h.0 a.unit h.1.unit_is) ∙ ap (λ (u : LoadedUnit). u.name) e ∙ right k.0 b.unit k.1.unit_is in
      linked_is a b e (one_list_by_kind load k.0 a.edges b.edges (subst (λ (main : Name). AreEdgesOf load main a.edges) mains h.1.edges_are) k.1.edges_are)

  one_each : (ones others : List LinkedUnit) → map (λ (one : LinkedUnit). one.unit) ones
      ≡ map (λ (one : LinkedUnit). one.unit) others → All HasEdges ones → All HasEdges others → ones ≡ others
  one_each [] [] e h k = refl
  one_each [] (b ∷ others) e h k = cc (e)
  one_each (a ∷ ones) [] e h k = cc (e)
  one_each (a ∷ ones) (b ∷ others) e h k =
      let heads : a.unit ≡ b.unit = same_head _ _ _ _ e in
      let tails = same_tail _ _ _ _ e in
      cons_is a b ones others (one_with_edges a b heads (All-head HasEdges a ones h) (All-head HasEdges b others k)) (one_each ones others tails (All-tail HasEdges a ones h) (All-tail HasEdges b others k))
    where
      same_head : (x y : LoadedUnit) (xs ys : List LoadedUnit) → x ∷ xs ≡ y ∷ ys → x ≡ y
      same_head x y xs ys f = cc (f)

      same_tail : (x y : LoadedUnit) (xs ys : List LoadedUnit) → x ∷ xs ≡ y ∷ ys → xs ≡ ys
      same_tail x y xs ys f = cc (f)

      cons_is : (x y : LinkedUnit) (xs ys : List LinkedUnit) → x ≡ y → xs ≡ ys → x ∷ xs ≡ y ∷ ys
      cons_is x y xs ys f g = cc (f, g)

  one_list_of_units : (ones others : List LinkedUnit) → AreLinkedUnits load ones → AreLinkedUnits load others → ones ≡ others
  one_list_of_units ones others h k = one_each ones others (h.units_are ∙ sym k.units_are) h.edges_are k.edges_are

-- ---- all lists of a load's edges give the same answers

module _ (load : LoadMap) (x y : EdgeMap) (p : AreEdges load x) (q : AreEdges load y) where
  same_successors : AreSameSuccessors (LeadsBy x pulling) (LeadsBy y pulling)
  same_successors u v = (
    λ l. (l.0, (l.1.0, subst (λ (ns : List Name). IsAmong v ns) (one_list_of_edges load x y p q l.0 u) l.1.1)),
    λ l. (l.0, (l.1.0, subst (λ (ns : List Name). IsAmong v ns) (sym (one_list_of_edges load x y p q l.0 u)) l.1.1)),
  )

  one_distances : (from : Name) (a b : List (ℕ × Name)) → IsDistances (Listed (from ∷ [])) (LeadsBy x pulling) name_cmp a
      → IsDistances (Listed (from ∷ [])) (LeadsBy y pulling) name_cmp b → a ≡ b
  one_distances from a b d e =
      one_list_of_distances (Listed (from ∷ [])) (LeadsBy x pulling) name_cmp nat_list_cmp_total a b d (record {
        ascending = e.ascending;
        members = λ k n. (λ h. (same n k).1 ((e.members k n).0 h), λ h. (e.members k n).1 ((same n k).0 h));
      })
    where
      same : (n : Name) (k : ℕ) → IsDistance (Listed (from ∷ [])) (LeadsBy x pulling) n k
          ↔ IsDistance (Listed (from ∷ [])) (LeadsBy y pulling) n k
      same = same_distance (Listed (from ∷ [])) (Listed (from ∷ [])) (LeadsBy x pulling) (LeadsBy y pulling) (λ n. (λ h. h, λ h. h)) same_successors

  one_depths : (name : Name) (a b : List (ℕ × Name)) → IsKnown load name → AreDepths (graph_of load x) name a
      → AreDepths (graph_of load y) name b → a ≡ b
  one_depths name a b known d e = one_distances known.0 a b (d known.0 known.1) (e known.0 known.1)

one_pulled : (load : LoadMap) (name : Name) (a b : List (ℕ × Name)) → IsKnown load name → ArePulled load name a
    → ArePulled load name b → a ≡ b
one_pulled load name a b known d e = one_depths load d.edges e.edges d.edges_are e.edges_are name a b known d.depths_are e.depths_are

module _ (load : LoadMap) (request : Request) (x y : EdgeMap) (p : AreEdges load x) (q : AreEdges load y) where
  planned_by : (plan : PlanMap) → IsPlanned load x request plan → IsPlanned load y request plan
  planned_by plan h = record {
    no_template = h.no_template;
    planned = subst (λ (c : Case Name). IsPlan name_cmp c plan.stop plan.start) (one_case load request x y p q) h.planned;
  }

  caused_by : (why : Why Name) → IsRefused load x request why → IsRefused load y request why
  caused_by why h = record {
    no_template = h.no_template;
    refused = subst (λ (c : Case Name). IsRefusal name_cmp c why) (one_case load request x y p q) h.refused;
  }

  faulted_by : (u : Name) → IsFault load x request u → IsFault load y request u
  faulted_by u (inl f) = inl (caused_by _ f)
  faulted_by u (inr f) = inr (caused_by _ f)

  refused_by : (r : Refusal) → IsRefusalOf load x request r → IsRefusalOf load y request r
  refused_by Template h = h
  refused_by (NotFound u) h = (faulted_by u h.0, h.1)
  refused_by (Masked u) h = (faulted_by u h.0, h.1)
  refused_by (Bad u) h = (faulted_by u h.0, h.1)
  refused_by ManualStart h = caused_by _ h
  refused_by (Requisite u v) h = caused_by _ h
  refused_by (Conflict u v) h = caused_by _ h
  refused_by (Cycle units) h = caused_by _ h
  refused_by Memory h = h

  one_plan_by : (a b : Answer) → IsPlanBy load x request a → IsPlanBy load y request b → a ≡ b
  one_plan_by a b (inl f) (inl g) = f.2 ∙ ap answer.Planned (one_plan load y request f.0 g.0 (planned_by f.0 f.1) g.1) ∙ sym g.2
  one_plan_by a b (inl f) (inr g) = absurd (plan_or_refusal load y request f.0 g.0 (planned_by f.0 f.1) g.1 g.2)
  one_plan_by a b (inr f) (inl g) = absurd (plan_or_refusal load y request g.0 f.0 g.1 (refused_by f.0 f.1) f.2)
  one_plan_by a b (inr f) (inr g) = f.3 ∙ ap answer.Refused (one_refusal_returned load y request f.0 g.0 (refused_by f.0 f.1) g.1 f.2 g.2) ∙ sym g.3

-- ---- answers

one_returned : (load : LoadMap) (question : Question) → AreAtTheirNames load → AreKnown load (names_asked question)
    → (a b : Answer) → IsReturned load question a → IsReturned load question b → a ≡ b
one_returned load (OfUnit viewer name) right known a b f g = f.2 ∙ ap answer.Unit (one_linked load name f.0 g.0 f.1 g.1) ∙ sym g.2
one_returned load (OfPulled viewer name) right known a b f g = f.2 ∙ ap answer.Pulled (one_pulled load name f.0 g.0 (known name (inl refl)) f.1 g.1) ∙ sym g.2
one_returned load (OfPlan request) right known a b f g = one_plan_by load request f.edges g.edges f.edges_are g.edges_are a b f.plan_is g.plan_is
one_returned load (OfUnits viewer) right known a b f g = f.2 ∙ ap answer.Units (one_list_of_units load right f.0 g.0 f.1 g.1) ∙ sym g.2

module _ (s : HostViewMap) (names : List Name) (question : Question)
    (own : (load : LoadMap) → IsLoad s names load → AreKnown load (names_asked question)) (a b : Answer) where
  one_from : IsReturnedFrom s names question a → IsReturnedFrom s names question b → a ≡ b
  one_from f g =
      let same : f.load ≡ g.load = one_load s names f.load g.load f.snapshot.is_load g.snapshot.is_load in
      one_returned g.load question (at_their_names s names g.load g.snapshot.is_load) (own g.load g.snapshot.is_load) a b (subst (λ (l : LoadMap). IsReturned l question a) same f.returned_is) g.returned_is

  one_whole : IsWholeAnswer s names question a → IsWholeAnswer s names question b → a ≡ b
  one_whole (inl f) (inl g) = f.1 ∙ sym g.1
  one_whole (inl f) (inr g) = absurd (g.snapshot.within f.0)
  one_whole (inr f) (inl g) = absurd (f.snapshot.within g.0)
  one_whole (inr f) (inr g) = one_from f g

pub other_hosts_change_nothing : OtherHostsChangeNothing
other_hosts_change_nothing s t extra question place none same a (inl template) = inl template
other_hosts_change_nothing s t extra question place none same a (inr whole) =
    inr (whole.0, subst (λ (v : HostViewMap). IsWholeAnswer v (asked extra question) question a) (other_hosts_are_not_in_view s t (viewer_asked question) place none same) whole.1)

pub one_answer : OneAnswer
one_answer s extra question a b (inl f) (inl g) = f.1 ∙ sym g.1
one_answer s extra question a b (inl f) (inr g) = absurd (g.0 f.0)
one_answer s extra question a b (inr f) (inl g) = absurd (f.0 g.0)
one_answer s extra question a b (inr f) (inr g) = one_whole (host_view_of s (viewer_asked question)) (asked extra question) question (own_are_known (host_view_of s (viewer_asked question)) extra question) a b f.1 g.1
