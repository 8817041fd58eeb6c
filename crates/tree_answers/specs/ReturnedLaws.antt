-- Laws of what loads answer: a load that is the same but for places answers each question the same, whatever host it is for.
use Rattle.std.proofs.Common.{◌∷◌, ◌≡◌}
use Rattle.tree_answers.specs.Prelude.{[], All, All-cons, All-head, All-nil, All-tail, among_find, Answer, ap, AreEdgesOf, AreLinkedUnits, ArePulled, cons_option, filter_map, HostViewMap, inl, inr, IsAmong, IsLinkedUnit, IsLoad, IsLoadedUnit, IsPlanReturned, IsReturned, IsUnitWithEdges, LinkedUnit, List, LoadedUnit, LoadMap, map, Name, name_cmp, NameLoad, nat_list_cmp_total, of_fleet, option_and_then, Question, refl, Request, Some, sorted_from, subst, sym, unit_in, unit_part, units_are_their_own_mains, Viewer, without_host, ℕ, ◌∙◌}
use Rattle.tree_answers.specs.{Alike.{AreAllSame, AreSameAnswers, AreSameLinked, AreSameUnits}, FoundLaws.{edges_of_there, edges_there, mains_found, stands_back, unit_there}, PlanLaws.{plan_there}, SameLoads.{AreSamePairs, IsSameOne}}
use Rattle.parallel_load.specs.declared.loaded.NameLoad.TheVariants as one
use Rattle.fleet_answers.specs.declared.questions.Answer.TheVariants as answer
use Rattle.fleet_answers.specs.declared.questions.Question.TheVariants as question

-- the unit of a load has the name under which it stands
unit_name : (v : HostViewMap) (n : Name) (u : LoadedUnit) → IsLoadedUnit v n u → u.name ≡ n
unit_name v n u p = ap (λ (x : LoadedUnit). x.name) p.by_mains_is ∙ p.is_unit.name_is

-- what stands under a name is found under it
found_under : (v : HostViewMap) (extra : List Name) (load : LoadMap) → IsLoad v extra load → (n : Name) (u : LoadedUnit)
    → IsAmong {X = Name × NameLoad} (n, one.Unit u) load.names → unit_in load n ≡ Some u
found_under v extra load l n u among =
    ap (option_and_then unit_part)
    (among_find name_cmp nat_list_cmp_total n (one.Unit u) load.names (sorted_from load.names l.universe.ascending) among)

module _ (v w : HostViewMap) (extra : List Name) (load other : LoadMap) (l : IsLoad v extra load) (k : IsLoad w extra other)
    (same : AreSamePairs v w load.names other.names) (profile : v.profile ≡ w.profile) where
  -- the loads are by one profile
  one_profile : load.viewer.profile ≡ other.viewer.profile
  one_profile = ap (λ (x : Viewer). x.profile) l.viewer_is ∙ profile ∙ sym (ap (λ (x : Viewer). x.profile) k.viewer_is)

  -- ---- one unit

  linked_there : (name : Name) (x : LinkedUnit) → IsLinkedUnit load name x
      → (y : LinkedUnit) × AreSameLinked v w x y × IsLinkedUnit other name y
  linked_there name x is =
      let t = unit_there v w load other same is.main x.unit is.unit_is in
      let y : LinkedUnit = record { unit = t.0; edges = x.edges } in (
        y,
        record { unit_is = t.1; edges_are = refl },
        record {
          main = is.main;
          main_is = mains_found v w load other same name ∙ is.main_is;
          unit_is = t.2;
          edges_are = edges_of_there v w load other same one_profile is.main x.edges is.edges_are;
        },
      )

  -- ---- all units

  abbrev HasEdges : LoadMap → LinkedUnit → Type 0
  HasEdges at x = (main : Name) × IsUnitWithEdges at main x

  abbrev units_of : List (Name × NameLoad) → List LoadedUnit
  units_of es = filter_map (λ p. unit_part p.1) es

  -- these units of the other load, with the edges of those
  record AreThere (xs : List LinkedUnit) (units : List LoadedUnit) : Type 0 where
    linked : List LinkedUnit
    alike : AreAllSame v w xs linked
    units_are : map (λ (x : LinkedUnit). x.unit) linked ≡ units
    edges_are : All (HasEdges other) linked

  -- a unit that stands under a name has its edges under it
  edges_under : (n : Name) (u : LoadedUnit) (x : LinkedUnit) → x.unit ≡ u → IsAmong {X = Name × NameLoad} (n, one.Unit u) load.names
      → HasEdges load x → AreEdgesOf load n x.edges
  edges_under n u x e among (main, h) =
      let here = (units_are_their_own_mains v extra load n u l (found_under v extra load l n u among)).2 in
      let there = (units_are_their_own_mains v extra load main x.unit l h.unit_is).2 in
      let is : main ≡ n = sym (unit_name v main x.unit there) ∙ ap (λ (y : LoadedUnit). y.name) e ∙ unit_name v n u here in
      subst (λ (m : Name). AreEdgesOf load m x.edges) is h.edges_are

  unit_step : (n m : Name) (u t : LoadedUnit) (ts : List LoadedUnit) → m ≡ n → AreSameUnits v w u t
      → IsAmong {X = Name × NameLoad} (n, one.Unit u) load.names → IsAmong {X = Name × NameLoad} (m, one.Unit t) other.names
      → (x : LinkedUnit) (xs : List LinkedUnit) → x.unit ≡ u → HasEdges load x → AreThere xs ts → AreThere (x ∷ xs) (t ∷ ts)
  unit_step n m u t ts key alike in_load in_other x xs e h rest =
      let y : LinkedUnit = record { unit = t; edges = x.edges } in
      let edges = subst (λ (a : Name). AreEdgesOf load a x.edges) (sym key) (edges_under n u x e in_load h) in
      let linked : IsUnitWithEdges other m y =
      record { unit_is = found_under w extra other k m t in_other; edges_are = edges_of_there v w load other same one_profile m x.edges edges } in
      record {
        linked = y ∷ rest.linked;
        alike =
            (record { unit_is = subst (λ (a : LoadedUnit). AreSameUnits v w a t) (sym e) alike; edges_are = refl }, rest.alike);
        units_are = ap (λ ys. t ∷ ys) rest.units_are;
        edges_are = All-cons (HasEdges other) y rest.linked (m, linked) rest.edges_are;
      }

  pair_step : (n m : Name) (x y : NameLoad) (us ts : List LoadedUnit) → m ≡ n → IsSameOne v w x y
      → IsAmong {X = Name × NameLoad} (n, x) load.names → IsAmong {X = Name × NameLoad} (m, y) other.names
      → ((xs : List LinkedUnit) → map (λ (z : LinkedUnit). z.unit) xs ≡ us → All (HasEdges load) xs → AreThere xs ts)
      → (xs : List LinkedUnit) → map (λ (z : LinkedUnit). z.unit) xs ≡ cons_option (unit_part x) us → All (HasEdges load) xs
      → AreThere xs (cons_option (unit_part y) ts)
  pair_step n m (one.Unit u) y us ts key (t, alike, at) in_load in_other rest [] e all = cc (e)
  pair_step n m (one.Unit u) y us ts key (t, alike, at) in_load in_other rest (x ∷ xs) e all =
      let first : x.unit ≡ u = cc (e) in
      let more : map (λ (z : LinkedUnit). z.unit) xs ≡ us = cc (e) in
      let P : NameLoad → Type 0 = λ z. IsAmong {X = Name × NameLoad} (m, z) other.names in
      let Q : NameLoad → Type 0 = λ z. AreThere (x ∷ xs) (cons_option (unit_part z) ts) in
      subst Q (sym at)
      (unit_step n m u t ts key alike in_load (subst P at in_other) x xs first (All-head (HasEdges load) x xs all)
      (rest xs more (All-tail (HasEdges load) x xs all)))
  pair_step n m (one.Alias of) y us ts key at in_load in_other rest xs e all =
      let Q : NameLoad → Type 0 = λ z. AreThere xs (cons_option (unit_part z) ts) in
      subst Q (sym at) (rest xs e all)

  all_there : (es fs : List (Name × NameLoad)) → AreSamePairs v w es fs
      → ((p : Name × NameLoad) → IsAmong p es → IsAmong p load.names) → ((p : Name × NameLoad) → IsAmong p fs → IsAmong p other.names)
      → (xs : List LinkedUnit) → map (λ (z : LinkedUnit). z.unit) xs ≡ units_of es → All (HasEdges load) xs → AreThere xs (units_of fs)
  all_there [] [] h inside within [] e all =
      record { linked = []; alike = tt; units_are = refl; edges_are = All-nil (HasEdges other) }
  all_there [] [] h inside within (x ∷ xs) e all = cc (e)
  all_there [] (f ∷ fs) h inside within xs e all = absurd h
  all_there (p ∷ es) [] h inside within xs e all = absurd h
  all_there (p ∷ es) (f ∷ fs) h inside within xs e all =
      pair_step p.0 f.0 p.1 f.1 (units_of es) (units_of fs) h.0 h.1 (inside p (inl refl)) (within f (inl refl))
      (all_there es fs h.2 (λ q among. inside q (inr among)) (λ q among. within q (inr among))) xs e all

  units_there : (xs : List LinkedUnit) → AreLinkedUnits load xs → (ys : List LinkedUnit) × AreAllSame v w xs ys × AreLinkedUnits other ys
  units_there xs are =
      let r = all_there load.names other.names same (λ p h. h) (λ p h. h) xs are.units_are are.edges_are in
      (r.linked, r.alike, record { units_are = r.units_are; edges_are = r.edges_are })

  -- ---- what is pulled

  pulled_there : (name : Name) (pairs : List (ℕ × Name)) → ArePulled load name pairs → ArePulled other name pairs
  pulled_there name pairs are = record {
    edges = are.edges;
    edges_are = edges_there v w load other same one_profile are.edges are.edges_are;
    depths_are = λ main stands.
        are.depths_are main
        (record {
          main_is = sym (mains_found v w load other same name) ∙ stands.main_is;
          unit = stands_back v w load other same main stands.unit;
        });
  }

  -- ---- answers

  plan_over : (request : Request) (a : Answer) → IsPlanReturned load request a
      → (b : Answer) × IsPlanReturned other (record request { viewer = of_fleet request.viewer.profile }) b × AreSameAnswers v w a b
  plan_over request a returned =
      let plan = plan_there v w load other same one_profile returned.edges request a returned.plan_is in (
        plan.0,
        record { edges = returned.edges; edges_are = edges_there v w load other same one_profile returned.edges returned.edges_are; plan_is = plan.1 },
        plan.2,
      )

  pub returned_there : (asking : Question) (a : Answer) → IsReturned load asking a
      → (b : Answer) × IsReturned other (without_host asking) b × AreSameAnswers v w a b
  returned_there (question.Unit viewer name) a (x, is, at) =
      let y = linked_there name x is in (
        answer.Unit y.0,
        (y.0, y.2, refl),
        subst (λ (z : Answer). AreSameAnswers v w z (answer.Unit y.0)) (sym at) (y.0, y.1, refl),
      )
  returned_there (question.Pulled viewer name) a (pairs, are, at) = (
    answer.Pulled pairs,
    (pairs, pulled_there name pairs are, refl),
    subst (λ (z : Answer). AreSameAnswers v w z (answer.Pulled pairs)) (sym at) refl,
  )
  returned_there (question.Plan request) a returned = plan_over request a returned
  returned_there (question.Units viewer) a (xs, are, at) =
      let ys = units_there xs are in (
        answer.Units ys.0,
        (ys.0, ys.2, refl),
        subst (λ (z : Answer). AreSameAnswers v w z (answer.Units ys.0)) (sym at) (ys.0, ys.1, refl),
      )
