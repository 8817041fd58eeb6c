-- Laws of loads that are the same but for places: what is looked up in them is the same, and so are their edges.
use Rattle.std.proofs.Common.{◌∷◌, ◌≡◌}
use Rattle.tree_answers.specs.Prelude.{[], All-weaker, ap, AreEdges, AreEdgesFrom, AreEdgesOf, Bool, cond, DependencyList, DepKind, EdgeMap, false, find, HostViewMap, IsEdge, IsEdgeAmong, IsUnitIn, is_eq, keys_of, List, LoadedUnit, LoadMap, main_in, main_part, Name, NameLoad, name_cmp, None, Option, option_and_then, option_map, Profile, refl, same_Some, Some, subst, sym, true, unit_in, unit_part, ◌∙◌}
use Rattle.tree_answers.specs.{Alike.{AreSameUnits}, SameLoads.{AreSamePairs, IsSameFound, IsSameOne, IsSameUnitFound}, TwinLaws.{AreTwins, turned_twin, twin_edge, twin_of}}
use Rattle.parallel_load.specs.declared.loaded.NameLoad.TheVariants as one

module _ (v w : HostViewMap) where
  -- ---- what is found

  step : (b : Bool) (x y : NameLoad) (o p : Option NameLoad) → IsSameOne v w x y → IsSameFound v w o p
      → IsSameFound v w (cond b (Some x) o) (cond b (Some y) p)
  step true x y o p same rest = (y, same, refl)
  step false x y o p same rest = rest

  found : (n : Name) (es fs : List (Name × NameLoad)) → AreSamePairs v w es fs
      → IsSameFound v w (find name_cmp n es) (find name_cmp n fs)
  found n [] [] h = refl
  found n [] (f ∷ fs) h = absurd h
  found n (e ∷ es) [] h = absurd h
  found n (e ∷ es) (f ∷ fs) h =
      let first : Option NameLoad = cond (is_eq (name_cmp n e.0)) (Some e.1) (find name_cmp n es) in
      let P : Name → Type 0 = λ k. IsSameFound v w first (cond (is_eq (name_cmp n k)) (Some f.1) (find name_cmp n fs)) in
      subst P (sym h.0) (step (is_eq (name_cmp n e.0)) e.1 f.1 (find name_cmp n es) (find name_cmp n fs) h.1 (found n es fs h.2))

  pub keys_same : (es fs : List (Name × NameLoad)) → AreSamePairs v w es fs → keys_of fs ≡ keys_of es
  keys_same [] [] h = refl
  keys_same [] (f ∷ fs) h = absurd h
  keys_same (e ∷ es) [] h = absurd h
  keys_same (e ∷ es) (f ∷ fs) h = (λ i. h.0 i ∷ keys_same es fs h.2 i)

  part_same : (x y : NameLoad) → IsSameOne v w x y → IsSameUnitFound v w (unit_part x) (unit_part y)
  part_same (one.Unit u) y (t, same, at) = (t, same, ap unit_part at)
  part_same (one.Alias m) y at = ap unit_part at

  found_part : (o p : Option NameLoad) → IsSameFound v w o p
      → IsSameUnitFound v w (option_and_then unit_part o) (option_and_then unit_part p)
  found_part None p e = ap (option_and_then unit_part) e
  found_part (Some x) p (y, same, at) =
      subst (λ (q : Option NameLoad). IsSameUnitFound v w (unit_part x) (option_and_then unit_part q)) (sym at) (part_same x y same)

  main_same : (x y : NameLoad) → IsSameOne v w x y → main_part y ≡ main_part x
  main_same (one.Unit u) y (t, same, at) = ap main_part at ∙ same.name_is
  main_same (one.Alias m) y at = ap main_part at

  found_main : (o p : Option NameLoad) → IsSameFound v w o p → option_map main_part p ≡ option_map main_part o
  found_main None p e = ap (option_map main_part) e
  found_main (Some x) p (y, same, at) = ap (option_map main_part) at ∙ ap Some (main_same x y same)

  module _ (load other : LoadMap) (same : AreSamePairs v w load.names other.names) where
    pub units_found : (n : Name) → IsSameUnitFound v w (unit_in load n) (unit_in other n)
    units_found n = found_part (find name_cmp n load.names) (find name_cmp n other.names) (found n load.names other.names same)

    pub mains_found : (n : Name) → main_in other n ≡ main_in load n
    mains_found n = found_main (find name_cmp n load.names) (find name_cmp n other.names) (found n load.names other.names same)

    pub unit_there : (n : Name) (u : LoadedUnit) → unit_in load n ≡ Some u
        → (t : LoadedUnit) × AreSameUnits v w u t × (unit_in other n ≡ Some t)
    unit_there n u e = subst (λ (o : Option LoadedUnit). IsSameUnitFound v w o (unit_in other n)) e (units_found n)

    pub unit_back : (n : Name) (t : LoadedUnit) → unit_in other n ≡ Some t
        → (u : LoadedUnit) × AreSameUnits v w u t × (unit_in load n ≡ Some u)
    unit_back n t e = by (unit_in load n) refl (units_found n)
      where
        by : (o : Option LoadedUnit) → unit_in load n ≡ o → IsSameUnitFound v w o (unit_in other n)
            → (u : LoadedUnit) × AreSameUnits v w u t × (unit_in load n ≡ Some u)
        by None at f = let wrong : None ≡ Some t = sym f ∙ e in cc (wrong)
        by (Some u) at (x, is, f) = (u, subst (AreSameUnits v w u) (same_Some _ _ (sym f ∙ e)) is, at)

    pub stands_there : (n : Name) → IsUnitIn load n → IsUnitIn other n
    stands_there n (u, e) = let t = unit_there n u e in (t.0, t.2)

    pub stands_back : (n : Name) → IsUnitIn other n → IsUnitIn load n
    stands_back n (t, e) = let u = unit_back n t e in (u.0, u.2)

    -- ---- edges

    twins_there : AreTwins load.names other.names
    twins_there n u e = let t = unit_there n u e in (t.0, twin_of v w u t.0 t.1, t.2)

    twins_back : AreTwins other.names load.names
    twins_back n t e = let u = unit_back n t e in (u.0, turned_twin u.0 t (twin_of v w u.0 t u.1), u.2)

    -- by one profile the edges are the same
    module _ (profile : load.viewer.profile ≡ other.viewer.profile) where
      edge_there : (dep : DepKind) (a b : Name) → IsEdge load dep a b → IsEdge other dep a b
      edge_there dep a b e =
          twin_edge other.viewer.profile load.names other.names twins_there twins_back dep a b
          (subst (λ (by : Profile). IsEdgeAmong by load.names dep a b) profile e)

      edge_back : (dep : DepKind) (a b : Name) → IsEdge other dep a b → IsEdge load dep a b
      edge_back dep a b e =
          subst (λ (by : Profile). IsEdgeAmong by load.names dep a b) (sym profile)
          (twin_edge other.viewer.profile other.names load.names twins_back twins_there dep a b e)

      edges_from : (dep : DepKind) (a : Name) (names : List Name) → AreEdgesFrom load dep a names → AreEdgesFrom other dep a names
      edges_from dep a names are = record {
        ascending = are.ascending;
        exact = λ b. (λ among. edge_there dep a b ((are.exact b).0 among), λ e. (are.exact b).1 (edge_back dep a b e));
      }

      pub edges_there : (all : EdgeMap) → AreEdges load all → AreEdges other all
      edges_there all are = record {
        names = are.names ∙ sym (keys_same load.names other.names same);
        in_order = are.in_order;
        lists = λ dep a. edges_from dep a _ (are.lists dep a);
      }

      pub edges_of_there : (a : Name) (lists : List DependencyList) → AreEdgesOf load a lists → AreEdgesOf other a lists
      edges_of_there a lists are =
          let P : DependencyList → Type 0 = λ list. AreEdgesFrom load list.kind a list.names in
          let Q : DependencyList → Type 0 = λ list. AreEdgesFrom other list.kind a list.names in
          record { kinds_are = are.kinds_are; each = All-weaker P Q (λ list e. edges_from list.kind a list.names e) lists are.each }
