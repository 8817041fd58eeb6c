-- Laws of loads: where two views are alike but for places, and no unit of the universe is crossed, each load of the one has a
-- counterpart in the other.
use Rattle.std.proofs.Common.{◌∷◌, ◌≡◌}
use Rattle.tree_answers.specs.Prelude.{[], All, All-cons, All-head, All-nil, All-tail, ap, AreLoaded, AreNamedAlone, AreOwnLinkTargets, AreUniverse, by_mains, contains_from_among, DependencyList, filter, HasOwnLinkTargets, HostViewMap, inl, inr, in_byte_order, IsAmong, IsInUniverse, IsListed, IsLoad, IsLoadedUnit, IsName, IsNamedAlone, IsNameLoad, IsStrictlySortedBy, IsTooLarge, IsUnit, is_same, keys_of, link_targets, List, lists_have_what_is_named, list_by_mains, LoadedUnit, LoadMap, main, mains_have_units, map, Name, NamedWords, NameLoad, name_cmp, not, one_unit, ReadsAlike, refl, subst, sym, viewer_of, ◌∙◌}
use Rattle.tree_answers.specs.{Alike.{AreSameUnits}, SameLoads.{AreSamePairs, IsSameOne}, UniverseLaws.{HaveUnits, IsAlike, large_back, mains_over, named_is_name, universe_name, universe_there}}
use Rattle.parallel_load.specs.declared.loaded.NameLoad.TheVariants as one

-- ---- dependencies by main names

-- what a unit lists is a unit's name
listed_name : (v : HostViewMap) (n : Name) (u : LoadedUnit) → IsUnit v n u → (list : DependencyList) → IsAmong list u.deps
    → (m : Name) → IsAmong m list.names → IsName m
listed_name v n u is list there m among =
    let listed : IsListed u.deps list.kind m =
    record {
      list = list;
      there = contains_from_among list u.deps there;
      kind_is = refl;
      has_name = contains_from_among m list.names among;
    } in
    named_is_name v n list.kind m ((lists_have_what_is_named v n u list.kind m is).0 listed)

module _ (v w : HostViewMap) (over : IsAlike v w) where
  mapped_alike : (names : List Name) → ((m : Name) → IsAmong m names → IsName m) → map (main w) names ≡ map (main v) names
  mapped_alike [] good = refl
  mapped_alike (x ∷ xs) good = (λ i. mains_over v w over x (good x (inl refl)) i ∷ mapped_alike xs (λ m h. good m (inr h)) i)

  list_with : DependencyList → List Name → DependencyList
  list_with list names = record { kind = list.kind; names = names }

  list_alike : (unit : Name) (list : DependencyList) → ((m : Name) → IsAmong m list.names → IsName m)
      → list_by_mains (main w) unit list ≡ list_by_mains (main v) unit list
  unfolding list_with
  list_alike unit list good =
      ap (λ names. list_with list (in_byte_order (filter (λ m. not (is_same m unit)) names))) (mapped_alike list.names good)

  lists_alike : (unit : Name) (lists : List DependencyList)
      → ((list : DependencyList) → IsAmong list lists → (m : Name) → IsAmong m list.names → IsName m)
      → map (list_by_mains (main w) unit) lists ≡ map (list_by_mains (main v) unit) lists
  lists_alike unit [] good = refl
  lists_alike unit (l ∷ ls) good =
      (λ i. list_alike unit l (good l (inl refl)) i ∷ lists_alike unit ls (λ k h. good k (inr h)) i)

  -- The same units are the same by main names.
  by_mains_alike : (n : Name) (u t : LoadedUnit) → IsUnit v n u → AreSameUnits v w u t
      → AreSameUnits v w (by_mains (main v) u) (by_mains (main w) t)
  by_mains_alike n u t is same = record {
    name_is = same.name_is;
    names_are = same.names_are;
    status_is = same.status_is;
    files_are = same.files_are;
    contents_are = same.contents_are;
    values_are = same.values_are;
    deps_are =
        (λ i. map (list_by_mains (main w) (same.name_is i)) (same.deps_are i)) ∙ lists_alike u.name u.deps (listed_name v n u is);
    notes_are = same.notes_are;
    manual_is = same.manual_is;
    defaults_are = same.defaults_are;
    mounts_are = same.mounts_are;
  }

-- ---- link targets

-- these names, each with its link targets
abbrev with_targets : HostViewMap → List Name → NamedWords
with_targets w names = map (λ n. (n, link_targets w n)) names

keys_there : (w : HostViewMap) (names : List Name) → keys_of (with_targets w names) ≡ names
keys_there w [] = refl
keys_there w (n ∷ names) = ap (λ ns. n ∷ ns) (keys_there w names)

targets_there : (w : HostViewMap) (names : List Name) → All (HasOwnLinkTargets w) (with_targets w names)
targets_there w [] = All-nil (HasOwnLinkTargets w)
targets_there w (n ∷ names) =
    All-cons (HasOwnLinkTargets w) (n, link_targets w n) (with_targets w names) refl (targets_there w names)

-- The visible names of one view, with the link targets of the other, are those of the other.
words_over : (v w : HostViewMap) → IsAlike v w → (words : NamedWords) → AreOwnLinkTargets v words
    → AreOwnLinkTargets w (with_targets w (keys_of words))
words_over v w over words are =
    let same = sym (keys_there w (keys_of words)) in
    record {
      ascending = subst (IsStrictlySortedBy name_cmp) same are.ascending;
      shown = λ n. (
        λ h. (over.shown n).0 ((are.shown n).0 (subst (IsAmong n) (sym same) h)),
        λ h. subst (IsAmong n) same ((are.shown n).1 ((over.shown n).1 h)),
      );
      words = targets_there w (keys_of words);
    }

-- ---- what a name resolves to

-- What a name of the other view resolves to, and what its lists are as it is loaded alone.
record IsCounterpart (v w : HostViewMap) (n : Name) (x : NameLoad) : Type 0 where
  other : NameLoad
  is : IsNameLoad w n other
  same : IsSameOne v w x other
  lists : (ls : List DependencyList) → IsNamedAlone v n x ls → IsNamedAlone w n other ls

record AreCounterparts (v w : HostViewMap) (pairs : List (Name × NameLoad)) : Type 0 where
  others : List (Name × NameLoad)
  keys_are : keys_of others ≡ keys_of pairs
  loaded : AreLoaded (IsNameLoad w) others
  same : AreSamePairs v w pairs others
  lists : (all : List (List DependencyList)) → AreNamedAlone v pairs all → AreNamedAlone w others all

-- A load of the other view, the same but for places.
pub record HasLoad (v w : HostViewMap) (extra : List Name) (load : LoadMap) : Type 0 where
  pub other : LoadMap
  pub is_load : IsLoad w extra other
  pub same : AreSamePairs v w load.names other.names

module _ (v w : HostViewMap) where
  no_lists : (all : List (List DependencyList)) → AreNamedAlone v [] all → AreNamedAlone w [] all
  no_lists [] h = tt
  no_lists (l ∷ ls) h = absurd h

  more_lists : (p q : Name × NameLoad) (ps qs : List (Name × NameLoad))
      → ((l : List DependencyList) → IsNamedAlone v p.0 p.1 l → IsNamedAlone w q.0 q.1 l)
      → ((ls : List (List DependencyList)) → AreNamedAlone v ps ls → AreNamedAlone w qs ls)
      → (all : List (List DependencyList)) → AreNamedAlone v (p ∷ ps) all → AreNamedAlone w (q ∷ qs) all
  more_lists p q ps qs first rest [] h = absurd h
  more_lists p q ps qs first rest (l ∷ ls) h = (first l h.0, rest ls h.1)

  module _ (over : IsAlike v w) (n : Name) (good : IsName n) where
    of_alias : (m : Name) → IsNameLoad v n (one.Alias m) → IsCounterpart v w n (one.Alias m)
    of_alias m p = record {
      other = one.Alias m;
      is = record { main_is = mains_over v w over n good ∙ p.main_is; other = p.other };
      same = refl;
      lists = λ ls h. record {
        alone = record { main_is = mains_over v w over n good ∙ h.alone.main_is; other = h.alone.other };
        lists_are = h.lists_are;
      };
    }

    of_unit : (u : LoadedUnit) (p : IsLoadedUnit v n u) (t : LoadedUnit) → IsUnit w n t → AreSameUnits v w p.alone t
        → IsCounterpart v w n (one.Unit u)
    of_unit u p t is same =
        record {
          other = one.Unit (by_mains (main w) t);
          is = record { alone = t; is_unit = is; by_mains_is = refl };
          same = (
            by_mains (main w) t,
            subst (λ (y : LoadedUnit). AreSameUnits v w y (by_mains (main w) t)) (sym p.by_mains_is)
                (by_mains_alike v w over n p.alone t p.is_unit same),
            refl,
          );
          lists = λ ls h.
              (let before : LoadedUnit = record u { deps = ls } in
              let lists_are : ls ≡ p.alone.deps =
              ap (λ (y : LoadedUnit). y.deps) (one_unit v n before p.alone h.alone p.is_unit) in
              record {
                alone =
                    subst (λ (ds : List DependencyList). let after : LoadedUnit = record t { deps = ds } in IsUnit w n after)
                    (same.deps_are ∙ sym lists_are) is;
                lists_are = refl;
              });
        }

  module _ (over : IsAlike v w) (extra : List Name) (good : (n : Name) → IsAmong n extra → IsName n)
      (reads : (n : Name) (u : LoadedUnit) → IsInUniverse v extra n → IsUnit v n u → ReadsAlike v w u.names) where
    counterpart : (n : Name) (x : NameLoad) → IsInUniverse v extra n → IsNameLoad v n x → IsCounterpart v w n x
    counterpart n (one.Unit u) r p =
        let name = universe_name v extra good n r in
        let t = over.units n name p.alone p.is_unit (reads n p.alone r p.is_unit) in
        of_unit over n name u p t.0 t.1 t.2
    counterpart n (one.Alias m) r p = of_alias over n (universe_name v extra good n r) m p

    counterparts : (pairs : List (Name × NameLoad)) → ((n : Name) → IsAmong n (keys_of pairs) → IsInUniverse v extra n)
        → AreLoaded (IsNameLoad v) pairs → AreCounterparts v w pairs
    counterparts [] inside loaded = record {
      others = [];
      keys_are = refl;
      loaded = All-nil (λ (p : Name × NameLoad). IsNameLoad w p.0 p.1);
      same = tt;
      lists = no_lists;
    }
    counterparts (p ∷ ps) inside loaded =
        let P : Name × NameLoad → Type 0 = λ p. IsNameLoad v p.0 p.1 in
        let Q : Name × NameLoad → Type 0 = λ p. IsNameLoad w p.0 p.1 in
        let first = counterpart p.0 p.1 (inside p.0 (inl refl)) (All-head P p ps loaded) in
        let rest = counterparts ps (λ n h. inside n (inr h)) (All-tail P p ps loaded) in
        record {
          others = (p.0, first.other) ∷ rest.others;
          keys_are = ap (λ ns. p.0 ∷ ns) rest.keys_are;
          loaded = All-cons Q (p.0, first.other) rest.others first.is rest.loaded;
          same = (refl, first.same, rest.same);
          lists = more_lists p (p.0, first.other) ps rest.others first.lists rest.lists;
        }

    module _ (load : LoadMap) (l : IsLoad v extra load) where
      -- each main name of the universe has its unit in the load
      unit_of : (n : Name) → IsInUniverse v extra n → main v n ≡ n → (u : LoadedUnit) × IsUnit v n u
      unit_of n r own =
          let has = mains_have_units v extra load n l r in
          let u = subst (λ (m : Name). IsLoadedUnit v m has.unit) own has.is_unit in
          (u.alone, u.is_unit)

      have : HaveUnits v w over extra good reads
      have n m r (inl h) = unit_of n r h.own
      have n m r (inr h) = unit_of n r (sym (mains_over v w over n (universe_name v extra good n r)) ∙ h.own)

      pub load_there : HasLoad v w extra load
      load_there =
          let c = counterparts load.names (λ n. (l.universe.members n).0) l.loaded in
          record {
            other = record {
              viewer = viewer_of w;
              extra = load.extra;
              names = c.others;
              named = load.named;
              words = with_targets w (keys_of load.words);
            };
            is_load = record {
              viewer_is = refl;
              extra_is = l.extra_is;
              universe =
                  subst (AreUniverse w extra) (sym c.keys_are)
                  (universe_there v w over extra good reads have (keys_of load.names) l.universe);
              loaded = c.loaded;
              named = c.lists load.named l.named;
              words = words_over v w over load.words l.words;
            };
            same = c.same;
          }

      pub still_small : ¬ IsTooLarge v extra → ¬ IsTooLarge w extra
      still_small small large = small (large_back v w over extra good reads have large)
