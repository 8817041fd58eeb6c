-- Names that are asked for count only where nothing is visible: lists with the same sources give the same load.
-- Source: this project's own.
use Rattle.std.proofs.Common.{◌↔◌, ◌≡◌, ◌⊎◌}
use Rattle.parallel_load.specs.{Loads.{IsLoad, LoadMap}, Prelude.{Files, HostViewMap, inl, inr, IsAmong, IsAmong-append_cases, IsAmong-append_left, List, Manager, Name, name_cmp, perpetual_units, Profile, refl, same_closure, same_reached, subst, sym}, Universe.{AreUniverse, asked_by, IsSource, IsTooLarge, LeadsTo}}

-- each of these names is visible, or is one of the others
abbrev pub AreSources : HostViewMap → List Name → List Name → Type 0
AreSources s others names = (n : Name) → IsAmong n names → IsSource s others n

-- the load, with these as the names that were asked for
abbrev pub asked_for : List Name → LoadMap → LoadMap
asked_for extra load = record load { extra = extra }

-- if each name of either list is visible or is in the other list, both lists give the same load, but for the list
-- itself
abbrev pub SourcesMakeTheLoad : Type 0
SourcesMakeTheLoad =
    (s : HostViewMap) (a b : List Name) (load : LoadMap) → AreSources s a b → AreSources s b a → IsLoad s a load
    → IsLoad s b (asked_for b load)

-- and both universes are too large, or neither is
abbrev pub SourcesMakeTheSize : Type 0
SourcesMakeTheSize = (s : HostViewMap) (a b : List Name) → AreSources s a b → AreSources s b a → IsTooLarge s a → IsTooLarge s b

-- what a load for some names asks for, a load for others has, if these names are its sources
asked_too : (s : HostViewMap) (a b : List Name) → AreSources s b a → (n : Name) → IsAmong n (asked_by s.profile a) → IsSource s b n
asked_too s a b sources n h = by s.profile refl h
  where
    by : (profile : Profile) → s.profile ≡ profile → IsAmong n (asked_by profile a) → IsSource s b n
    by Files e h = sources n h
    by Manager e h = of_manager (IsAmong-append_cases n perpetual_units a h)
      where
        of_manager : IsAmong n perpetual_units ⊎ IsAmong n a → IsSource s b n
        of_manager (inl p) = inl (subst (λ (by : Profile). IsAmong n (asked_by by b)) (sym e) (IsAmong-append_left n perpetual_units b p))
        of_manager (inr q) = sources n q

module _ (s : HostViewMap) (a b : List Name) (there : AreSources s a b) (back : AreSources s b a) where
  same_sources : (n : Name) → IsSource s a n ↔ IsSource s b n
  same_sources n = (to, from)
    where
      to : IsSource s a n → IsSource s b n
      to (inl h) = asked_too s a b back n h
      to (inr v) = inr v

      from : IsSource s b n → IsSource s a n
      from (inl h) = asked_too s b a there n h
      from (inr v) = inr v

  same_steps : (n m : Name) → LeadsTo s n m ↔ LeadsTo s n m
  same_steps n m = (λ h. h, λ h. h)

  same_universe : (names : List Name) → AreUniverse s a names → AreUniverse s b names
  same_universe names u = same_closure (IsSource s a) (IsSource s b) (LeadsTo s) (LeadsTo s) same_sources same_steps name_cmp names u

  same_size : IsTooLarge s a → IsTooLarge s b
  same_size h = record {
    nodes = h.nodes;
    ascending = h.ascending;
    reached = λ n among. (same_reached (IsSource s a) (IsSource s b) (LeadsTo s) (LeadsTo s) same_sources same_steps n).0 (h.reached n among);
    over = h.over;
  }

  same_load : (load : LoadMap) → IsLoad s a load → IsLoad s b (asked_for b load)
  same_load load l = record {
    viewer_is = l.viewer_is;
    extra_is = refl;
    universe = same_universe _ l.universe;
    loaded = l.loaded;
    named = l.named;
    words = l.words;
  }

pub sources_make_the_load : SourcesMakeTheLoad
sources_make_the_load s a b load there back l = same_load s a b there back load l

pub sources_make_the_size : SourcesMakeTheSize
sources_make_the_size s a b there back h = same_size s a b there back h
