-- What stays of a load. The universe stays if aliases and visible names stay, no unit names anything outside it, and no
-- unit loses a name but a source.
-- Source: this project's own.
use Rattle.std.proofs.Common.{◌↔◌, ◌∷◌, ◌≡◌, ◌⊎◌}
use Rattle.parallel_load.specs.Prelude.{[], ap, closure_stays, DependencyList, DepKind, filter, HostViewMap, in_byte_order, inl, inr, is_same, IsAmong, IsListed, IsReached, IsUnit, leads_decide_mains, link_targets_show, List, lists_have_what_is_named, LoadedUnit, main, map, Name, name_cmp, not, Profile, reached_closed, refl, same_closure, SameLeads, SameWords, subst, sym, ◌∙◌}
use Rattle.parallel_load.specs.{Loads.{by_mains, list_by_mains}, Universe.{AreUniverse, asked_by, IsInUniverse, IsSource, IsVisibleName, LeadsTo, Names}}

-- something is visible at the same names
abbrev pub SameVisibleNames : HostViewMap → HostViewMap → Type 0
SameVisibleNames s t = (n : Name) → IsVisibleName s n ↔ IsVisibleName t n

-- views with equal link targets have the same visible names
abbrev pub WordsKeepVisibleNames : Type 0
WordsKeepVisibleNames = (s t : HostViewMap) → SameWords s t → SameVisibleNames s t

-- the unit's lists have the name, for some kind
abbrev pub NamesIn : LoadedUnit → Name → Type 0
NamesIn unit m = (dep : DepKind) × IsListed unit.deps dep m

-- Of a name's units in both views: each name of the old one is a name of the new one or a source, and each name of the
-- new one is in the universe.
pub record NamesWithin (s t : HostViewMap) (extra : List Name) (n : Name) : Type 0 where
  pub before : LoadedUnit
  pub after : LoadedUnit
  pub is_before : IsUnit s n before
  pub is_after : IsUnit t n after
  pub kept : (m : Name) → NamesIn before m → NamesIn after m ⊎ IsSource s extra m
  pub known : (m : Name) → NamesIn after m → IsInUniverse s extra m

-- the units of a name in both views name the same
pub record KeepsItsNames (s t : HostViewMap) (n : Name) : Type 0 where
  pub before : LoadedUnit
  pub after : LoadedUnit
  pub is_before : IsUnit s n before
  pub is_after : IsUnit t n after
  pub same : (m : Name) → NamesIn before m ↔ NamesIn after m

-- by one profile, if aliases and visible names are the same, and each unit of the universe names nothing outside it, the universe stays
abbrev pub UniverseStays : Type 0
UniverseStays =
    (s t : HostViewMap) (extra names : List Name) → s.profile ≡ t.profile → SameLeads s t → SameVisibleNames s t
    → ((n : Name) → IsInUniverse s extra n → main s n ≡ n → NamesWithin s t extra n) → AreUniverse s extra names → AreUniverse t extra names

-- in particular if each unit of the universe names the same
abbrev pub SameNamesKeepTheUniverse : Type 0
SameNamesKeepTheUniverse =
    (s t : HostViewMap) (extra names : List Name) → s.profile ≡ t.profile → SameLeads s t → SameVisibleNames s t
    → ((n : Name) → IsInUniverse s extra n → main s n ≡ n → KeepsItsNames s t n) → AreUniverse s extra names → AreUniverse t extra names

pub words_keep_visible_names : WordsKeepVisibleNames
words_keep_visible_names s t same n = (
  λ v. (let h = (link_targets_show s t n (same n)).0 (v.0, v.1, v.2.shown) in
      (h.0, h.1, record { name = v.2.name; whole = v.2.whole; shown = h.2 })),
  λ v. (let h = (link_targets_show s t n (same n)).1 (v.0, v.1, v.2.shown) in
      (h.0, h.1, record { name = v.2.name; whole = v.2.whole; shown = h.2 })),
)

-- ---- the universe

-- a unit names exactly what its lists have
named_there : (s : HostViewMap) (n m : Name) (unit : LoadedUnit) → IsUnit s n unit → NamesIn unit m → Names s n m
named_there s n m unit u l = record { own = u.main_is; dep = l.0; named = (lists_have_what_is_named s n unit l.0 m u).0 l.1 }

listed_there : (s : HostViewMap) (n m : Name) (unit : LoadedUnit) → IsUnit s n unit → Names s n m → NamesIn unit m
listed_there s n m unit u h = (h.dep, (lists_have_what_is_named s n unit h.dep m u).1 h.named)

module _ (s t : HostViewMap) (leads : SameLeads s t) where
  mains : (n : Name) → main s n ≡ main t n
  mains = leads_decide_mains s t leads

  module _ (extra : List Name) (keeps : (n : Name) → IsInUniverse s extra n → main s n ≡ n → NamesWithin s t extra n) where
    -- no edge is lost, except to a source
    stays : (n m : Name) → IsInUniverse s extra n → LeadsTo s n m → LeadsTo t n m ⊎ IsReached (IsSource s extra) (LeadsTo t) m
    stays n m r (inl e) = inl (inl (sym (mains n) ∙ e))
    stays n m r (inr h) = let k = keeps n r h.own in by k (k.kept m (listed_there s n m k.before k.is_before h))
      where
        by : (k : NamesWithin s t extra n) → NamesIn k.after m ⊎ IsSource s extra m
            → LeadsTo t n m ⊎ IsReached (IsSource s extra) (LeadsTo t) m
        by k (inl l) = inl (inr (named_there t n m k.after k.is_after l))
        by k (inr source) = inr (record { steps = 0; chain = source })

    -- and none leads out of the universe
    within : (n m : Name) → IsInUniverse s extra n → LeadsTo t n m → IsInUniverse s extra m
    within n m r (inl e) = (reached_closed (IsSource s extra) (LeadsTo s)).stepped n m r (inl (mains n ∙ e))
    within n m r (inr h) = let k = keeps n r (mains n ∙ h.own) in k.known m (listed_there t n m k.after k.is_after h)

  pub same_sources : s.profile ≡ t.profile → (extra : List Name) → SameVisibleNames s t → (n : Name)
      → IsSource s extra n ↔ IsSource t extra n
  same_sources profile extra same n = (there, back)
    where
      there : IsSource s extra n → IsSource t extra n
      there (inl a) = inl (subst (λ (by : Profile). IsAmong n (asked_by by extra)) profile a)
      there (inr v) = inr ((same n).0 v)

      back : IsSource t extra n → IsSource s extra n
      back (inl a) = inl (subst (λ (by : Profile). IsAmong n (asked_by by extra)) (sym profile) a)
      back (inr v) = inr ((same n).1 v)

  -- ---- units by main names

  filtered_same : (unit : Name) (names : List Name)
      → filter (λ m. not (is_same m unit)) (map (main s) names) ≡ filter (λ m. not (is_same m unit)) (map (main t) names)
  filtered_same unit names = ap (filter (λ m. not (is_same m unit))) (by names)
    where
      by : (ns : List Name) → map (main s) ns ≡ map (main t) ns
      by [] = refl
      by (x ∷ xs) = ap (λ y. y ∷ map (main s) xs) (mains x) ∙ ap (λ ys. main t x ∷ ys) (by xs)

  made_list : DepKind → List Name → DependencyList
  made_list dep names = record { kind = dep; names = names }

  lists_same : (unit : Name) (lists : List DependencyList)
      → map (list_by_mains (main s) unit) lists ≡ map (list_by_mains (main t) unit) lists
  unfolding made_list
  lists_same unit [] = refl
  lists_same unit (l ∷ ls) =
      ap (λ ns. made_list l.kind (in_byte_order ns) ∷ map (list_by_mains (main s) unit) ls) (filtered_same unit l.names)
      ∙ ap (λ ys. list_by_mains (main t) unit l ∷ ys) (lists_same unit ls)

  pub by_mains_same : (unit : LoadedUnit) → by_mains (main s) unit ≡ by_mains (main t) unit
  by_mains_same unit = ap (λ ls. let r : LoadedUnit = record unit { deps = ls } in r) (lists_same unit.name unit.deps)

pub universe_stays : UniverseStays
universe_stays s t extra names profile leads visible keeps all =
    same_closure (IsSource s extra) (IsSource t extra) (LeadsTo t) (LeadsTo t) (same_sources s t leads profile extra visible)
    (λ n m. (λ h. h, λ h. h)) name_cmp names
    (closure_stays (IsSource s extra) (LeadsTo s) (LeadsTo t)
    (record { stay = stays s t leads extra keeps; within = within s t leads extra keeps }) name_cmp names all)

pub same_names_keep_the_universe : SameNamesKeepTheUniverse
same_names_keep_the_universe s t extra names profile leads visible keeps all =
    universe_stays s t extra names profile leads visible (λ n r own. by n r (keeps n r own)) all
  where
    by : (n : Name) → IsInUniverse s extra n → KeepsItsNames s t n → NamesWithin s t extra n
    by n r k = record {
      before = k.before;
      after = k.after;
      is_before = k.is_before;
      is_after = k.is_after;
      kept = λ m l. inl ((k.same m).0 l);
      known = λ m l.
          (reached_closed (IsSource s extra) (LeadsTo s)).stepped n m r (inr (named_there s n m k.before k.is_before ((k.same m).1 l)));
    }
