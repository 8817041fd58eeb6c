-- Laws of universes: where main names, visible names and units are the same but for places, and no unit of the universe is
-- crossed, both views have the same universe.
use Rattle.std.proofs.Common.{◌↔◌, ◌≡◌, ◌⊎◌}
use Rattle.tree_answers.specs.Prelude.{among_from_contains, ap, AreNames, AreUniverse, argument, asked_by, BadName, Bool, closure_stays, cond, DependencyList, DepKind, Err, expand, facts_of, false, Files, for_unit, HostViewMap, implied_are_names, implied_names, inl, inr, instance_has_parts, IsAmong, IsAmong-append_cases, IsInUniverse, IsListed, IsName, IsNamed, IsReached, IsShown, IsSource, IsTooLarge, IsUnit, IsVisibleName, is_name, LeadsTo, List, lists_have_what_is_named, LoadedUnit, main, mains_are_alike, Manager, Name, named_at, named_by, named_by_text, Names, name_cmp, None, Ok, Option, or_bad_name, perpetual_units, perpetual_units_are_names, Profile, reached_closed, reached_least, reached_stays, reached_within, ReadsAlike, refl, Resolution, resolution, resolution_at_fleet, rows_of, same_closure, same_reached, same_Some, settings_in, shape, Some, subst, SuccessorsStayWithin, sym, true, ℕ, ◌∙◌}
use Rattle.tree_answers.specs.Alike.{AreSameUnits}
use Rattle.unit_name.specs.declared.names.Shape.{Shape, TheVariants.{Instance, Plain, Template}}

-- Both views have one profile, unit names resolve alike, have the same other names and are visible alike, and a unit that
-- isn't crossed is the same, but for places.
pub record IsAlike (v w : HostViewMap) : Type 0 where
  pub profile : v.profile ≡ w.profile
  pub resolved : (n : Name) → IsName n → resolution w n ≡ resolution_at_fleet (resolution v n)
  pub names : (u : Name) (all : List Name) → AreNames v u all ↔ AreNames w u all
  pub shown : (n : Name) → IsShown v n ↔ IsShown w n
  pub units : (n : Name) → IsName n → (u : LoadedUnit) → IsUnit v n u → ReadsAlike v w u.names
      → (t : LoadedUnit) × IsUnit w n t × AreSameUnits v w u t

pub mains_over : (v w : HostViewMap) → IsAlike v w → (n : Name) → IsName n → main w n ≡ main v n
mains_over v w over n good = ap (λ (r : Resolution). r.main) (over.resolved n good)

-- ---- what is named is a unit's name

meant_name : (x : Shape) (unit link m : Name) → IsName link → named_at x unit link ≡ Some m → IsName m
meant_name Plain unit link m good e = subst IsName (same_Some _ _ e) good
meant_name Template unit link m good e = (instance_has_parts link (argument unit) m good e).2.name
meant_name Instance unit link m good e = subst IsName (same_Some _ _ e) good

found_name : (unit text m : Name) → IsName text → (o : Option Name) → for_unit unit text ≡ o → or_bad_name o ≡ Ok m → IsName m
found_name unit text m good None at e = cc (e)
found_name unit text m good (Some n) at e = let same : n ≡ m = cc (e) in meant_name (shape text) unit text m good (at ∙ ap Some same)

text_name : (unit text m : Name) (b : Bool) → is_name text ≡ b
    → cond b (or_bad_name (for_unit unit text)) (Err BadName) ≡ Ok m → IsName m
text_name unit text m true good e = found_name unit text m good (for_unit unit text) refl e
text_name unit text m false bad e = cc (e)

expanded_name : (unit m : Name) (o : Option (List ℕ)) → named_by_text unit o ≡ Ok m → IsName m
expanded_name unit m None e = cc (e)
expanded_name unit m (Some text) e = text_name unit text m (is_name text) refl e

word_name : (unit m : Name) (word : List ℕ) → named_by unit word ≡ Ok m → IsName m
unfolding named_by
word_name unit m word e = expanded_name unit m (expand word unit) e

pub named_is_name : (v : HostViewMap) (unit : Name) (dep : DepKind) (m : Name) → IsNamed v unit dep m → IsName m
named_is_name v unit dep m (counts, inl n) = word_name unit m n.text n.named
named_is_name v unit dep m (counts, inr (inl (folder, kind, n))) = meant_name (shape n.link) unit n.link m n.linked.name n.named
named_is_name v unit dep m (counts, inr (inr n)) =
    let f = facts_of unit (rows_of v.profile (settings_in v n.fragment n.dropins) unit) in
    implied_are_names f dep m (among_from_contains {X = DepKind × Name} (dep, m) (implied_names f) n.implied)

step_name : (v : HostViewMap) (n m : Name) → IsName n → LeadsTo v n m → IsName m
step_name v n m good (inl e) = subst IsName e (mains_are_alike v n good).name
step_name v n m good (inr h) = named_is_name v n h.dep m h.named

source_name : (v : HostViewMap) (extra : List Name) → ((n : Name) → IsAmong n extra → IsName n) → (n : Name) → IsSource v extra n → IsName n
source_name v extra good n (inl h) = by v.profile h
  where
    by : (profile : Profile) → IsAmong n (asked_by profile extra) → IsName n
    by Files a = good n a
    by Manager a = elim (IsAmong-append_cases n perpetual_units extra a) [ inl p ↦ perpetual_units_are_names n p | inr e ↦ good n e ]
source_name v extra good n (inr h) = h.2.name

-- If the names asked for are units', so are all names of the universe.
pub universe_name : (v : HostViewMap) (extra : List Name) → ((n : Name) → IsAmong n extra → IsName n) → (n : Name)
    → IsInUniverse v extra n → IsName n
universe_name v extra good n r =
    reached_least (IsSource v extra) (LeadsTo v) IsName
    (record { started = source_name v extra good; stepped = λ k m is l. step_name v k m is l }) n r

-- ---- the same universe

visible_over : (v w : HostViewMap) → ((n : Name) → IsShown v n → IsShown w n) → (n : Name) → IsVisibleName v n → IsVisibleName w n
visible_over v w shown n (level, within, at) =
    let h = shown n (level, within, at.shown) in
    (h.0, h.1, record { name = at.name; whole = at.whole; shown = h.2 })

source_over : (v w : HostViewMap) → v.profile ≡ w.profile → ((n : Name) → IsShown v n → IsShown w n) → (extra : List Name) (n : Name)
    → IsSource v extra n → IsSource w extra n
source_over v w profile shown extra n (inl h) = inl (subst (λ (by : Profile). IsAmong n (asked_by by extra)) profile h)
source_over v w profile shown extra n (inr h) = inr (visible_over v w shown n h)

module _ (v w : HostViewMap) (over : IsAlike v w) (extra : List Name) (good : (n : Name) → IsAmong n extra → IsName n)
    (reads : (n : Name) (u : LoadedUnit) → IsInUniverse v extra n → IsUnit v n u → ReadsAlike v w u.names) where
  sources : (n : Name) → IsSource v extra n ↔ IsSource w extra n
  sources n = (source_over v w over.profile (λ k. (over.shown k).0) extra n, source_over w v (sym over.profile) (λ k. (over.shown k).1) extra n)

  -- Of the universe's names, each that names another in either view has a unit.
  abbrev pub HaveUnits : Type 0
  HaveUnits = (n m : Name) → IsInUniverse v extra n → Names v n m ⊎ Names w n m → (u : LoadedUnit) × IsUnit v n u

  module _ (have : HaveUnits) where
    names_there : (n m : Name) → IsInUniverse v extra n → Names v n m → Names w n m
    names_there n m r h =
        let u = have n m r (inl h) in
        let t = over.units n (universe_name v extra good n r) u.0 u.1 (reads n u.0 r u.1) in
        let listed = (lists_have_what_is_named v n u.0 h.dep m u.1).1 h.named in
        record {
          own = t.1.main_is;
          dep = h.dep;
          named =
              (lists_have_what_is_named w n t.0 h.dep m t.1).0
              (subst (λ (ls : List DependencyList). IsListed ls h.dep m) (sym t.2.deps_are) listed);
        }

    names_back : (n m : Name) → IsInUniverse v extra n → Names w n m → Names v n m
    names_back n m r h =
        let u = have n m r (inr h) in
        let t = over.units n (universe_name v extra good n r) u.0 u.1 (reads n u.0 r u.1) in
        let listed = (lists_have_what_is_named w n t.0 h.dep m t.1).1 h.named in
        record {
          own = u.1.main_is;
          dep = h.dep;
          named =
              (lists_have_what_is_named v n u.0 h.dep m u.1).0
              (subst (λ (ls : List DependencyList). IsListed ls h.dep m) t.2.deps_are listed);
        }

    there : (n m : Name) → IsInUniverse v extra n → LeadsTo v n m → LeadsTo w n m
    there n m r (inl e) = inl (mains_over v w over n (universe_name v extra good n r) ∙ e)
    there n m r (inr h) = inr (names_there n m r h)

    back : (n m : Name) → IsInUniverse v extra n → LeadsTo w n m → LeadsTo v n m
    back n m r (inl e) = inl (sym (mains_over v w over n (universe_name v extra good n r)) ∙ e)
    back n m r (inr h) = inr (names_back n m r h)

    stepped : (n m : Name) → IsInUniverse v extra n → LeadsTo v n m → IsInUniverse v extra m
    stepped n m r l = (reached_closed (IsSource v extra) (LeadsTo v)).stepped n m r l

    within : SuccessorsStayWithin (IsSource v extra) (LeadsTo v) (LeadsTo w)
    within = record { stay = λ n m r l. inl (there n m r l); within = λ n m r l. stepped n m r (back n m r l) }

    pub universe_there : (names : List Name) → AreUniverse v extra names → AreUniverse w extra names
    universe_there names all =
        same_closure (IsSource v extra) (IsSource w extra) (LeadsTo w) (LeadsTo w) sources (λ n m. (λ h. h, λ h. h)) name_cmp names
        (closure_stays (IsSource v extra) (LeadsTo v) (LeadsTo w) within name_cmp names all)

    same_sources : (n : Name) → IsReached (IsSource v extra) (LeadsTo w) n ↔ IsInUniverse w extra n
    same_sources = same_reached (IsSource v extra) (IsSource w extra) (LeadsTo w) (LeadsTo w) sources (λ n m. (λ h. h, λ h. h))

    pub large_there : IsTooLarge v extra → IsTooLarge w extra
    large_there h = record {
      nodes = h.nodes;
      ascending = h.ascending;
      reached = λ n among.
          (same_sources n).0 (reached_stays (IsSource v extra) (LeadsTo v) (LeadsTo w) within.stay n (h.reached n among));
      over = h.over;
    }

    pub large_back : IsTooLarge w extra → IsTooLarge v extra
    large_back h = record {
      nodes = h.nodes;
      ascending = h.ascending;
      reached = λ n among.
          reached_within (IsSource v extra) (LeadsTo v) (LeadsTo w) within n ((same_sources n).1 (h.reached n among));
      over = h.over;
    }
