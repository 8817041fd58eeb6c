-- Laws of edges: units that are the same but for places and notes have the same edges.
-- Source: this project's own.
use Rattle.std.proofs.Common.{◌≡◌}
use Rattle.tree_answers.specs.Prelude.{After, ap, Before, Bool, DependencyList, DepKind, fragment_by, HasDefaults, HostViewMap, inl, inr, is_loaded_by, is_some, IsAmong, IsByPath, IsByTarget, IsDependent, IsEdgeAmong, IsGiven, IsGivenBefore, IsListed, IsMountFor, IsTrue, List, LoadedUnit, MayFollow, Name, NameLoad, NamesUnit, Profile, refl, Some, Status, subst, sym, unit_among, ◌∙◌}
use Rattle.tree_answers.specs.Alike.{AreSameUnits, status_at_fleet}
use Rattle.setting_rules.specs.declared.kinds.DepKind.TheVariants as kind
use Rattle.setting_rules.specs.Kinds.{inverse}
use Rattle.unit_loads.specs.declared.units.Status.TheVariants as status

-- the units have the same in what makes edges
pub record IsTwin (u t : LoadedUnit) : Type 0 where
  pub deps_are : t.deps ≡ u.deps
  pub mounts_are : t.mounts ≡ u.mounts
  pub defaults_are : t.has_defaults ≡ u.has_defaults
  pub loaded_is : is_loaded_by t.status ≡ is_loaded_by u.status
  pub fragment_is : is_some (fragment_by t.status) ≡ is_some (fragment_by u.status)

-- each unit of the first has a twin of its name in the second
abbrev pub AreTwins : List (Name × NameLoad) → List (Name × NameLoad) → Type 0
AreTwins es fs = (n : Name) (u : LoadedUnit) → unit_among es n ≡ Some u → (t : LoadedUnit) × IsTwin u t × (unit_among fs n ≡ Some t)

pub turned_twin : (u t : LoadedUnit) → IsTwin u t → IsTwin t u
turned_twin u t same = record {
  deps_are = sym same.deps_are;
  mounts_are = sym same.mounts_are;
  defaults_are = sym same.defaults_are;
  loaded_is = sym same.loaded_is;
  fragment_is = sym same.fragment_is;
}

pub loaded_at_fleet : (x : Status) → is_loaded_by (status_at_fleet x) ≡ is_loaded_by x
loaded_at_fleet (status.Loaded place) = refl
loaded_at_fleet status.BuiltIn = refl
loaded_at_fleet status.NotFound = refl
loaded_at_fleet status.Masked = refl
loaded_at_fleet (status.Bad cause) = refl

fragment_at_fleet : (x : Status) → is_some (fragment_by (status_at_fleet x)) ≡ is_some (fragment_by x)
fragment_at_fleet (status.Loaded place) = refl
fragment_at_fleet status.BuiltIn = refl
fragment_at_fleet status.NotFound = refl
fragment_at_fleet status.Masked = refl
fragment_at_fleet (status.Bad cause) = refl

-- units that are the same but for places are twins
pub twin_of : (v w : HostViewMap) (u t : LoadedUnit) → AreSameUnits v w u t → IsTwin u t
twin_of v w u t same = record {
  deps_are = same.deps_are;
  mounts_are = same.mounts_are;
  defaults_are = same.defaults_are;
  loaded_is = ap is_loaded_by same.status_is ∙ loaded_at_fleet u.status;
  fragment_is = ap (λ x. is_some (fragment_by x)) same.status_is ∙ fragment_at_fleet u.status;
}

module _ (profile : Profile) (es fs : List (Name × NameLoad)) (twins : AreTwins es fs) where
  twin_names : (dep : DepKind) (a b : Name) → NamesUnit es dep a b → NamesUnit fs dep a b
  twin_names dep a b d =
      let t = twins a d.unit d.unit_is in
      let o = twins b d.other.0 d.other.1 in
      record {
        unit = t.0;
        unit_is = t.2;
        listed = subst (λ (ls : List DependencyList). IsListed ls dep b) (sym t.1.deps_are) d.listed;
        other = (o.0, o.2);
      }

  twin_mount : (a b : Name) → IsMountFor profile es a b → IsMountFor profile fs a b
  twin_mount a b d =
      let t = twins a d.unit d.unit_is in
      let m = twins b d.mount d.mount_is in
      record {
        by_manager = d.by_manager;
        unit = t.0;
        unit_is = t.2;
        there = subst (λ (ns : List Name). IsAmong b ns) (sym t.1.mounts_are) d.there;
        mount = m.0;
        mount_is = m.2;
        loaded = m.1.loaded_is ∙ d.loaded;
        another = d.another;
      }

  twin_path : (dep : DepKind) (a b : Name) → IsByPath profile es dep a b → IsByPath profile fs dep a b
  unfolding twin_mount
  twin_path After a b d = twin_mount a b d
  twin_path kind.Requires a b d = record {
    mount_for = twin_mount a b d.mount_for;
    has_fragment =
        subst (λ (x : Bool). IsTrue x) (sym (twins b d.mount_for.mount d.mount_for.mount_is).1.fragment_is) d.has_fragment;
  }
  twin_path other a b d = absurd d

  twin_given : (dep : DepKind) (a b : Name) → IsGiven profile es dep a b → IsGiven profile fs dep a b
  twin_given dep a b (inl d) = inl (twin_names dep a b d)
  twin_given dep a b (inr d) = inr (twin_path dep a b d)

  twin_before : (a b : Name) → IsGivenBefore profile es a b → IsGivenBefore profile fs a b
  twin_before a b (inl d) = inl (twin_given Before a b d)
  twin_before a b (inr d) = inr (twin_given After b a d)

  twin_defaults : (a : Name) → HasDefaults es a → HasDefaults fs a
  twin_defaults a d =
      let t = twins a d.unit d.unit_is in
      record { unit = t.0; unit_is = t.2; has_defaults = t.1.defaults_are ∙ d.has_defaults }

-- a target follows what it did, where twins lead both ways
twin_may : (profile : Profile) (es fs : List (Name × NameLoad)) → AreTwins es fs → AreTwins fs es → (t u : Name)
    → MayFollow profile es t u → MayFollow profile fs t u
twin_may profile es fs there back t u m = record {
  by_manager = m.by_manager;
  is_target = m.is_target;
  dep = m.dep;
  orders = m.orders;
  pulls = twin_given profile es fs there m.dep t u m.pulls;
  target = twin_defaults profile es fs there t m.target;
  pulled = twin_defaults profile es fs there u m.pulled;
  free = λ b. m.free (twin_before profile fs es back t u b);
}

module _ (profile : Profile) (es fs : List (Name × NameLoad)) (there : AreTwins es fs) (back : AreTwins fs es) where
  twin_target : (dep : DepKind) (a b : Name) → IsByTarget profile es dep a b → IsByTarget profile fs dep a b
  twin_target After a b d = record {
    may = twin_may profile es fs there back a b d.may;
    one_way = λ m. d.one_way (twin_may profile fs es back there b a m);
  }
  twin_target other a b d = absurd d

  twin_dependent : (dep : DepKind) (a b : Name) → IsDependent profile es dep a b → IsDependent profile fs dep a b
  twin_dependent dep a b (inl d) = inl (twin_given profile es fs there dep a b d)
  twin_dependent dep a b (inr d) = inr (twin_target dep a b d)

  -- Twins have the same edges.
  pub twin_edge : (dep : DepKind) (a b : Name) → IsEdgeAmong profile es dep a b → IsEdgeAmong profile fs dep a b
  twin_edge dep a b (inl d) = inl (twin_dependent dep a b d)
  twin_edge dep a b (inr d) = inr (twin_dependent (inverse dep) b a d)
