-- Dependencies join units; by files alone they are what units name.
use Rattle.std.proofs.Common.{◌↔◌, ◌≡◌, ◌⊎◌}
use Rattle.inverse_deps.specs.Prelude.{After, DepKind, Files, inl, inr, List, LoadedUnit, Manager, Name, NameLoad, Profile, refl, Requires, Some, subst, sym, ◌∙◌}
use Rattle.inverse_deps.specs.Dependencies.{Follows, IsByPath, IsByTarget, IsDependent, IsGiven, IsMountFor, NamesUnit, NeedsMount, unit_among}

-- ---- the ways in which two units make a dependency

module _ (profile : Profile) (names : List (Name × NameLoad)) (u v : Name) where
  pub path_parts : (dep : DepKind) → IsByPath profile names dep u v
      → ((dep ≡ After) × IsMountFor profile names u v) ⊎ ((dep ≡ Requires) × NeedsMount profile names u v)
  path_parts After h = inl (refl, h)
  path_parts Requires h = inr (refl, h)
  path_parts other h = absurd h

  pub path_of : (dep : DepKind) → ((dep ≡ After) × IsMountFor profile names u v)
      ⊎ ((dep ≡ Requires) × NeedsMount profile names u v) → IsByPath profile names dep u v
  path_of dep (inl h) = subst (λ (k : DepKind). IsByPath profile names k u v) (sym h.0) h.1
  path_of dep (inr h) = subst (λ (k : DepKind). IsByPath profile names k u v) (sym h.0) h.1

  pub target_parts : (dep : DepKind) → IsByTarget profile names dep u v → (dep ≡ After) × Follows profile names u v
  target_parts After h = (refl, h)
  target_parts other h = absurd h

  pub target_of : (dep : DepKind) → (dep ≡ After) × Follows profile names u v → IsByTarget profile names dep u v
  target_of dep h = subst (λ (k : DepKind). IsByTarget profile names k u v) (sym h.0) h.1

-- ---- units

abbrev IsUnitOf : List (Name × NameLoad) → Name → Type 0
IsUnitOf names name = (unit : LoadedUnit) × (unit_among names name ≡ Some unit)

module _ (profile : Profile) (names : List (Name × NameLoad)) (dep : DepKind) (u v : Name) where
  mount_units : IsMountFor profile names u v → IsUnitOf names u × IsUnitOf names v
  mount_units m = ((m.unit, m.unit_is), (m.mount, m.mount_is))

  path_units : ((dep ≡ After) × IsMountFor profile names u v) ⊎ ((dep ≡ Requires) × NeedsMount profile names u v)
      → IsUnitOf names u × IsUnitOf names v
  path_units (inl h) = mount_units h.1
  path_units (inr h) = mount_units h.1.mount_for

  pub given_are_units : IsGiven profile names dep u v → IsUnitOf names u × IsUnitOf names v
  given_are_units (inl n) = ((n.unit, n.unit_is), n.other)
  given_are_units (inr p) = path_units (path_parts profile names u v dep p)

  following_are_units : Follows profile names u v → IsUnitOf names u × IsUnitOf names v
  following_are_units f = ((f.may.target.unit, f.may.target.unit_is), (f.may.pulled.unit, f.may.pulled.unit_is))

  pub dependents_are_units : IsDependent profile names dep u v → IsUnitOf names u × IsUnitOf names v
  dependents_are_units (inl g) = given_are_units g
  dependents_are_units (inr t) = following_are_units (target_parts profile names u v dep t).1

  -- ---- by files

  module _ (by_files : profile ≡ Files) where
    no_manager : ¬ (profile ≡ Manager)
    no_manager e = let wrong : Files ≡ Manager = sym by_files ∙ e in absurd (cc (wrong))

    no_path : ((dep ≡ After) × IsMountFor profile names u v) ⊎ ((dep ≡ Requires) × NeedsMount profile names u v) → ⊥
    no_path (inl h) = no_manager h.1.by_manager
    no_path (inr h) = no_manager h.1.mount_for.by_manager

    named_there : IsDependent profile names dep u v → NamesUnit names dep u v
    named_there (inl (inl n)) = n
    named_there (inl (inr p)) = absurd (no_path (path_parts profile names u v dep p))
    named_there (inr t) = absurd (no_manager (target_parts profile names u v dep t).1.may.by_manager)

    pub by_files_alone : IsDependent profile names dep u v ↔ NamesUnit names dep u v
    by_files_alone = (named_there, λ n. inl (inl n))
