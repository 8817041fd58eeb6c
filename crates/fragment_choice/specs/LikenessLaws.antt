-- Laws of aliases: a name and what it is an alias of have the same kind and the same shape.
use Rattle.std.proofs.Common.{◌||◌, ◌≡◌, ◌⊎◌}
use Rattle.fragment_choice.specs.Prelude.{ap, Bool, bytes_eq, bytes_eq-Decides, false, HostViewMap, inl, inr, Instance, instance, instance_has_parts, IsName, kind, Name, None, not, Option, Plain, refl, shape, Some, subst, sym, Template, template_of, templates_keep_parts, true, UnitKind, UnitShape, with_instance, word, ℕ, ◌∙◌}
use Rattle.fragment_choice.specs.{Choices.{alias_of, alias_to, has_no_alias, is_bad_kind, last_component, shapes_agree}, declared.{choices.Choice.TheVariants.{Alias}, resolutions.Resolution.{Resolution}}, LinkCaseLaws.{same_kind}, LinkLaws.{alias_same, has_link, has_template, HasLink, IsPassed, passed, template_alias}, ResolutionLaws.{resolution_resolves}, Resolutions.{Chain, Chain.{here, step}, Leads, main, resolution, Resolves, Resolves.{ends_at, goes_on}}}

-- `m` is a name with the kind and the shape of `n`.
pub record IsLike (n m : Name) : Type 0 where
  pub name : IsName m
  pub kind_is : kind m ≡ kind n
  pub shape_is : shape m ≡ shape n

-- What a name is an alias of has its kind and shape.
abbrev pub AliasesAreAlike : Type 0
AliasesAreAlike = (s : HostViewMap) (n m : Name) → IsName n → Leads s n m → IsLike n m

-- So does the end of a chain of aliases.
abbrev pub ChainsAreAlike : Type 0
ChainsAreAlike = (s : HostViewMap) (d : ℕ) (n u : Name) → IsName n → Chain s d n u → IsLike n u

-- So does the main name.
abbrev pub MainsAreAlike : Type 0
MainsAreAlike = (s : HostViewMap) (n : Name) → IsName n → IsLike n (main s n)

-- The same for an alias that a link to `t` makes: it has the kind of `t`, and this shape.
record IsMade (t m : Name) (x : UnitShape) : Type 0 where
  name : IsName m
  kind_is : kind m ≡ kind t
  shape_is : shape m ≡ x

module _ (n t m : Name) (good : IsName t) where
  itself : (x : UnitShape) → shape t ≡ x → Alias t ≡ Alias m → IsMade t m x
  itself x e h =
      let same = alias_same t m h in
      record { name = subst IsName same good; kind_is = ap kind (sym same); shape_is = ap shape (sym same) ∙ e }

  with_its_part : alias_to (with_instance t (instance n)) ≡ Alias m → IsMade t m Instance
  with_its_part h =
      let all = instance_has_parts t (instance n) m good (template_alias (with_instance t (instance n)) m h) in
      record { name = all.2.name; kind_is = all.2.kind_is ∙ sym all.1; shape_is = all.2.shape_is }

  by_own_link : (x y : UnitShape) → shape t ≡ y → shapes_agree x (instance n) y (instance t) ≡ true
      → alias_of x n y t ≡ Alias m → IsMade t m x
  by_own_link Plain Plain e g h = itself Plain e h
  by_own_link Plain Template e g h = cc (g)
  by_own_link Plain Instance e g h = cc (g)
  by_own_link Template Plain e g h = cc (g)
  by_own_link Template Template e g h = itself Template e h
  by_own_link Template Instance e g h = cc (g)
  by_own_link Instance Plain e g h = cc (g)
  by_own_link Instance Template e g h = with_its_part h
  by_own_link Instance Instance e g h = itself Instance e h

  by_template_link : (i : Name) (y : UnitShape) → shapes_agree Template i y (instance t) ≡ true
      → alias_of Instance n y t ≡ Alias m → IsMade t m Instance
  by_template_link i Plain g h = cc (g)
  by_template_link i Template g h = with_its_part h
  by_template_link i Instance g h = cc (g)

-- Kinds that don't clash are the same.
kinds_agree : (k l : Option UnitKind) → is_bad_kind k l ≡ false → k ≡ l
kinds_agree None l h = cc (h)
kinds_agree (Some k) None h = cc (h)
kinds_agree (Some k) (Some l) h = by (bytes_eq (word k) (word l)) refl h
  where
    by : (b : Bool) → bytes_eq (word k) (word l) ≡ b → (not b || has_no_alias l) ≡ false → Some k ≡ Some l
    by true e g = ap (λ x. Some x) (same_kind k l ((bytes_eq-Decides (word k) (word l)).0 e))
    by false e g = cc (g)

pub aliases_are_alike : AliasesAreAlike
aliases_are_alike s n m well_formed h = by l.owns
  where
    l : HasLink s n m
    l = has_link s n m h

    t : Name
    t = last_component l.link.target

    p : IsPassed n l.owner t m
    p = passed n l.owner t m l.link.said

    like : kind n ≡ kind l.owner → IsMade t m (shape n) → IsLike n m
    like e k = record { name = k.name; kind_is = k.kind_is ∙ sym (kinds_agree (kind l.owner) (kind t) p.kinds) ∙ sym e; shape_is = k.shape_is }

    by : (l.owner ≡ n) ⊎ (template_of n ≡ Some l.owner) → IsLike n m
    by (inl e) =
        let agree = sym (ap (λ o. shapes_agree (shape o) (instance o) (shape t) (instance t)) e) ∙ p.agree in
        like (ap kind (sym e)) (by_own_link n t m l.link.well_formed (shape n) (shape t) refl agree p.alias)
    by (inr e) =
        let keeps = templates_keep_parts n l.owner well_formed e in
        let instance_is : shape n ≡ Instance = has_template (shape n) n l.owner e in
        let agree = sym (ap (λ x. shapes_agree x (instance l.owner) (shape t) (instance t)) keeps.2.shape_is) ∙ p.agree in
        let made = by_template_link n t m l.link.well_formed (instance l.owner) (shape t) agree (sym (ap (λ x. alias_of x n (shape t) t) instance_is) ∙ p.alias) in
        like (keeps.1 ∙ sym keeps.2.kind_is) (subst (IsMade t m) (sym instance_is) made)

pub chains_are_alike : ChainsAreAlike
chains_are_alike s d n u well_formed (here _) = record { name = well_formed; kind_is = refl; shape_is = refl }
chains_are_alike s d n u well_formed (step _ m _ e l rest) =
    let first = aliases_are_alike s n m well_formed l in
    let more = chains_are_alike s e m u first.name rest in
    record { name = more.name; kind_is = more.kind_is ∙ first.kind_is; shape_is = more.shape_is ∙ first.shape_is }

pub mains_are_alike : MainsAreAlike
mains_are_alike s n well_formed = by (resolution s n) (resolution_resolves s n)
  where
    by : (r : Resolution) → Resolves s n r → IsLike n r.main
    by r (ends_at d u le chain ends) = chains_are_alike s d n u well_formed chain
    by r (goes_on u chain) = record { name = well_formed; kind_is = refl; shape_is = refl }
