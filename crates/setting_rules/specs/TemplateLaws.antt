-- What a unit means by a template that it names.
-- Source: systemd.unit(5), "Description"; that a unit without an instance gives its prefix is this project's own.
use Rattle.std.proofs.Common.{◌<◌, ◌≡◌, ◌≢◌, ◌≤◌}
use Rattle.setting_rules.specs.Prelude.{and_parts, ap, arith, Bool, cond, false, fits, if_short, Instance, instance, instance_at, instance_is_instance, instance_name, is_empty, is_instance, IsName, le-leb, leb, leb-true, length, Name, None, not-true, parts_of_names_fit, Plain, prefix, prefix_is_instance, refl, Shape, shape, Some, suffix, Template, true, ◌∙◌}
use Rattle.setting_rules.specs.Words.{argument, for_unit, named_at}

-- a template that the unit names means its instance with this i; none if that name has more than 255 bytes
pub record Takes (unit template i : Name) : Type 0 where
  pub short : length (instance_name (prefix template) i (suffix template)) ≤ 255
      → for_unit unit template ≡ Some (instance_name (prefix template) i (suffix template))
  pub long : 255 < length (instance_name (prefix template) i (suffix template)) → for_unit unit template ≡ None

-- From an instance a template gets the instance.
abbrev pub InstancesAreTaken : Type 0
InstancesAreTaken = (unit template : Name) → IsName unit → shape unit ≡ Instance → shape template ≡ Template → Takes unit template (instance unit)

-- From any other unit a template gets the prefix.
abbrev pub PrefixesAreTaken : Type 0
PrefixesAreTaken = (unit template : Name) → IsName unit → shape unit ≢ Instance → shape template ≡ Template → Takes unit template (prefix unit)

-- A name that isn't a template stays unchanged.
abbrev pub OtherNamesStay : Type 0
OtherNamesStay = (unit name : Name) → shape name ≢ Template → for_unit unit name ≡ Some name

takes : (unit template i : Name) → shape template ≡ Template → argument unit ≡ i → is_instance i ≡ true → Takes unit template i
takes unit template i of_template is fit = record {
  short = λ h. put ∙ ap (λ b. cond b (Some (instance_name (prefix template) i (suffix template))) None) (le-leb (length (instance_name (prefix template) i (suffix template))) 255 h);
  long = λ h. put ∙ by (leb (length (instance_name (prefix template) i (suffix template))) 255) refl h;
}
  where
    put : for_unit unit template ≡ if_short (instance_name (prefix template) i (suffix template))
    put =
        ap (λ s. named_at s unit template) of_template
        ∙ ap (λ s. instance_at s template (argument unit)) of_template
        ∙ ap (instance_at Template template) is
        ∙ ap (λ b. cond b (if_short (instance_name (prefix template) i (suffix template))) None) fit

    by : (b : Bool) → leb (length (instance_name (prefix template) i (suffix template))) 255 ≡ b
        → 255 < length (instance_name (prefix template) i (suffix template))
        → cond b (Some (instance_name (prefix template) i (suffix template))) None ≡ None
    by true e h = absurd (omega (arith, leb-true (length (instance_name (prefix template) i (suffix template))) 255 e))
    by false e h = refl

pub instances_are_taken : InstancesAreTaken
instances_are_taken unit template named of_unit of_template = takes unit template (instance unit) of_template (ap (λ b. cond b (prefix unit) (instance unit)) full) fit
  where
    fit : is_instance (instance unit) ≡ true
    fit = instance_is_instance unit named of_unit

    full : is_empty (instance unit) ≡ false
    full = not-true _ (and_parts _ _ (instance_is_instance unit named of_unit)).0

pub prefixes_are_taken : PrefixesAreTaken
prefixes_are_taken unit template named other of_template = takes unit template (prefix unit) of_template (ap (λ b. cond b (prefix unit) (instance unit)) none) (prefix_is_instance unit named)
  where
    empty : (s : Shape) → s ≢ Instance → fits s (instance unit) ≡ true → is_empty (instance unit) ≡ true
    empty Plain h fit = fit
    empty Template h fit = fit
    empty Instance h fit = absurd (h refl)

    none : is_empty (instance unit) ≡ true
    none = empty (shape unit) other (parts_of_names_fit unit named).instance_fits

pub other_names_stay : OtherNamesStay
other_names_stay unit name h = by (shape name) h
  where
    by : (s : Shape) → s ≢ Template → named_at s unit name ≡ Some name
    by Plain h = refl
    by Template h = absurd (h refl)
    by Instance h = refl
