-- Laws of links: what makes a link bad, case by case, and what a good link makes an alias of.
use Rattle.std.proofs.Common.{◌<◌, ◌||◌, ◌↔◌, ◌≡◌, ◌≢◌, ◌≤◌, ◌⊎◌}
use Rattle.fragment_choice.specs.Prelude.{ap, arith, Automount, Bool, bytes_eq, bytes_eq-Decides, cases_lt, codes, cond, cond_some, Device, false, false_from_ne_true, fits, HostViewMap, if_short, inl, inr, Instance, instance, instance_at, instance_name, is_instance, is_name, IsName, kind, kind_of, kind_of-word, le-leb, leb, leb-true, length, Link, List, made_of_name, Mount, Name, None, none-some, not, Option, option_and_then, parts_of_names_fit, Path, Plain, prefix, refl, same_Some, Scope, Service, shape, Slice, Socket, Some, subst, suffix, Swap, sym, TargetKind, Template, template_of, Timer, true, true≢false, UnitKind, UnitShape, viewed_at, with_instance, word, ℕ, ◌∙◌}
use Rattle.fragment_choice.specs.{Choices.{alias_of, alias_to, content_says, has_no_alias, is_bad_kind, is_null, is_self, last_component, link_says, own_path, own_place, says, shapes_agree}, declared.choices.{Cause.{Cause, TheVariants.{Kind, Loop, Shape, Target}}, Choice.{Choice, TheVariants.{Alias, Bad, Masked}}}, UndefinedLaws.{decided, itself_leads, leads_to_itself}}

-- A link is visible under the name `o` at a level, and its target, which isn't `/dev/null`, ends in the component `t`.
pub record LinkStands (s : HostViewMap) (o : Name) (level : ℕ) (t : List ℕ) : Type 0 where
  pub target : List ℕ
  pub there : viewed_at s (own_path o level) ≡ Some (Link target)
  pub no_mask : target ≢ codes "/dev/null"
  pub component : last_component target ≡ t

-- A link of the name `o` to `t` isn't ignored: `t` is a unit name, and neither `o` nor the template of `o`.
pub record IsHeeded (o t : Name) : Type 0 where
  pub name : IsName t
  pub other : t ≢ o
  pub no_template : template_of o ≢ Some t

-- Units of these kinds have no aliases.
abbrev pub HasNoAliases : UnitKind → Type 0
HasNoAliases k = (k ≡ Mount) ⊎ ((k ≡ Slice) ⊎ ((k ≡ Swap) ⊎ (k ≡ Automount)))

-- The two have different kinds, or the second has a kind without aliases.
abbrev pub KindsClash : Name → Name → Type 0
KindsClash o t = (kind o ≢ kind t) ⊎ ((k : UnitKind) × (kind t ≡ Some k) × HasNoAliases k)

-- A plain name may only be linked to plain names, a template only to templates, and an instance to templates and to
-- instances with the same instance part.
pub data ShapesClash (o t : Name) : Type 0 where
  plain : shape o ≡ Plain → shape t ≢ Plain → ShapesClash o t
  template : shape o ≡ Template → shape t ≢ Template → ShapesClash o t
  instance_to_plain : shape o ≡ Instance → shape t ≡ Plain → ShapesClash o t
  other_instance : shape o ≡ Instance → shape t ≡ Instance → instance o ≢ instance t → ShapesClash o t

-- The link would be good, but the template `t` with the instance of `n` is over 255 bytes.
pub record GrowsTooLong (n o t : Name) : Type 0 where
  pub heeded : IsHeeded o t
  pub kinds : KindsClash o t → ⊥
  pub shapes : ShapesClash o t → ⊥
  pub of_instance : shape n ≡ Instance
  pub to_template : shape t ≡ Template
  pub long : 255 < length (instance_name (prefix t) (instance n) (suffix t))

-- A link is bad by its kind exactly if it isn't ignored and the kinds clash, whatever the shapes.
abbrev pub KindsMakeBad : Type 0
KindsMakeBad = (s : HostViewMap) (n o t : Name) (level : ℕ) → IsName o → LinkStands s o level t → (says s n o level ≡ Some (Bad Kind)) ↔ (IsHeeded o t × KindsClash o t)

-- It is bad by its shape exactly if it isn't ignored, the kinds don't clash and the shapes do.
abbrev pub ShapesMakeBad : Type 0
ShapesMakeBad = (s : HostViewMap) (n o t : Name) (level : ℕ) → IsName o → LinkStands s o level t → (says s n o level ≡ Some (Bad Shape)) ↔ (IsHeeded o t × (KindsClash o t → ⊥) × ShapesClash o t)

-- It is bad by its target exactly if the target doesn't end in a unit name, or makes a name that is too long.
abbrev pub TargetsMakeBad : Type 0
TargetsMakeBad = (s : HostViewMap) (n o t : Name) (level : ℕ) → IsName n → IsName o → LinkStands s o level t → (says s n o level ≡ Some (Bad Target)) ↔ ((IsName t → ⊥) ⊎ GrowsTooLong n o t)

-- What a good link to `t` makes `n` an alias of: a template `t` with the instance part of an instance `n`, else `t`
-- itself.
pub data IsAliasOf (n t m : Name) : Type 0 where
  with_part : shape n ≡ Instance → shape t ≡ Template → m ≡ instance_name (prefix t) (instance n) (suffix t)
      → length m ≤ 255 → IsAliasOf n t m
  itself : (shape n ≡ Instance → shape t ≢ Template) → m ≡ t → IsAliasOf n t m

-- A link makes an alias exactly if it isn't ignored, neither the kinds nor the shapes clash, and the alias isn't too
-- long.
abbrev pub GoodLinksMakeAliases : Type 0
GoodLinksMakeAliases = (s : HostViewMap) (n o t m : Name) (level : ℕ) → IsName n → IsName o → LinkStands s o level t → (says s n o level ≡ Some (Alias m)) ↔ (IsHeeded o t × (KindsClash o t → ⊥) × (ShapesClash o t → ⊥) × IsAliasOf n t m)

-- No single link is a loop.
abbrev pub NoLinkIsALoop : Type 0
NoLinkIsALoop = (s : HostViewMap) (n o t : Name) (level : ℕ) → LinkStands s o level t → says s n o level ≢ Some (Bad Loop)

-- ---- the four tests as propositions

said_link : (s : HostViewMap) (n o t : Name) (level : ℕ) → LinkStands s o level t → says s n o level ≡ link_says n o t
said_link s n o t level k =
    ap (option_and_then (content_says n o (own_place s o level))) k.there
    ∙ by (is_null k.target) refl
    ∙ ap (link_says n o) k.component
  where
    by : (b : Bool) → is_null k.target ≡ b
        → cond b (Some Masked) (link_says n o (last_component k.target)) ≡ link_says n o (last_component k.target)
    by true e = absurd (k.no_mask ((bytes_eq-Decides k.target (codes "/dev/null")).0 e))
    by false e = refl

not_itself : (o t : Name) → is_self o t ≡ false → (t ≡ o) ⊎ (template_of o ≡ Some t) → ⊥
not_itself o t h e = true≢false (sym (itself_leads o t e) ∙ h)

heeded : (o t : Name) → IsName t → is_self o t ≡ false → IsHeeded o t
heeded o t h e = record { name = h; other = λ k. not_itself o t e (inl k); no_template = λ k. not_itself o t e (inr k) }

is_heeded : (o t : Name) → IsHeeded o t → is_self o t ≡ false
is_heeded o t h = false_from_ne_true (is_self o t) (λ e. neither (leads_to_itself o t e))
  where
    neither : (t ≡ o) ⊎ (template_of o ≡ Some t) → ⊥
    neither (inl e) = h.other e
    neither (inr e) = h.no_template e

without_aliases : (k : UnitKind) → has_no_alias k ≡ true → HasNoAliases k
without_aliases Service h = cc (h)
without_aliases Socket h = cc (h)
without_aliases Device h = cc (h)
without_aliases Mount h = inl refl
without_aliases Automount h = inr (inr (inr refl))
without_aliases Swap h = inr (inr (inl refl))
without_aliases TargetKind h = cc (h)
without_aliases Path h = cc (h)
without_aliases Timer h = cc (h)
without_aliases Slice h = inr (inl refl)
without_aliases Scope h = cc (h)

has_none : (k : UnitKind) → HasNoAliases k → has_no_alias k ≡ true
has_none k (inl e) = ap has_no_alias e
has_none k (inr (inl e)) = ap has_no_alias e
has_none k (inr (inr (inl e))) = ap has_no_alias e
has_none k (inr (inr (inr e))) = ap has_no_alias e

pub same_kind : (k l : UnitKind) → word k ≡ word l → k ≡ l
same_kind k l e = same_Some _ _ (sym (kind_of-word k) ∙ ap kind_of e ∙ kind_of-word l)

-- The test finds exactly those kinds bad that clash.
module _ (o t : Name) (k l : UnitKind) (of_o : kind o ≡ Some k) (of_t : kind t ≡ Some l) where
  unlike : bytes_eq (word k) (word l) ≡ false → kind o ≢ kind t
  unlike e h = true≢false (sym ((bytes_eq-Decides (word k) (word l)).1 (ap word (same_Some _ _ (sym of_o ∙ h ∙ of_t)))) ∙ e)

  clash_found : is_bad_kind (Some k) (Some l) ≡ true → KindsClash o t
  clash_found h = by (bytes_eq (word k) (word l)) refl h
    where
      by : (b : Bool) → bytes_eq (word k) (word l) ≡ b → (not b || has_no_alias l) ≡ true → KindsClash o t
      by true e g = inr (l, of_t, without_aliases l g)
      by false e g = inl (unlike e)

  found_clash : KindsClash o t → is_bad_kind (Some k) (Some l) ≡ true
  found_clash c = by (bytes_eq (word k) (word l)) refl c
    where
      by : (b : Bool) → bytes_eq (word k) (word l) ≡ b → KindsClash o t → (not b || has_no_alias l) ≡ true
      by false e g = refl
      by true e (inl g) = absurd (g (of_o ∙ ap (λ x. Some x) (same_kind k l ((bytes_eq-Decides (word k) (word l)).0 e)) ∙ sym of_t))
      by true e (inr (m, f, g)) = has_none l (subst HasNoAliases (same_Some _ _ (sym f ∙ of_t)) g)

  tested : is_bad_kind (kind o) (kind t) ≡ is_bad_kind (Some k) (Some l)
  tested = ap (λ x. is_bad_kind x (kind t)) of_o ∙ ap (is_bad_kind (Some k)) of_t

kinds_clash : (o t : Name) → IsName o → IsName t → is_bad_kind (kind o) (kind t) ≡ true → KindsClash o t
kinds_clash o t h g e =
    let k = made_of_name o h in
    let l = made_of_name t g in
    clash_found o t k.0 l.0 k.1 l.1 (sym (tested o t k.0 l.0 k.1 l.1) ∙ e)

are_bad_kinds : (o t : Name) → IsName o → IsName t → KindsClash o t → is_bad_kind (kind o) (kind t) ≡ true
are_bad_kinds o t h g c =
    let k = made_of_name o h in
    let l = made_of_name t g in
    tested o t k.0 l.0 k.1 l.1 ∙ found_clash o t k.0 l.0 k.1 l.1 c

no_clash : (o t : Name) → IsName o → IsName t → is_bad_kind (kind o) (kind t) ≡ false → KindsClash o t → ⊥
no_clash o t h g e c = true≢false (sym (are_bad_kinds o t h g c) ∙ e)

kinds_fit : (o t : Name) → IsName o → IsName t → (KindsClash o t → ⊥) → is_bad_kind (kind o) (kind t) ≡ false
kinds_fit o t h g c = false_from_ne_true (is_bad_kind (kind o) (kind t)) (λ e. c (kinds_clash o t h g e))

abbrev agree : Name → Name → Bool
agree o t = shapes_agree (shape o) (instance o) (shape t) (instance t)

agreed : (o t : Name) (x y : UnitShape) → shape o ≡ x → shape t ≡ y → agree o t ≡ shapes_agree x (instance o) y (instance t)
agreed o t x y a b = ap (λ z. shapes_agree z (instance o) (shape t) (instance t)) a ∙ ap (λ z. shapes_agree x (instance o) z (instance t)) b

shapes_clash : (o t : Name) → agree o t ≡ false → ShapesClash o t
shapes_clash o t h = by (shape o) (shape t) refl refl
  where
    by : (x y : UnitShape) → shape o ≡ x → shape t ≡ y → ShapesClash o t
    by Plain Plain a b = cc (sym (agreed o t Plain Plain a b) ∙ h)
    by Plain Template a b = plain a (λ e. cc (sym e ∙ b))
    by Plain Instance a b = plain a (λ e. cc (sym e ∙ b))
    by Template Plain a b = template a (λ e. cc (sym e ∙ b))
    by Template Template a b = cc (sym (agreed o t Template Template a b) ∙ h)
    by Template Instance a b = template a (λ e. cc (sym e ∙ b))
    by Instance Plain a b = instance_to_plain a b
    by Instance Template a b = cc (sym (agreed o t Instance Template a b) ∙ h)
    by Instance Instance a b = other_instance a b (λ e. true≢false (sym ((bytes_eq-Decides (instance o) (instance t)).1 e) ∙ sym (agreed o t Instance Instance a b) ∙ h))

shapes_differ : (o t : Name) → ShapesClash o t → agree o t ≡ false
shapes_differ o t (plain a b) = by (shape t) refl
  where
    by : (y : UnitShape) → shape t ≡ y → agree o t ≡ false
    by Plain e = absurd (b e)
    by Template e = agreed o t Plain Template a e
    by Instance e = agreed o t Plain Instance a e
shapes_differ o t (template a b) = by (shape t) refl
  where
    by : (y : UnitShape) → shape t ≡ y → agree o t ≡ false
    by Plain e = agreed o t Template Plain a e
    by Template e = absurd (b e)
    by Instance e = agreed o t Template Instance a e
shapes_differ o t (instance_to_plain a b) = agreed o t Instance Plain a b
shapes_differ o t (other_instance a b c) = agreed o t Instance Instance a b ∙ false_from_ne_true (bytes_eq (instance o) (instance t)) (λ e. c ((bytes_eq-Decides (instance o) (instance t)).0 e))

shapes_fit : (o t : Name) → (ShapesClash o t → ⊥) → agree o t ≡ true
shapes_fit o t c = by (agree o t) refl
  where
    by : (b : Bool) → agree o t ≡ b → b ≡ true
    by true e = refl
    by false e = absurd (c (shapes_clash o t e))

-- ---- the alias that a good link makes

-- An alias that can't be made is bad by its target.
alias_bad : (o : Option Name) (c : Cause) → alias_to o ≡ Bad c → (o ≡ None) × (c ≡ Target)
alias_bad None c e = (refl, cc)
alias_bad (Some m) c e = cc (e)

record IsUnmade (n t : Name) (c : Cause) : Type 0 where
  of_instance : shape n ≡ Instance
  to_template : shape t ≡ Template
  none : with_instance t (instance n) ≡ None
  cause : c ≡ Target

unmade : (n t : Name) (c : Cause) → alias_of (shape n) n (shape t) t ≡ Bad c → IsUnmade n t c
unmade n t c h = by (shape n) (shape t) refl refl h
  where
    by : (x y : UnitShape) → shape n ≡ x → shape t ≡ y → alias_of x n y t ≡ Bad c → IsUnmade n t c
    by Plain y a b e = cc (e)
    by Template y a b e = cc (e)
    by Instance Plain a b e = cc (e)
    by Instance Template a b e = let k = alias_bad (with_instance t (instance n)) c e in record { of_instance = a; to_template = b; none = k.0; cause = k.1 }
    by Instance Instance a b e = cc (e)

not_short : (m : Name) → if_short m ≡ None → 255 < length m
not_short m h = by (cases_lt 255 (length m))
  where
    by : (255 < length m) ⊎ (length m ≤ 255) → 255 < length m
    by (inl l) = l
    by (inr l) = absurd (none-some m (sym h ∙ ap (λ b. cond b (Some m) None) (le-leb (length m) 255 l)))

too_long : (m : Name) → 255 < length m → if_short m ≡ None
too_long m h = by (leb (length m) 255) refl
  where
    by : (b : Bool) → leb (length m) 255 ≡ b → cond b (Some m) None ≡ None
    by true e = absurd (let l = leb-true (length m) 255 e in omega arith)
    by false e = refl

-- A template with the instance part of a name, if the result isn't too long.
with_part_is : (n t : Name) → IsName n → shape n ≡ Instance → shape t ≡ Template
    → with_instance t (instance n) ≡ if_short (instance_name (prefix t) (instance n) (suffix t))
with_part_is n t h a b =
    let fit : is_instance (instance n) ≡ true = sym (ap (λ x. fits x (instance n)) a) ∙ (parts_of_names_fit n h).instance_fits in
    ap (λ x. instance_at x t (instance n)) b ∙ ap (λ x. cond x (if_short (instance_name (prefix t) (instance n) (suffix t))) None) fit

-- ---- what follows from the tests that were passed

kind_decided : (a b c d : Bool) (x : Choice) → (x ≡ Bad Kind → ⊥) → decided a b c d x ≡ Some (Bad Kind)
    → (a ≡ true) × (b ≡ false) × (c ≡ true)
kind_decided false b c d x h e = cc (e)
kind_decided true true c d x h e = cc (e)
kind_decided true false true d x h e = (refl, refl, refl)
kind_decided true false false true x h e = absurd (h (same_Some _ _ e))
kind_decided true false false false x h e = cc (e)

shape_decided : (a b c d : Bool) (x : Choice) → (x ≡ Bad Shape → ⊥) → decided a b c d x ≡ Some (Bad Shape)
    → (a ≡ true) × (b ≡ false) × (c ≡ false) × (d ≡ false)
shape_decided false b c d x h e = cc (e)
shape_decided true true c d x h e = cc (e)
shape_decided true false true d x h e = cc (e)
shape_decided true false false true x h e = absurd (h (same_Some _ _ e))
shape_decided true false false false x h e = (refl, refl, refl, refl)

abbrev IsLast : Bool → Bool → Bool → Bool → Choice → Type 0
IsLast a b c d x = (a ≡ true) × (b ≡ false) × (c ≡ false) × (d ≡ true) × (x ≡ Bad Target)

target_decided : (a b c d : Bool) (x : Choice) → decided a b c d x ≡ Some (Bad Target) → (a ≡ false) ⊎ IsLast a b c d x
target_decided false b c d x e = inl refl
target_decided true true c d x e = cc (e)
target_decided true false true d x e = cc (e)
target_decided true false false true x e = inr (refl, refl, refl, refl, same_Some _ _ e)
target_decided true false false false x e = cc (e)

loop_decided : (a b c d : Bool) (x : Choice) → (x ≡ Bad Loop → ⊥) → decided a b c d x ≡ Some (Bad Loop) → ⊥
loop_decided false b c d x h e = cc (e)
loop_decided true true c d x h e = cc (e)
loop_decided true false true d x h e = cc (e)
loop_decided true false false true x h e = h (same_Some _ _ e)
loop_decided true false false false x h e = cc (e)

abbrev all_decided : Name → Name → Name → Option Choice
all_decided n o t = decided (is_name t) (is_self o t) (is_bad_kind (kind o) (kind t)) (agree o t) (alias_of (shape n) n (shape t) t)

decided_by : (a b c d e f g h : Bool) (x : Choice) → a ≡ e → b ≡ f → c ≡ g → d ≡ h → decided a b c d x ≡ decided e f g h x
decided_by a b c d e f g h x p q r s = cc

pub kinds_make_bad : KindsMakeBad
kinds_make_bad s n o t level well_formed stands = (there, back)
  where
    there : says s n o level ≡ Some (Bad Kind) → IsHeeded o t × KindsClash o t
    there h =
        let k = kind_decided (is_name t) (is_self o t) (is_bad_kind (kind o) (kind t)) (agree o t) (alias_of (shape n) n (shape t) t) (λ e. cc ((unmade n t Kind e).cause)) (sym (said_link s n o t level stands) ∙ h) in
        (heeded o t k.0 k.1, kinds_clash o t well_formed k.0 k.2)

    back : IsHeeded o t × KindsClash o t → says s n o level ≡ Some (Bad Kind)
    back (k, c) =
        said_link s n o t level stands
        ∙ decided_by (is_name t) (is_self o t) (is_bad_kind (kind o) (kind t)) (agree o t) true false true (agree o t) (alias_of (shape n) n (shape t) t) k.name (is_heeded o t k) (are_bad_kinds o t well_formed k.name c) refl

pub shapes_make_bad : ShapesMakeBad
shapes_make_bad s n o t level well_formed stands = (there, back)
  where
    there : says s n o level ≡ Some (Bad Shape) → IsHeeded o t × (KindsClash o t → ⊥) × ShapesClash o t
    there h =
        let k = shape_decided (is_name t) (is_self o t) (is_bad_kind (kind o) (kind t)) (agree o t) (alias_of (shape n) n (shape t) t) (λ e. cc ((unmade n t Shape e).cause)) (sym (said_link s n o t level stands) ∙ h) in
        (heeded o t k.0 k.1, no_clash o t well_formed k.0 k.2, shapes_clash o t k.3)

    back : IsHeeded o t × (KindsClash o t → ⊥) × ShapesClash o t → says s n o level ≡ Some (Bad Shape)
    back (k, c, d) =
        said_link s n o t level stands
        ∙ decided_by (is_name t) (is_self o t) (is_bad_kind (kind o) (kind t)) (agree o t) true false false false (alias_of (shape n) n (shape t) t) k.name (is_heeded o t k) (kinds_fit o t well_formed k.name c) (shapes_differ o t d)

pub targets_make_bad : TargetsMakeBad
targets_make_bad s n o t level named well_formed stands = (there, back)
  where
    grown : IsLast (is_name t) (is_self o t) (is_bad_kind (kind o) (kind t)) (agree o t)
        (alias_of (shape n) n (shape t) t) → GrowsTooLong n o t
    grown k =
        let u = unmade n t Target k.4 in
        record {
          heeded = heeded o t k.0 k.1;
          kinds = no_clash o t well_formed k.0 k.2;
          shapes = λ c. true≢false (sym k.3 ∙ shapes_differ o t c);
          of_instance = u.of_instance;
          to_template = u.to_template;
          long = not_short _ (sym (with_part_is n t named u.of_instance u.to_template) ∙ u.none);
        }

    pick : (is_name t ≡ false) ⊎ IsLast (is_name t) (is_self o t) (is_bad_kind (kind o) (kind t)) (agree o t)
        (alias_of (shape n) n (shape t) t) → (IsName t → ⊥) ⊎ GrowsTooLong n o t
    pick (inl e) = inl (λ h. true≢false (sym h ∙ e))
    pick (inr k) = inr (grown k)

    there : says s n o level ≡ Some (Bad Target) → (IsName t → ⊥) ⊎ GrowsTooLong n o t
    there h = pick (target_decided (is_name t) (is_self o t) (is_bad_kind (kind o) (kind t)) (agree o t) (alias_of (shape n) n (shape t) t) (sym (said_link s n o t level stands) ∙ h))

    back : (IsName t → ⊥) ⊎ GrowsTooLong n o t → says s n o level ≡ Some (Bad Target)
    back (inl h) =
        said_link s n o t level stands
        ∙ decided_by (is_name t) (is_self o t) (is_bad_kind (kind o) (kind t)) (agree o t) false (is_self o t) (is_bad_kind (kind o) (kind t)) (agree o t) (alias_of (shape n) n (shape t) t) (false_from_ne_true (is_name t) h) refl refl refl
    back (inr k) =
        said_link s n o t level stands
        ∙ decided_by (is_name t) (is_self o t) (is_bad_kind (kind o) (kind t)) (agree o t) true false false true (alias_of (shape n) n (shape t) t) k.heeded.name (is_heeded o t k.heeded) (kinds_fit o t well_formed k.heeded.name k.kinds) (shapes_fit o t k.shapes)
        ∙ ap (λ x. Some (alias_of x n (shape t) t)) k.of_instance
        ∙ ap (λ x. Some (alias_of Instance n x t)) k.to_template
        ∙ ap (λ m. Some (alias_to m)) (with_part_is n t named k.of_instance k.to_template ∙ too_long _ k.long)

pub no_link_is_a_loop : NoLinkIsALoop
no_link_is_a_loop s n o t level stands h =
    loop_decided (is_name t) (is_self o t) (is_bad_kind (kind o) (kind t)) (agree o t) (alias_of (shape n) n (shape t) t) (λ e. cc ((unmade n t Loop e).cause)) (sym (said_link s n o t level stands) ∙ h)

-- ---- good links

abbrev IsGood : Bool → Bool → Bool → Bool → Choice → Name → Type 0
IsGood a b c d x m = (a ≡ true) × (b ≡ false) × (c ≡ false) × (d ≡ true) × (x ≡ Alias m)

alias_decided : (a b c d : Bool) (x : Choice) (m : Name) → decided a b c d x ≡ Some (Alias m) → IsGood a b c d x m
alias_decided false b c d x m e = cc (e)
alias_decided true true c d x m e = cc (e)
alias_decided true false true d x m e = cc (e)
alias_decided true false false true x m e = (refl, refl, refl, refl, same_Some _ _ e)
alias_decided true false false false x m e = cc (e)

to_name : (o : Option Name) (m : Name) → alias_to o ≡ Alias m → o ≡ Some m
to_name None m e = cc (e)
to_name (Some x) m e = cc (e)

-- The alias that is made, as a proposition.
made_alias : (n t m : Name) → IsName n → alias_of (shape n) n (shape t) t ≡ Alias m → IsAliasOf n t m
made_alias n t m h e = by (shape n) (shape t) refl refl e
  where
    parted : shape n ≡ Instance → shape t ≡ Template → with_instance t (instance n) ≡ Some m → IsAliasOf n t m
    parted a b k =
        let short = cond_some (leb (length (instance_name (prefix t) (instance n) (suffix t))) 255) (instance_name (prefix t) (instance n) (suffix t)) m (sym (with_part_is n t h a b) ∙ k) in
        with_part a b (sym short.1) (subst (λ x. length x ≤ 255) short.1 (leb-true (length (instance_name (prefix t) (instance n) (suffix t))) 255 short.0))

    by : (x y : UnitShape) → shape n ≡ x → shape t ≡ y → alias_of x n y t ≡ Alias m → IsAliasOf n t m
    by Plain y a b k = itself (λ i. cc (sym a ∙ i)) cc
    by Template y a b k = itself (λ i. cc (sym a ∙ i)) cc
    by Instance Plain a b k = itself (λ i j. cc (sym b ∙ j)) cc
    by Instance Template a b k = parted a b (to_name (with_instance t (instance n)) m k)
    by Instance Instance a b k = itself (λ i j. cc (sym b ∙ j)) cc

alias_made : (n t m : Name) → IsName n → IsAliasOf n t m → alias_of (shape n) n (shape t) t ≡ Alias m
alias_made n t m h (with_part a b e l) =
    ap (λ x. alias_of x n (shape t) t) a ∙ ap (λ x. alias_of Instance n x t) b
    ∙ ap (λ x. alias_to x) (with_part_is n t h a b ∙ ap (λ x. if_short x) (sym e) ∙ ap (λ x. cond x (Some m) None) (le-leb (length m) 255 l))
alias_made n t m h (itself d e) = by (shape n) (shape t) refl refl
  where
    by : (x y : UnitShape) → shape n ≡ x → shape t ≡ y → alias_of x n y t ≡ Alias m
    by Plain y a b = ap (λ x. Alias x) (sym e)
    by Template y a b = ap (λ x. Alias x) (sym e)
    by Instance Plain a b = ap (λ x. Alias x) (sym e)
    by Instance Template a b = absurd (d a b)
    by Instance Instance a b = ap (λ x. Alias x) (sym e)

pub good_links_make_aliases : GoodLinksMakeAliases
good_links_make_aliases s n o t m level named well_formed stands = (there, back)
  where
    there : says s n o level ≡ Some (Alias m) → IsHeeded o t × (KindsClash o t → ⊥) × (ShapesClash o t → ⊥) × IsAliasOf n t m
    there h =
        let k = alias_decided (is_name t) (is_self o t) (is_bad_kind (kind o) (kind t)) (agree o t) (alias_of (shape n) n (shape t) t) m (sym (said_link s n o t level stands) ∙ h) in
        (heeded o t k.0 k.1, no_clash o t well_formed k.0 k.2, λ c. true≢false (sym k.3 ∙ shapes_differ o t c), made_alias n t m named k.4)

    back : IsHeeded o t × (KindsClash o t → ⊥) × (ShapesClash o t → ⊥) × IsAliasOf n t m → says s n o level ≡ Some (Alias m)
    back (k, c, d, a) =
        said_link s n o t level stands
        ∙ decided_by (is_name t) (is_self o t) (is_bad_kind (kind o) (kind t)) (agree o t) true false false true (alias_of (shape n) n (shape t) t) k.name (is_heeded o t k) (kinds_fit o t well_formed k.name c) (shapes_fit o t d)
        ∙ ap (λ x. Some x) (alias_made n t m named a)
