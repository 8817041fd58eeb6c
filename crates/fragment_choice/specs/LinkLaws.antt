-- Laws of links: where aliases come from, and what an instance keeps along them.
use Rattle.std.proofs.Common.{◌∷◌, ◌≡◌, ◌⊎◌}
use Rattle.fragment_choice.specs.Prelude.{[], ap, Bool, bytes_eq-Decides, cond, Content, false, File, Gone, HostViewMap, inl, inr, Instance, instance, instances_have_the_template, is_name, IsLevel, IsName, kind, Link, List, Name, None, none-some, Option, option_and_then, option_or, Plain, refl, said_by, same_Some, shape, Some, subst, sym, Template, template_at, template_of, templates_keep_parts, true, UnitShape, unwrap_or, viewed_at, with_instance, ℕ, ◌∙◌}
use Rattle.fragment_choice.specs.{Choices.{alias_of, alias_to, content_says, is_bad_kind, is_null, is_self, last_component, link_says, own_choice, own_path, own_place, says, shapes_agree, target_says}, declared.{choices.{Cause.TheVariants.{Kind, Shape, Target}, Choice.{Choice, TheVariants.{Alias, Bad, Fragment, Masked, NotFound}}}, resolutions.Resolution.{Resolution}}, LinkedNames.{is_link, IsLinkedAt}, ResolutionLaws.{resolution_resolves}, Resolutions.{Chain, Chain.{here, step}, Leads, main, resolution, Resolves, Resolves.{ends_at, goes_on}}}

-- A name that is an alias has a visible link of its own or of its template.
abbrev pub AliasesHaveLinks : Type 0
AliasesHaveLinks = (s : HostViewMap) (n m : Name) → Leads s n m → (level : ℕ) × IsLevel level × IsLinkedAt s level n

-- The main name of an instance is an instance with the same instance part.
abbrev pub InstancesKeepTheirPart : Type 0
InstancesKeepTheirPart = (s : HostViewMap) (n : Name) → IsName n → shape n ≡ Instance → IsName (main s n) × (shape (main s n) ≡ Instance) × (instance (main s n) ≡ instance n)

-- The link that made a name an alias.
pub record ByLink (s : HostViewMap) (n o m : Name) : Type 0 where
  pub level : ℕ
  pub within : IsLevel level
  pub target : List ℕ
  pub there : viewed_at s (own_path o level) ≡ Some (Link target)
  pub said : target_says n o (last_component target) ≡ Some (Alias m)
  pub well_formed : IsName (last_component target)

null_or : (b : Bool) (n o t m : Name) → cond b (Some Masked) (link_says n o t) ≡ Some (Alias m)
    → IsName t × (target_says n o t ≡ Some (Alias m))
null_or true n o t m h = cc (h)
null_or false n o t m h = by (is_name t) refl h
  where
    by : (b : Bool) → is_name t ≡ b → cond b (target_says n o t) (Some (Bad Target)) ≡ Some (Alias m)
        → IsName t × (target_says n o t ≡ Some (Alias m))
    by true e k = (e, k)
    by false e k = cc (k)

by_link : (s : HostViewMap) (n o m : Name) (r : ℕ) → IsLevel r → (v : Option Content) → viewed_at s (own_path o r) ≡ v
    → option_and_then (content_says n o (own_place s o r)) v ≡ Some (Alias m) → ByLink s n o m
by_link s n o m r within None e h = cc (h)
by_link s n o m r within (Some Gone) e h = cc (h)
by_link s n o m r within (Some (File [])) e h = cc (h)
by_link s n o m r within (Some (File (b ∷ bs))) e h = cc (h)
by_link s n o m r within (Some (Link t)) e h =
    let k = null_or (is_null t) n o (last_component t) m h in
    record { level = r; within = within; target = t; there = e; said = k.1; well_formed = k.0 }

pub own_link : (s : HostViewMap) (n o m : Name) → own_choice s n o ≡ Some (Alias m) → ByLink s n o m
own_link s n o m h =
    let w = said_by (says s n o) (Alias m) h in
    by_link s n o m w.0 w.1 (viewed_at s (own_path o w.0)) refl w.2

-- The link belongs to the name itself or to its template.
pub record HasLink (s : HostViewMap) (n m : Name) : Type 0 where
  pub owner : Name
  pub owns : (owner ≡ n) ⊎ (template_of n ≡ Some owner)
  pub link : ByLink s n owner m

pub alias_said : (c : Option Choice) (m : Name) → unwrap_or c NotFound ≡ Alias m → c ≡ Some (Alias m)
alias_said None m h = cc (h)
alias_said (Some c) m h = ap (λ x. Some x) h

pub has_link : (s : HostViewMap) (n m : Name) → Leads s n m → HasLink s n m
has_link s n m h = by_own (own_choice s n n) refl h
  where
    by_template : (t : Option Name) → template_of n ≡ t → unwrap_or (option_and_then (own_choice s n) t) NotFound ≡ Alias m → HasLink s n m
    by_template None e k = cc (k)
    by_template (Some o) e k = record { owner = o; owns = inr e; link = own_link s n o m (alias_said (own_choice s n o) m k) }

    by_own : (c : Option Choice) → own_choice s n n ≡ c
        → unwrap_or (option_or c (option_and_then (own_choice s n) (template_of n))) NotFound ≡ Alias m → HasLink s n m
    by_own None e k = by_template (template_of n) refl k
    by_own (Some c) e k = record { owner = n; owns = inl refl; link = own_link s n n m (e ∙ ap (λ x. Some x) k) }

pub aliases_have_links : AliasesHaveLinks
aliases_have_links s n m h =
    let l = has_link s n m h in
    (l.link.level, l.link.within, (l.owner, record { link = ap is_link l.link.there; owner = l.owns }))

-- The tests that a link passes if it makes an alias.
pub record IsPassed (n o t m : Name) : Type 0 where
  pub kinds : is_bad_kind (kind o) (kind t) ≡ false
  pub agree : shapes_agree (shape o) (instance o) (shape t) (instance t) ≡ true
  pub alias : alias_of (shape n) n (shape t) t ≡ Alias m

pub passed : (n o t m : Name) → target_says n o t ≡ Some (Alias m) → IsPassed n o t m
passed n o t m h = by_self (is_self o t) h
  where
    by_shape : (b : Bool) → is_bad_kind (kind o) (kind t) ≡ false
        → shapes_agree (shape o) (instance o) (shape t) (instance t) ≡ b
        → cond b (Some (alias_of (shape n) n (shape t) t)) (Some (Bad Shape)) ≡ Some (Alias m) → IsPassed n o t m
    by_shape true q e k = record { kinds = q; agree = e; alias = same_Some _ _ k }
    by_shape false q e k = cc (k)

    by_kind : (b : Bool) → is_bad_kind (kind o) (kind t) ≡ b
        → cond b (Some (Bad Kind))
        (cond (shapes_agree (shape o) (instance o) (shape t) (instance t)) (Some (alias_of (shape n) n (shape t) t))
        (Some (Bad Shape))) ≡ Some (Alias m) → IsPassed n o t m
    by_kind true q k = cc (k)
    by_kind false q k = by_shape (shapes_agree (shape o) (instance o) (shape t) (instance t)) q refl k

    by_self : (b : Bool)
        → cond b None
        (cond (is_bad_kind (kind o) (kind t)) (Some (Bad Kind))
        (cond (shapes_agree (shape o) (instance o) (shape t) (instance t))
        (Some (alias_of (shape n) n (shape t) t)) (Some (Bad Shape)))) ≡ Some (Alias m) → IsPassed n o t m
    by_self true k = cc (k)
    by_self false k = by_kind (is_bad_kind (kind o) (kind t)) refl k

-- An instance with this instance part.
pub record IsInstance (i n : Name) : Type 0 where
  pub name : IsName n
  pub shape_is : shape n ≡ Instance
  pub part : instance n ≡ i

pub has_template : (x : UnitShape) (n t : Name) → template_at x n ≡ Some t → x ≡ Instance
has_template Plain n t h = absurd (none-some _ h)
has_template Template n t h = absurd (none-some _ h)
has_template Instance n t h = refl

-- The owner of an instance's link is that instance, or a template.
owner_shape : (n o : Name) → IsName n → shape n ≡ Instance → (o ≡ n) ⊎ (template_of n ≡ Some o)
    → ((shape o ≡ Instance) × (instance o ≡ instance n)) ⊎ (shape o ≡ Template)
owner_shape n o h e (inl q) = inl (ap shape q ∙ e, ap instance q)
owner_shape n o h e (inr q) = inr (templates_keep_parts n o h q).2.shape_is

pub template_alias : (o : Option Name) (m : Name) → alias_to o ≡ Alias m → o ≡ Some m
template_alias None m h = cc (h)
template_alias (Some x) m h = ap (λ c. unaliased c) h
  where
    unaliased : Choice → Option Name
    unaliased NotFound = None
    unaliased Masked = None
    unaliased (Fragment p) = None
    unaliased (Alias y) = Some y
    unaliased (Bad x) = None

pub alias_same : (t m : Name) → Alias t ≡ Alias m → t ≡ m
alias_same t m h = same_Some _ _ (template_alias (Some t) m h)

keeps : (n o t m : Name) → IsName n → shape n ≡ Instance → IsName t → ((shape o ≡ Instance) × (instance o ≡ instance n))
    ⊎ (shape o ≡ Template) → IsPassed n o t m → IsInstance (instance n) m
keeps n o t m h e well_formed owner p =
    by (shape t) refl owner (sym (ap (λ x. alias_of x n (shape t) t) e) ∙ p.alias) p.agree
  where
    agreed : (x y : UnitShape) → shape o ≡ x → shape t ≡ y → shapes_agree (shape o) (instance o) (shape t) (instance t)
        ≡ true → shapes_agree x (instance o) y (instance t) ≡ true
    agreed x y a b k = sym (ap (λ z. shapes_agree z (instance o) (shape t) (instance t)) a ∙ ap (λ z. shapes_agree x (instance o) z (instance t)) b) ∙ k

    of_template : shape t ≡ Template → alias_of Instance n (shape t) t ≡ Alias m → IsInstance (instance n) m
    of_template q k =
        let some = template_alias (with_instance t (instance n)) m (sym (ap (λ z. alias_of Instance n z t) q) ∙ k) in
        let all = (instances_have_the_template t (instance n) m well_formed).0 some in
        record { name = all.0; shape_is = has_template (shape m) m t all.1; part = all.2 }

    by : (y : UnitShape) → shape t ≡ y → ((shape o ≡ Instance) × (instance o ≡ instance n)) ⊎ (shape o ≡ Template)
        → alias_of Instance n (shape t) t ≡ Alias m → shapes_agree (shape o) (instance o) (shape t) (instance t) ≡ true
        → IsInstance (instance n) m
    by Plain q (inl (a, i)) k g = cc (agreed Instance Plain a q g)
    by Plain q (inr a) k g = cc (agreed Template Plain a q g)
    by Template q (inl (a, i)) k g = of_template q k
    by Template q (inr a) k g = of_template q k
    by Instance q (inl (a, i)) k g =
        let parts : instance o ≡ instance t = (bytes_eq-Decides (instance o) (instance t)).0 (agreed Instance Instance a q g) in
        let same : t ≡ m = alias_same t m (sym (ap (λ z. alias_of Instance n z t) q) ∙ k) in
        record { name = subst IsName same well_formed; shape_is = sym (ap shape same) ∙ q; part = sym (ap instance same) ∙ sym parts ∙ i }
    by Instance q (inr a) k g = cc (agreed Template Instance a q g)

-- What an instance is an alias of is an instance with the same instance part.
pub alias_keeps : (s : HostViewMap) (i n m : Name) → Leads s n m → IsInstance i n → IsInstance i m
alias_keeps s i n m h k =
    let l = has_link s n m h in
    let p = passed n l.owner (last_component l.link.target) m l.link.said in
    let r = keeps n l.owner (last_component l.link.target) m k.name k.shape_is l.link.well_formed (owner_shape n l.owner k.name k.shape_is l.owns) p in
    record { name = r.name; shape_is = r.shape_is; part = r.part ∙ k.part }

chain_keeps : (s : HostViewMap) (i n u : Name) (d : ℕ) → Chain s d n u → IsInstance i n → IsInstance i u
chain_keeps s i n u d (here _) k = k
chain_keeps s i n u d (step _ m _ e l rest) k = chain_keeps s i m u e rest (alias_keeps s i n m l k)

resolves_keeps : (s : HostViewMap) (i n : Name) (r : Resolution) → Resolves s n r → IsInstance i n → IsInstance i r.main
resolves_keeps s i n r (ends_at d u le chain ends) k = chain_keeps s i n u d chain k
resolves_keeps s i n r (goes_on u chain) k = k

pub instances_keep_their_part : InstancesKeepTheirPart
instances_keep_their_part s n h e =
    let k = resolves_keeps s (instance n) n (resolution s n) (resolution_resolves s n) (record { name = h; shape_is = e; part = refl }) in
    (k.name, k.shape_is, k.part)
