-- What makes a name an alias of another: its own links, or the links of its template.
use Rattle.std.proofs.Common.{◌∷◌, ◌≡◌, ◌⊎◌}
use Rattle.fragment_choice.proofs.Prelude.{[], Alias, alias_of, alias_said, ap, Bad, Bool, Choice, cond, Content, content_says, false, File, first_said, Gone, has_template, HostViewMap, inl, inr, Instance, instance, instances_have_the_template, is_bad_kind, is_name, is_null, is_self, IsName, IsPassed, Kind, kind, last_component, Leads, levels, Link, link_says, List, Masked, Name, None, NotFound, Option, option_and_then, option_or, own_choice, own_path, own_place, passed, PlaceParts, Plain, refl, says, Shape, shape, shapes_agree, Some, sym, Target, target_says, Template, template_alias, template_of, templates_keep_parts, true, UnitShape, unwrap_or, viewed_at, with_instance, ℕ, ◌∙◌}

-- The links of a template make it an alias of a template of `m`.
pub record LeadsTemplate (s : HostViewMap) (o m : Name) : Type 0 where
  pub target : Name
  pub own : own_choice s o o ≡ Some (Alias target)
  pub template : template_of m ≡ Some target

-- The same for a given answer in place of the template's own choice.
record SaysTemplate (c : Option Choice) (m : Name) : Type 0 where
  target : Name
  said : c ≡ Some (Alias target)
  template : template_of m ≡ Some target

-- A link that is ignored for one name is ignored for the other, and a link that makes one an alias makes the other an
-- alias.
both_pass : (a b c : Bool) (x y : Choice) → cond a None (cond b (Some (Bad Kind)) (cond c (Some x) (Some (Bad Shape)))) ≡ None → cond a None (cond b (Some (Bad Kind)) (cond c (Some y) (Some (Bad Shape)))) ≡ None
both_pass true b c x y h = refl
both_pass false true c x y h = cc (h)
both_pass false false true x y h = cc (h)
both_pass false false false x y h = cc (h)

both_alias : (a b c : Bool) (x y : Choice) (m : Name) → cond a None (cond b (Some (Bad Kind)) (cond c (Some x) (Some (Bad Shape)))) ≡ Some (Alias m) → cond a None (cond b (Some (Bad Kind)) (cond c (Some y) (Some (Bad Shape)))) ≡ Some y
both_alias true b c x y m h = cc (h)
both_alias false true c x y m h = cc (h)
both_alias false false true x y m h = refl
both_alias false false false x y m h = cc (h)

module _ (n o : Name) (well_formed : IsName n) (of : template_of n ≡ Some o) where
  is_instance : shape n ≡ Instance
  is_instance = has_template (shape n) n o of

  is_template : shape o ≡ Template
  is_template = (templates_keep_parts n o well_formed of).2.shape_is

  -- A link of the template that makes the instance an alias points to a template, and makes the instance's template an
  -- alias of it.
  target_leads : (t m : Name) → IsName t → target_says n o t ≡ Some (Alias m) → SaysTemplate (target_says o o t) m
  target_leads t m good h = by (shape t) refl agree alias
    where
      past : IsPassed n o t m
      past = passed n o t m h

      agree : shapes_agree Template (instance o) (shape t) (instance t) ≡ true
      agree = sym (ap (λ x. shapes_agree x (instance o) (shape t) (instance t)) is_template) ∙ past.agree

      alias : alias_of Instance n (shape t) t ≡ Alias m
      alias = sym (ap (λ x. alias_of x n (shape t) t) is_instance) ∙ past.alias

      says_target : target_says o o t ≡ Some (alias_of (shape o) o (shape t) t)
      says_target = both_alias (is_self o t) (is_bad_kind (kind o) (kind t)) (shapes_agree (shape o) (instance o) (shape t) (instance t)) (alias_of (shape n) n (shape t) t) (alias_of (shape o) o (shape t) t) m h

      by : (x : UnitShape) → shape t ≡ x → shapes_agree Template (instance o) x (instance t) ≡ true → alias_of Instance n x t ≡ Alias m → SaysTemplate (target_says o o t) m
      by Plain e g k = cc (g)
      by Instance e g k = cc (g)
      by Template e g k =
          let all = (instances_have_the_template t (instance n) m good).0 (template_alias (with_instance t (instance n)) m k) in
          record { target = t; said = says_target ∙ ap (λ x. Some (alias_of x o (shape t) t)) is_template; template = all.1 }

  link_passes : (t : List ℕ) → link_says n o t ≡ None → link_says o o t ≡ None
  link_passes t h = by (is_name t) h
    where
      by : (b : Bool) → cond b (target_says n o t) (Some (Bad Target)) ≡ None → cond b (target_says o o t) (Some (Bad Target)) ≡ None
      by true k = both_pass (is_self o t) (is_bad_kind (kind o) (kind t)) (shapes_agree (shape o) (instance o) (shape t) (instance t)) (alias_of (shape n) n (shape t) t) (alias_of (shape o) o (shape t) t) k
      by false k = cc (k)

  link_leads : (t m : Name) → link_says n o t ≡ Some (Alias m) → SaysTemplate (link_says o o t) m
  link_leads t m h = by (is_name t) refl h
    where
      by : (b : Bool) → is_name t ≡ b → cond b (target_says n o t) (Some (Bad Target)) ≡ Some (Alias m) → SaysTemplate (cond b (target_says o o t) (Some (Bad Target))) m
      by true e k = target_leads t m e k
      by false e k = cc (k)

  content_passes : (p : PlaceParts) (c : Content) → content_says n o p c ≡ None → content_says o o p c ≡ None
  content_passes p Gone h = refl
  content_passes p (File []) h = cc (h)
  content_passes p (File (b ∷ bs)) h = cc (h)
  content_passes p (Link target) h = by (is_null target) h
    where
      by : (b : Bool) → cond b (Some Masked) (link_says n o (last_component target)) ≡ None → cond b (Some Masked) (link_says o o (last_component target)) ≡ None
      by true k = cc (k)
      by false k = link_passes (last_component target) k

  content_leads : (p : PlaceParts) (c : Content) (m : Name) → content_says n o p c ≡ Some (Alias m) → SaysTemplate (content_says o o p c) m
  content_leads p Gone m h = cc (h)
  content_leads p (File []) m h = cc (h)
  content_leads p (File (b ∷ bs)) m h = cc (h)
  content_leads p (Link target) m h = by (is_null target) h
    where
      by : (b : Bool) → cond b (Some Masked) (link_says n o (last_component target)) ≡ Some (Alias m) → SaysTemplate (cond b (Some Masked) (link_says o o (last_component target))) m
      by true k = cc (k)
      by false k = link_leads (last_component target) m k

  visible_passes : (p : PlaceParts) (v : Option Content) → option_and_then (content_says n o p) v ≡ None → option_and_then (content_says o o p) v ≡ None
  visible_passes p None h = refl
  visible_passes p (Some c) h = content_passes p c h

  visible_leads : (p : PlaceParts) (v : Option Content) (m : Name) → option_and_then (content_says n o p) v ≡ Some (Alias m) → SaysTemplate (option_and_then (content_says o o p) v) m
  visible_leads p None m h = cc (h)
  visible_leads p (Some c) m h = content_leads p c m h

  along : (s : HostViewMap) (m : Name) (rs : List ℕ) → first_said (says s n o) rs ≡ Some (Alias m) → SaysTemplate (first_said (says s o o) rs) m
  along s m [] h = cc (h)
  along s m (r ∷ rs) h = by (says s n o r) refl (along s m rs) h
    where
      by : (x : Option Choice) → says s n o r ≡ x → (first_said (says s n o) rs ≡ Some (Alias m) → SaysTemplate (first_said (says s o o) rs) m) → option_or x (first_said (says s n o) rs) ≡ Some (Alias m) → SaysTemplate (first_said (says s o o) (r ∷ rs)) m
      by None e more k =
          let after = more k in
          record { target = after.target; said = ap (λ x. option_or x (first_said (says s o o) rs)) (visible_passes (own_place s o r) (viewed_at s (own_path o r)) e) ∙ after.said; template = after.template }
      by (Some c) e more k =
          let at = visible_leads (own_place s o r) (viewed_at s (own_path o r)) m (e ∙ k) in
          record { target = at.target; said = ap (λ x. option_or x (first_said (says s o o) rs)) at.said; template = at.template }

  pub template_leads : (s : HostViewMap) (m : Name) → own_choice s n o ≡ Some (Alias m) → LeadsTemplate s o m
  template_leads s m h =
      let w = along s m levels h in
      record { target = w.target; own = w.said; template = w.template }

-- A name's own links make it an alias.
pub own_leads : (s : HostViewMap) (n m : Name) → own_choice s n n ≡ Some (Alias m) → Leads s n m
own_leads s n m h = ap (λ c. unwrap_or (option_or c (option_and_then (own_choice s n) (template_of n))) NotFound) h

-- What makes `n` an alias of `m`.
pub leads_by : (s : HostViewMap) (n m : Name) → IsName n → Leads s n m → (own_choice s n n ≡ Some (Alias m)) ⊎ ((o : Name) × (template_of n ≡ Some o) × LeadsTemplate s o m)
leads_by s n m well_formed h = by_own (own_choice s n n) refl h
  where
    by_template : (t : Option Name) → template_of n ≡ t → unwrap_or (option_and_then (own_choice s n) t) NotFound ≡ Alias m → (own_choice s n n ≡ Some (Alias m)) ⊎ ((o : Name) × (template_of n ≡ Some o) × LeadsTemplate s o m)
    by_template None e k = cc (k)
    by_template (Some o) e k = inr (o, e, template_leads n o well_formed e s m (alias_said (own_choice s n o) m k))

    by_own : (c : Option Choice) → own_choice s n n ≡ c → unwrap_or (option_or c (option_and_then (own_choice s n) (template_of n))) NotFound ≡ Alias m → (own_choice s n n ≡ Some (Alias m)) ⊎ ((o : Name) × (template_of n ≡ Some o) × LeadsTemplate s o m)
    by_own None e k = by_template (template_of n) refl k
    by_own (Some c) e k = inl (e ∙ ap (λ x. Some x) k)
