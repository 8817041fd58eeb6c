-- A law of what is not found: nothing speaks for the name, nor for its template.
use Rattle.std.proofs.Common.{◌||◌, ◌↔◌, ◌∷◌, ◌≡◌, ◌⊎◌}
use Rattle.unit_name.specs.Names.{name_of}
use Rattle.fragment_choice.specs.Prelude.{[], all_none, ap, Bool, bytes_eq-Decides, codes, cond, Content, Entry, false, HostViewMap, inl, inr, Instance, instance, is_eq, is_equal, is_name, IsLevel, IsName, kind, List, Name, name_cmp-IsAntisymmetric, nat_list_cmp_total, None, none-some, none_said, Option, option_and_then, option_or, or_right, PlaceParts, Plain, refl, said_by, same_Some, Shape, shape, shown, Some, subst, sym, Template, template_of, tied_itself, true, true≢false, unwrap_or, view, viewed_at, with_instance, ℕ, ◌∙◌}
use Rattle.fragment_choice.specs.{Choices.{alias_of, alias_to, choice, content_says, is_bad_kind, is_null, is_same, is_self, is_that, last_component, link_says, own_choice, own_path, own_place, says, shapes_agree, target_says}, declared.choices.Choice.{Choice, TheVariants.{Bad, Masked, NotFound}}}
use Rattle.edit_sums.specs.declared.contents.Content.TheVariants as content
use Rattle.std.specs.FinMap as finmap
use Rattle.fragment_choice.specs.declared.choices.Cause.TheVariants as cause

-- a link that is passed over: it leads to the name o that it has itself, or to the template of o
pub record IsPassedOver (o : Name) (x : Content) : Type 0 where
  pub target : List ℕ
  pub link : x ≡ content.Link target
  pub name : IsName (last_component target)
  pub itself : (last_component target ≡ o) ⊎ (template_of o ≡ Some (last_component target))

-- nothing speaks under the name o: whatever is visible of it at any level is passed over
abbrev pub NothingSpeaks : HostViewMap → Name → Type 0
NothingSpeaks s o = (level : ℕ) (x : Content) → IsLevel level → viewed_at s (own_path o level) ≡ Some x → IsPassedOver o x

-- a name is not found just where nothing speaks under it, nor under its template
abbrev pub UndefinedIsNotFound : Type 0
UndefinedIsNotFound = (s : HostViewMap) (n : Name) → (choice s n ≡ NotFound) ↔ (NothingSpeaks s n × ((o : Name) → template_of n ≡ Some o → NothingSpeaks s o))

-- ---- links to themselves

same_name : (o t : Name) → is_same o t ≡ true → t ≡ o
same_name o t h = sym (name_cmp-IsAntisymmetric o t (is_equal _ h))

same_itself : (o t : Name) → t ≡ o → is_same o t ≡ true
same_itself o t e = ap (is_same o) e ∙ ap is_eq (tied_itself nat_list_cmp_total o)

that_is : (m : Option Name) (t : Name) → is_that m t ≡ true → m ≡ Some t
that_is None t h = cc (h)
that_is (Some m) t h = ap (λ x. Some x) (sym (same_name m t h))

-- a link that leads to itself, in words
pub leads_to_itself : (o t : Name) → is_self o t ≡ true → (t ≡ o) ⊎ (template_of o ≡ Some t)
leads_to_itself o t h = by (is_same o t) refl h
  where
    by : (b : Bool) → is_same o t ≡ b → (b || is_that (template_of o) t) ≡ true → (t ≡ o) ⊎ (template_of o ≡ Some t)
    by true e k = inl (same_name o t e)
    by false e k = inr (that_is (template_of o) t k)

pub itself_leads : (o t : Name) → (t ≡ o) ⊎ (template_of o ≡ Some t) → is_self o t ≡ true
itself_leads o t (inl e) = ap (λ b. b || is_that (template_of o) t) (same_itself o t e)
itself_leads o t (inr e) = or_right (is_same o t) (is_that (template_of o) t) (ap (λ m. is_that m t) e ∙ same_itself t t refl)

-- the target that masks ends in no unit's name
null_is_no_name : is_name (last_component (codes "/dev/null")) ≡ false
unfolding name_of
null_is_no_name = refl

-- ---- what a content says

-- what a link says, by its four tests
abbrev pub decided : Bool → Bool → Bool → Bool → Choice → Option Choice
decided a b c d alias = cond a (cond b None (cond c (Some (Bad cause.Kind)) (cond d (Some alias) (Some (Bad cause.Shape))))) (Some (Bad cause.Target))

alias_found : (x : Shape) (n : Name) (y : Shape) (t : Name) → alias_of x n y t ≡ NotFound → ⊥
alias_found Plain n y t e = cc (e)
alias_found Template n y t e = cc (e)
alias_found Instance n Plain t e = cc (e)
alias_found Instance n Template t e = by (with_instance t (instance n)) e
  where
    by : (o : Option Name) → alias_to o ≡ NotFound → ⊥
    by None h = cc (h)
    by (Some m) h = cc (h)
alias_found Instance n Instance t e = cc (e)

link_found : (a b c d : Bool) (x : Choice) → (x ≡ NotFound → ⊥) → decided a b c d x ≡ Some NotFound → ⊥
link_found false b c d x h e = cc (e)
link_found true true c d x h e = cc (e)
link_found true false true d x h e = cc (e)
link_found true false false true x h e = h (same_Some _ _ e)
link_found true false false false x h e = cc (e)

content_found : (n o : Name) (p : PlaceParts) (x : Content) → content_says n o p x ≡ Some NotFound → ⊥
content_found n o p content.Gone e = cc (e)
content_found n o p (content.File []) e = cc (e)
content_found n o p (content.File (b ∷ bs)) e = cc (e)
content_found n o p (content.Link target) e = by (is_null target) e
  where
    t : List ℕ
    t = last_component target

    by : (b : Bool) → cond b (Some Masked) (link_says n o (last_component target)) ≡ Some NotFound → ⊥
    by true h = cc (h)
    by false h =
        link_found (is_name (last_component target)) (is_self o (last_component target)) (is_bad_kind (kind o) (kind (last_component target)))
        (shapes_agree (shape o) (instance o) (shape (last_component target)) (instance (last_component target))) (alias_of (shape n) n (shape (last_component target)) (last_component target))
        (alias_found (shape n) n (shape (last_component target)) (last_component target)) h

said_found : (s : HostViewMap) (n o : Name) (level : ℕ) → says s n o level ≡ Some NotFound → ⊥
said_found s n o level e = by (viewed_at s (own_path o level)) e
  where
    by : (y : Option Content) → option_and_then (content_says n o (own_place s o level)) y ≡ Some NotFound → ⊥
    by None h = cc (h)
    by (Some x) h = content_found n o (own_place s o level) x h

own_found : (s : HostViewMap) (n o : Name) → own_choice s n o ≡ Some NotFound → ⊥
own_found s n o e = let w = said_by (says s n o) NotFound e in said_found s n o w.0 w.2

-- ---- what is passed over

decided_nothing : (a b c d : Bool) (x : Choice) → decided a b c d x ≡ None → (a ≡ true) × (b ≡ true)
decided_nothing false b c d x e = cc (e)
decided_nothing true true c d x e = (refl, refl)
decided_nothing true false true d x e = cc (e)
decided_nothing true false false true x e = cc (e)
decided_nothing true false false false x e = cc (e)

passed_over : (n o : Name) (p : PlaceParts) (x : Content) → (x ≡ content.Gone → ⊥) → content_says n o p x ≡ None → IsPassedOver o x
passed_over n o p content.Gone g e = absurd (g refl)
passed_over n o p (content.File []) g e = cc (e)
passed_over n o p (content.File (b ∷ bs)) g e = cc (e)
passed_over n o p (content.Link target) g e = by (is_null target) e
  where
    by : (b : Bool) → cond b (Some Masked) (link_says n o (last_component target)) ≡ None → IsPassedOver o (content.Link target)
    by true h = cc (h)
    by false h =
        let k : (is_name (last_component target) ≡ true) × (is_self o (last_component target) ≡ true) =
        decided_nothing (is_name (last_component target)) (is_self o (last_component target)) (is_bad_kind (kind o) (kind (last_component target)))
        (shapes_agree (shape o) (instance o) (shape (last_component target)) (instance (last_component target))) (alias_of (shape n) n (shape (last_component target)) (last_component target)) h in
        record { target = target; link = refl; name = k.0; itself = leads_to_itself o (last_component target) k.1 }

nothing_said : (n o : Name) (p : PlaceParts) (x : Content) → IsPassedOver o x → content_says n o p x ≡ None
nothing_said n o p x k =
    let t : List ℕ = last_component k.target in
    ap (content_says n o p) k.link
    ∙ by (is_null k.target) refl
  where
    by : (b : Bool) → is_null k.target ≡ b → cond b (Some Masked) (link_says n o (last_component k.target)) ≡ None
    by true e = absurd (true≢false (sym k.name ∙ ap (λ w. is_name (last_component w)) ((bytes_eq-Decides k.target (codes "/dev/null")).0 e) ∙ null_is_no_name))
    by false e =
        ap (λ b. cond b (target_says n o (last_component k.target)) (Some (Bad cause.Target))) k.name
        ∙ ap (λ b. cond b None (cond (is_bad_kind (kind o) (kind (last_component k.target))) (Some (Bad cause.Kind)) (cond (shapes_agree (shape o) (instance o) (shape (last_component k.target)) (instance (last_component k.target))) (Some (alias_of (shape n) n (shape (last_component k.target)) (last_component k.target))) (Some (Bad cause.Shape))))) (itself_leads o (last_component k.target) k.itself)

-- a removal is never visible
shown_content : (x : Entry) → shown x ≡ Some content.Gone → ⊥
shown_content x h = by x.content h
  where
    by : (c : Content) → shown (record { version = x.version; content = c }) ≡ Some content.Gone → ⊥
    by content.Gone e = cc (e)
    by (content.Link target) e = cc (e)
    by (content.File bytes) e = cc (e)

gone_hidden : (o : Option Entry) → option_and_then shown o ≡ Some content.Gone → ⊥
gone_hidden None e = cc (e)
gone_hidden (Some x) e = shown_content x e

undefined : (s : HostViewMap) (n o : Name) → own_choice s n o ≡ None → NothingSpeaks s o
undefined s n o e level x h v =
    passed_over n o (own_place s o level) x (λ g. gone_hidden (finmap.get (view s) (own_path o level)) (v ∙ ap (λ y. Some y) g))
    (sym (ap (option_and_then (content_says n o (own_place s o level))) v) ∙ none_said (says s n o) e level h)

speechless : (s : HostViewMap) (n o : Name) → NothingSpeaks s o → own_choice s n o ≡ None
speechless s n o quiet = all_none (says s n o) (λ level h. by level h (viewed_at s (own_path o level)) refl)
  where
    by : (level : ℕ) → IsLevel level → (y : Option Content) → viewed_at s (own_path o level) ≡ y
        → option_and_then (content_says n o (own_place s o level)) y ≡ None
    by level h None e = refl
    by level h (Some x) e = nothing_said n o (own_place s o level) x (quiet level x h e)

pub undefined_is_not_found : UndefinedIsNotFound
undefined_is_not_found s n = (there, back)
  where
    template_undefined : (t : Option Name) → template_of n ≡ t → unwrap_or (option_and_then (own_choice s n) t) NotFound
        ≡ NotFound → (o : Name) → template_of n ≡ Some o → NothingSpeaks s o
    template_undefined None e h o k = absurd (none-some _ (sym e ∙ k))
    template_undefined (Some t) e h o k = subst (NothingSpeaks s) (same_Some _ _ (sym e ∙ k)) (undefined s n t (by (own_choice s n t) refl h))
      where
        by : (c : Option Choice) → own_choice s n t ≡ c → unwrap_or c NotFound ≡ NotFound → own_choice s n t ≡ None
        by None f g = f
        by (Some c) f g = absurd (own_found s n t (f ∙ ap (λ y. Some y) g))

    own_undefined : (c : Option Choice) → own_choice s n n ≡ c
        → unwrap_or (option_or c (option_and_then (own_choice s n) (template_of n))) NotFound ≡ NotFound
        → NothingSpeaks s n × ((o : Name) → template_of n ≡ Some o → NothingSpeaks s o)
    own_undefined None e h = (undefined s n n e, template_undefined (template_of n) refl h)
    own_undefined (Some c) e h = absurd (own_found s n n (e ∙ ap (λ y. Some y) h))

    there : choice s n ≡ NotFound → NothingSpeaks s n × ((o : Name) → template_of n ≡ Some o → NothingSpeaks s o)
    there h = own_undefined (own_choice s n n) refl h

    no_template : (t : Option Name) → template_of n ≡ t → ((o : Name) → template_of n ≡ Some o → NothingSpeaks s o)
        → unwrap_or (option_and_then (own_choice s n) t) NotFound ≡ NotFound
    no_template None e quiet = refl
    no_template (Some o) e quiet = ap (λ c. unwrap_or c NotFound) (speechless s n o (quiet o e))

    back : NothingSpeaks s n × ((o : Name) → template_of n ≡ Some o → NothingSpeaks s o) → choice s n ≡ NotFound
    back (own, other) =
        ap (λ c. unwrap_or (option_or c (option_and_then (own_choice s n) (template_of n))) NotFound) (speechless s n n own) ∙ no_template (template_of n) refl other
