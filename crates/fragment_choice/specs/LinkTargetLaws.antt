-- Equal link targets make the same aliases, and show the same visible names.
use Rattle.std.proofs.Common.{◌↔◌, ◌∷◌, ◌≡◌, ◌⊎◌}
use Rattle.fragment_choice.specs.Prelude.{[], ap, arith, Bool, cond, cons_option, Content, Entry, false, File, first_said, Gone, HostViewMap, inl, inr, is_some, IsAmong, IsLevel, IsSome, levels, Link, List, Name, None, Option, option_and_then, option_map, option_or, refl, same_Some, shown, Some, suc, sym, template_of, true, unwrap_or, view, viewed_at, zero, ℕ, ◌∙◌}
use Rattle.fragment_choice.specs.{Choices.{choice as chosen_for, content_says, is_null, last_component, link_says, own_choice, own_path, own_place, says}, declared.choices.Choice.{Choice}, LeadsLaws.{SameLeads}, LinkTargets.{lead_by, lead_of, link_targets, own_alias, said_of, Target, target_at, target_part, targets_in, words_of}, Resolutions.{Leads}}
use Rattle.std.specs.FinMap as finmap
use Rattle.fragment_choice.specs.declared.choices.Choice.TheVariants as choice

-- The own paths of each name have the same link targets.
abbrev pub SameWords : HostViewMap → HostViewMap → Type 0
SameWords s t = (n : Name) → link_targets s n ≡ link_targets t n

-- Something is seen at an own path of the name.
abbrev pub IsShown : HostViewMap → Name → Type 0
IsShown s n = (level : ℕ) × IsLevel level × IsSome (viewed_at s (own_path n level))

-- Views with equal link targets have the same aliases.
abbrev pub LinkTargetsDecide : Type 0
LinkTargetsDecide = (s t : HostViewMap) → SameWords s t → SameLeads s t

-- A name is an alias of the same name if its own link targets and those of its template are equal.
abbrev pub OwnWordsDecide : Type 0
OwnWordsDecide = (s t : HostViewMap) (n : Name) → link_targets s n ≡ link_targets t n
    → ((o : Name) → template_of n ≡ Some o → link_targets s o ≡ link_targets t o) → (m : Name) → Leads s n m ↔ Leads t n m

-- Something is seen at an own path of a name exactly if it has link targets, so equal link targets show the same names.
abbrev pub LinkTargetsShow : Type 0
LinkTargetsShow = (s t : HostViewMap) (n : Name) → link_targets s n ≡ link_targets t n → IsShown s n ↔ IsShown t n

-- A name at whose own paths the same is seen has equal link targets.
abbrev pub ViewsDecideLinkTargets : Type 0
ViewsDecideLinkTargets =
    (s t : HostViewMap) (n : Name) → ((level : ℕ) → IsLevel level → viewed_at s (own_path n level) ≡ viewed_at t (own_path n level))
    → link_targets s n ≡ link_targets t n

-- ---- what link targets say

map_or : (a b : Option Choice) → option_map lead_of (option_or a b) ≡ option_or (option_map lead_of a) (option_map lead_of b)
map_or None b = refl
map_or (Some c) b = refl

unwrapped : (o : Option Choice) → lead_of (unwrap_or o choice.NotFound) ≡ lead_by (option_map lead_of o)
unwrapped None = refl
unwrapped (Some c) = refl

module _ (s : HostViewMap) (n o : Name) where
  -- What is said at a level and then at the later ones, from what is seen at that level.
  step : (level : ℕ) (more : Option Choice) (ts : List Target) (y : Option Content)
      → option_map lead_of more ≡ said_of n o (words_of ts)
      → option_map lead_of (option_or (option_and_then (content_says n o (own_place s o level)) y) more)
      ≡ said_of n o (words_of (cons_option (option_and_then target_part y) ts))
  step level more ts None e = e
  step level more ts (Some Gone) e = e
  step level more ts (Some (File [])) e = refl
  step level more ts (Some (File (b ∷ bs))) e = refl
  step level more ts (Some (Link target)) e = by (is_null target)
    where
      by : (b : Bool) → option_map lead_of (option_or (cond b (Some choice.Masked) (link_says n o (last_component target))) more)
          ≡ said_of n o (cond b (None ∷ []) (Some target ∷ words_of ts))
      by true = refl
      by false =
          map_or (link_says n o (last_component target)) more
          ∙ ap (option_or (option_map lead_of (link_says n o (last_component target)))) e

  said_by : (ls : List ℕ) → option_map lead_of (first_said (says s n o) ls) ≡ said_of n o (words_of (targets_in s o ls))
  said_by [] = refl
  said_by (l ∷ ls) = step l (first_said (says s n o) ls) (targets_in s o ls) (viewed_at s (own_path o l)) (said_by ls)

  own_said : option_map lead_of (own_choice s n o) ≡ said_of n o (link_targets s o)
  own_said = said_by levels

-- The link targets of the template.
abbrev of_template : HostViewMap → Name → Option Name → Option (Option Name)
of_template s n t = option_and_then (λ o. said_of n o (link_targets s o)) t

template_said : (s : HostViewMap) (n : Name) (t : Option Name) → option_map lead_of (option_and_then (own_choice s n) t) ≡ of_template s n t
template_said s n None = refl
template_said s n (Some o) = own_said s n o

lead_said : (s : HostViewMap) (n : Name)
    → lead_of (chosen_for s n) ≡ lead_by (option_or (said_of n n (link_targets s n)) (of_template s n (template_of n)))
lead_said s n =
    unwrapped (option_or (own_choice s n n) (option_and_then (own_choice s n) (template_of n)))
    ∙ ap lead_by (map_or (own_choice s n n) (option_and_then (own_choice s n) (template_of n)))
    ∙ ap (λ x. lead_by (option_or x (option_map lead_of (option_and_then (own_choice s n) (template_of n))))) (own_said s n n)
    ∙ ap (λ x. lead_by (option_or (said_of n n (link_targets s n)) x)) (template_said s n (template_of n))

-- ---- aliases

leads_to : (c : Choice) (m : Name) → lead_of c ≡ Some m → c ≡ choice.Alias m
leads_to choice.NotFound m e = cc (e)
leads_to choice.Masked m e = cc (e)
leads_to (choice.Fragment p) m e = cc (e)
leads_to (choice.Alias o) m e = ap choice.Alias (same_Some _ _ e)
leads_to (choice.Bad cause) m e = cc (e)

leads_by : (c d : Choice) (m : Name) → lead_of c ≡ lead_of d → c ≡ choice.Alias m → d ≡ choice.Alias m
leads_by c d m same e = leads_to d m (sym same ∙ ap lead_of e)

-- What its own link targets make a name an alias of, its own paths do.
pub own_aliases_decide : (s : HostViewMap) (n m : Name) → own_alias n (link_targets s n) ≡ Some m ↔ own_choice s n n ≡ Some (choice.Alias m)
own_aliases_decide s n m = (λ e. leads (own_choice s n n) (ap lead_by (own_said s n n) ∙ e), λ e. ap lead_by (sym (own_said s n n) ∙ ap (option_map lead_of) e))
  where
    leads : (c : Option Choice) → lead_by (option_map lead_of c) ≡ Some m → c ≡ Some (choice.Alias m)
    leads None e = cc (e)
    leads (Some c) e = ap (λ x. Some x) (leads_to c m e)

pub own_words_decide : OwnWordsDecide
own_words_decide s t n own template m = (
  leads_by (chosen_for s n) (chosen_for t n) m lead,
  leads_by (chosen_for t n) (chosen_for s n) m (sym lead),
)
  where
    by : (o : Option Name) → template_of n ≡ o → of_template s n o ≡ of_template t n o
    by None e = refl
    by (Some o) e = ap (said_of n o) (template o e)

    lead : lead_of (chosen_for s n) ≡ lead_of (chosen_for t n)
    lead =
        lead_said s n
        ∙ ap (λ ws. lead_by (option_or (said_of n n ws) (of_template s n (template_of n)))) own
        ∙ ap (λ x. lead_by (option_or (said_of n n (link_targets t n)) x)) (by (template_of n) refl)
        ∙ sym (lead_said t n)

pub link_targets_decide : LinkTargetsDecide
link_targets_decide s t same n = own_words_decide s t n (same n) (λ o e. same o)

-- ---- visible names

level_among : (l : ℕ) → IsLevel l → IsAmong l levels
level_among zero h = inl refl
level_among (suc zero) h = inr (inl refl)
level_among (suc (suc zero)) h = inr (inr (inl refl))
level_among (suc (suc (suc zero))) h = inr (inr (inr (inl refl)))
level_among (suc (suc (suc (suc zero)))) h = inr (inr (inr (inr (inl refl))))
level_among (suc (suc (suc (suc (suc zero))))) h = inr (inr (inr (inr (inr (inl refl)))))
level_among (suc (suc (suc (suc (suc (suc zero)))))) h = inr (inr (inr (inr (inr (inr (inl refl))))))
level_among (suc (suc (suc (suc (suc (suc (suc zero))))))) h = inr (inr (inr (inr (inr (inr (inr (inl refl)))))))
level_among (suc (suc (suc (suc (suc (suc (suc (suc l)))))))) h = absurd (omega arith)

pub among_level : (l : ℕ) → IsAmong l levels → IsLevel l
among_level l (inl e) = omega (arith, e)
among_level l (inr (inl e)) = omega (arith, e)
among_level l (inr (inr (inl e))) = omega (arith, e)
among_level l (inr (inr (inr (inl e)))) = omega (arith, e)
among_level l (inr (inr (inr (inr (inl e))))) = omega (arith, e)
among_level l (inr (inr (inr (inr (inr (inl e)))))) = omega (arith, e)
among_level l (inr (inr (inr (inr (inr (inr (inl e))))))) = omega (arith, e)
among_level l (inr (inr (inr (inr (inr (inr (inr (inl e)))))))) = omega (arith, e)
among_level l (inr (inr (inr (inr (inr (inr (inr (inr h)))))))) = absurd h

some_word : (τ : Target) (ts : List Target) → words_of (τ ∷ ts) ≡ [] → ⊥
some_word None ts e = cc (e)
some_word (Some target) ts e = by (is_null target) e
  where
    by : (b : Bool) → cond b (None ∷ []) (Some target ∷ words_of ts) ≡ [] → ⊥
    by true e = cc (e)
    by false e = cc (e)

-- What is seen is a link or a file.
part_of : (o : Option Entry) → IsSome (option_and_then shown o) → IsSome (option_and_then target_part (option_and_then shown o))
part_of None h = h
part_of (Some x) h = by x.content h
  where
    by : (c : Content) → IsSome (shown (record { version = x.version; content = c }))
        → IsSome (option_and_then target_part (shown (record { version = x.version; content = c })))
    by Gone h = h
    by (Link target) h = refl
    by (File bytes) h = refl

host_view : (y : Option Content) → IsSome (option_and_then target_part y) → IsSome y
host_view None h = h
host_view (Some c) h = refl

module _ (s : HostViewMap) (n : Name) where
  words_there : (ls : List ℕ) (l : ℕ) → IsAmong l ls → IsSome (target_at s (own_path n l))
      → words_of (targets_in s n ls) ≡ [] → ⊥
  words_there [] l a h e = absurd a
  words_there (k ∷ ks) l a h e = by (target_at s (own_path n k)) refl a e (words_there ks l)
    where
      by : (y : Option Target) → target_at s (own_path n k) ≡ y → (k ≡ l) ⊎ IsAmong l ks
          → words_of (cons_option y (targets_in s n ks)) ≡ []
          → (IsAmong l ks → IsSome (target_at s (own_path n l)) → words_of (targets_in s n ks) ≡ [] → ⊥) → ⊥
      by (Some τ) at a e more = some_word τ (targets_in s n ks) e
      by None at (inr a) e more = more a h e
      by None at (inl i) e more =
          let none : false ≡ true = ap is_some (sym at) ∙ ap (λ j. is_some (target_at s (own_path n j))) i ∙ h in
          cc (none)

  -- Something is seen at one of the levels, or there are no link targets.
  abbrev Finds : List ℕ → Type 0
  Finds ls = (targets_in s n ls ≡ []) ⊎ ((level : ℕ) × IsAmong level ls × IsSome (viewed_at s (own_path n level)))

  finds : (ls : List ℕ) → Finds ls
  finds [] = inl refl
  finds (k ∷ ks) = by (target_at s (own_path n k)) refl (finds ks)
    where
      by : (y : Option Target) → target_at s (own_path n k) ≡ y → Finds ks
          → (cons_option y (targets_in s n ks) ≡ [])
          ⊎ ((level : ℕ) × IsAmong level (k ∷ ks) × IsSome (viewed_at s (own_path n level)))
      by (Some τ) at more = inr (k, inl refl, host_view (viewed_at s (own_path n k)) (ap is_some at))
      by None at (inl none) = inl none
      by None at (inr f) = inr (f.0, inr f.1, f.2)

  shown_has_words : IsShown s n → link_targets s n ≡ [] → ⊥
  shown_has_words h = words_there levels h.0 (level_among h.0 h.1) (part_of (finmap.get (view s) (own_path n h.0)) h.2)

  words_show : (link_targets s n ≡ [] → ⊥) → IsShown s n
  words_show some = by (finds levels)
    where
      by : Finds levels → IsShown s n
      by (inl none) = absurd (some (ap words_of none))
      by (inr f) = (f.0, among_level f.0 f.1, f.2)

pub link_targets_show : LinkTargetsShow
link_targets_show s t n same = (
  λ h. words_show t n (λ none. shown_has_words s n h (same ∙ none)),
  λ h. words_show s n (λ none. shown_has_words t n h (sym same ∙ none)),
)

-- ---- equal link targets

targets_same : (s t : HostViewMap) (n : Name) (ls : List ℕ)
    → ((l : ℕ) → IsAmong l ls → viewed_at s (own_path n l) ≡ viewed_at t (own_path n l))
    → targets_in s n ls ≡ targets_in t n ls
targets_same s t n [] same = refl
targets_same s t n (l ∷ ls) same =
    ap (λ y. cons_option (option_and_then target_part y) (targets_in s n ls)) (same l (inl refl))
    ∙ ap (cons_option (target_at t (own_path n l))) (targets_same s t n ls (λ k a. same k (inr a)))

pub views_decide_link_targets : ViewsDecideLinkTargets
views_decide_link_targets s t n same = ap words_of (targets_same s t n levels (λ l a. same l (among_level l a)))
