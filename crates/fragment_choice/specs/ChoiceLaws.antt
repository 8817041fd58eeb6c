-- Laws of choices: smaller levels come first, and what is visible at own paths decides.
use Rattle.std.proofs.Common.{◌<◌, ◌∷◌, ◌≡◌, ◌⊎◌}
use Rattle.fragment_choice.specs.Prelude.{[], ap, AreForOne, cond, Content, File, first_at, first_same, Gone, HostViewMap, inl, inr, IsLevel, IsTrue, levels, Link, Name, None, Option, option_and_then, option_or, PathParts, PlaceParts, refl, same_place, Some, template_of, unwrap_or, viewed_at, ℕ, ◌∙◌}
use Rattle.fragment_choice.specs.{Choices.{choice, content_says, is_null, last_component, link_says, own_choice, own_path, own_place, says}, declared.choices.Choice.{Choice, TheVariants.{Masked, NotFound}}}

-- The least level that says anything of `n` under its own name makes the choice.
abbrev pub LeastLevelChooses : Type 0
LeastLevelChooses = (s : HostViewMap) (n : Name) (r : ℕ) (c : Choice) → IsLevel r → says s n n r ≡ Some c → ((k : ℕ) → k < r → says s n n k ≡ None) → choice s n ≡ c

-- If the own name says nothing, the least level that says anything of `n` under its template makes the choice.
abbrev pub TemplatesComeLast : Type 0
TemplatesComeLast = (s : HostViewMap) (n o : Name) (r : ℕ) (c : Choice) → own_choice s n n ≡ None → template_of n ≡ Some o → IsLevel r → says s n o r ≡ Some c → ((k : ℕ) → k < r → says s n o k ≡ None) → choice s n ≡ c

-- An empty file, or a link to `/dev/null`.
abbrev pub IsMask : Content → Type 0
IsMask Gone = ⊥
IsMask (Link target) = IsTrue (is_null target)
IsMask (File []) = Unit {0}
IsMask (File (b ∷ bs)) = ⊥

-- A mask hides whatever is at greater levels and at the template's paths.
abbrev pub MasksHide : Type 0
MasksHide = (s : HostViewMap) (n : Name) (r : ℕ) (x : Content) → IsLevel r → viewed_at s (own_path n r) ≡ Some x → IsMask x → ((k : ℕ) → k < r → says s n n k ≡ None) → choice s n ≡ Masked

-- The path has one component, which is the name or its template.
pub record IsOwnPath (n : Name) (p : PathParts) : Type 0 where
  pub owner : Name
  pub owns : (owner ≡ n) ⊎ (template_of n ≡ Some owner)
  pub no_folder : p.folder ≡ []
  pub name_is : p.name ≡ owner

-- Views for one host that show the same at the paths of a name and of its template choose the same for the name.
abbrev pub OwnPathsDecide : Type 0
OwnPathsDecide = (s t : HostViewMap) → AreForOne s t → (n : Name) → ((p : PathParts) → IsOwnPath n p → viewed_at s p ≡ viewed_at t p)
    → choice s n ≡ choice t n

-- Views for one host that show the same at paths of one component choose the same, whatever their folders show.
abbrev pub OwnPathsCount : Type 0
OwnPathsCount = (s t : HostViewMap) → AreForOne s t → ((p : PathParts) → p.folder ≡ [] → viewed_at s p ≡ viewed_at t p) → (n : Name) → choice s n ≡ choice t n

own_chooses : (s : HostViewMap) (n : Name) (c : Choice) → own_choice s n n ≡ Some c → choice s n ≡ c
own_chooses s n c own = ap (λ o. unwrap_or (option_or o (option_and_then (own_choice s n) (template_of n))) NotFound) own

pub least_level_chooses : LeastLevelChooses
least_level_chooses s n r c h e none = own_chooses s n c (first_at (says s n n) r c h e none)

pub templates_come_last : TemplatesComeLast
templates_come_last s n o r c nothing t h e none =
    ap (λ x. unwrap_or (option_or x (option_and_then (own_choice s n) (template_of n))) NotFound) nothing
    ∙ ap (λ x. unwrap_or (option_and_then (own_choice s n) x) NotFound) t
    ∙ ap (λ x. unwrap_or x NotFound) (first_at (says s n o) r c h e none)

-- The same visible content says the same.
says_same : (s t : HostViewMap) → AreForOne s t → (n o : Name) (k : ℕ)
    → viewed_at s (own_path o k) ≡ viewed_at t (own_path o k) → says s n o k ≡ says t n o k
says_same s t one n o k same = (λ i. option_and_then (content_says n o (same_place s t one (own_path o k) i)) (same i))

mask_says : (n o : Name) (p : PlaceParts) (x : Content) → IsMask x → content_says n o p x ≡ Some Masked
mask_says n o p Gone m = absurd m
mask_says n o p (Link target) m = ap (λ b. cond b (Some Masked) (link_says n o (last_component target))) m
mask_says n o p (File []) m = refl
mask_says n o p (File (b ∷ bs)) m = absurd m

pub masks_hide : MasksHide
masks_hide s n r x h e m none =
    least_level_chooses s n r Masked h (ap (option_and_then (content_says n n (own_place s n r))) e ∙ mask_says n n (own_place s n r) x m) none

own_same : (s t : HostViewMap) → AreForOne s t → (n o : Name) → ((k : ℕ) → viewed_at s (own_path o k) ≡ viewed_at t (own_path o k))
    → own_choice s n o ≡ own_choice t n o
own_same s t one n o same = first_same (says s n o) (says t n o) (λ k. says_same s t one n o k (same k)) levels

pub own_paths_decide : OwnPathsDecide
own_paths_decide s t one n same =
    ap (λ o. unwrap_or (option_or o (option_and_then (own_choice s n) (template_of n))) NotFound) (own n (inl refl))
    ∙ ap (λ o. unwrap_or (option_or (own_choice t n n) o) NotFound) (by (template_of n) refl)
  where
    own : (o : Name) → (o ≡ n) ⊎ (template_of n ≡ Some o) → own_choice s n o ≡ own_choice t n o
    own o owns =
        own_same s t one n o (λ k. same (own_path o k) (record { owner = o; owns = owns; no_folder = refl; name_is = refl }))

    by : (o : Option Name) → template_of n ≡ o → option_and_then (own_choice s n) o ≡ option_and_then (own_choice t n) o
    by None e = refl
    by (Some o) e = own o (inr e)

pub own_paths_count : OwnPathsCount
own_paths_count s t one same n = own_paths_decide s t one n (λ p own. same p own.no_folder)
