-- Laws of hosts: a host at whose places nothing is visible has the choices that are made without a host, and these are
-- the choices of the fleet by rank.
use Rattle.std.proofs.Common.{◌%◌, ◌/◌, ◌==◌, ◌≡◌}
use Rattle.fragment_choice.specs.Prelude.{ap, Bool, cond, EntryMap, false, first_said, Fleet, fleets_sights, Host, host_view_of, HostViewMap, levels, List, Name, None, of_fleet, of_host, option_and_then, option_or, own_scope, path_after, PathParts, Profile, refl, same_sights, scope_of, shown_at, ShowsNothing, sym, template_of, true, unwrap_or, viewed_at, ℕ, ◌∙◌}
use Rattle.fragment_choice.specs.{Choices.{choice, content_says, own_choice, own_path, own_place, says}, declared.choices.Choice.TheVariants.{NotFound}, FleetChoices.{fleet_choice, fleet_own_choice, fleet_says}, ResolutionLaws.{choices_decide}, Resolutions.{resolution}}

-- A host at whose places nothing is visible has the choices that are made without a host.
abbrev pub HostsWithoutPlacesChooseAlike : Type 0
HostsWithoutPlacesChooseAlike = (s : EntryMap) (host : List ℕ) (profile : Profile) → ShowsNothing s (Host host) → (n : Name) → choice (host_view_of s (of_host host profile)) n ≡ choice (host_view_of s (of_fleet profile)) n

-- For such a host each name resolves as it does without a host.
abbrev pub HostsWithoutPlacesResolveAlike : Type 0
HostsWithoutPlacesResolveAlike = (s : EntryMap) (host : List ℕ) (profile : Profile) → ShowsNothing s (Host host) → (n : Name) → resolution (host_view_of s (of_host host profile)) n ≡ resolution (host_view_of s (of_fleet profile)) n

-- The choices that are made without a host are those of the fleet's paths by rank.
abbrev pub ChoicesAreTheFleets : Type 0
ChoicesAreTheFleets = (s : EntryMap) (profile : Profile) (n : Name) → choice (host_view_of s (of_fleet profile)) n ≡ fleet_choice (scope_of s Fleet) n

-- A view in which only contents of the fleet are visible.
module _ (s : EntryMap) (profile : Profile) (v : HostViewMap)
    (same : (p : PathParts) → viewed_at v p ≡ viewed_at (host_view_of s (of_fleet profile)) p) where
  -- The levels of a host say nothing, and the levels of the fleet say what their ranks say.
  says_by_rank : (n o : Name) (level : ℕ) → says v n o level ≡ cond (level % 2 == 0) None (fleet_says (scope_of s Fleet) n o (level / 2))
  says_by_rank n o level = ap (option_and_then (content_says n o (own_place v o level))) (same (own_path o level) ∙ fleets_sights s profile (own_path o level)) ∙ by (level % 2 == 0)
    where
      by : (b : Bool) → option_and_then (content_says n o (record { scope = cond b (own_scope v.own) Fleet; path = path_after (own_path o level) })) (cond b None (shown_at (scope_of s Fleet) (path_after (own_path o level)))) ≡ cond b None (fleet_says (scope_of s Fleet) n o (level / 2))
      by true = refl
      by false = refl

  own_by_rank : (n o : Name) → own_choice v n o ≡ fleet_own_choice (scope_of s Fleet) n o
  own_by_rank n o = (λ i. first_said (λ level. says_by_rank n o level i) levels)

  choice_by_rank : (n : Name) → choice v n ≡ fleet_choice (scope_of s Fleet) n
  choice_by_rank n = (λ i. unwrap_or (option_or (own_by_rank n n i) (option_and_then (λ o. own_by_rank n o i) (template_of n))) NotFound)

pub choices_are_the_fleets : ChoicesAreTheFleets
choices_are_the_fleets s profile n = choice_by_rank s profile (host_view_of s (of_fleet profile)) (λ p. refl) n

pub hosts_without_places_choose_alike : HostsWithoutPlacesChooseAlike
hosts_without_places_choose_alike s host profile none n = choice_by_rank s profile (host_view_of s (of_host host profile)) (same_sights s host profile none) n ∙ sym (choices_are_the_fleets s profile n)

pub hosts_without_places_resolve_alike : HostsWithoutPlacesResolveAlike
hosts_without_places_resolve_alike s host profile none = choices_decide (host_view_of s (of_host host profile)) (host_view_of s (of_fleet profile)) (hosts_without_places_choose_alike s host profile none)
