-- Laws of a unit's files for hosts: for one at whose places nothing is visible they are rendered as without a host, and another
-- host's places don't change them.
use Rattle.std.proofs.Common.{◌++◌, ◌↔◌, ◌∷◌, ◌≡◌, ◌≢◌}
use Rattle.script_answers.specs.Prelude.{[], ap, Choice, codes, Contains, content_at, EntryMap, Err, Files, files_show, first_there, flat_map, HaveTheSameFiles, Host, host_asked, host_view_of, HostFault, hosts_without_places_have_these_files, HostViewMap, later_there, level_for, List, mains_decide, MatchResult, Name, name_of, NameFault, None, of_fleet, of_host, Ok, Option, other_hosts_are_not_in_view, Outcome, PlaceParts, refl, Resolution, resolution, Result, same_mains, ShowsNothing, Some, subst, sym, turned, ℕ, ◌∙◌}
use Rattle.script_answers.specs.{Files.{file_bytes, IsCat, RefusesName, RendersChoice, RendersFiles, RendersFilesOf}, Hosts.{by_files, RefusesHost}}
use Rattle.place_texts.specs.PlaceTexts.{file_lines}
use Rattle.std.specs.FinMap as finmap
use Rattle.fragment_choice.specs.declared.choices.Choice.TheVariants as choice

-- For a host at whose places nothing is visible a unit's files are rendered as they are rendered without a host.
abbrev pub HostsWithoutPlacesAreRenderedTheFleetsFiles : Type 0
HostsWithoutPlacesAreRenderedTheFleetsFiles =
    (s : EntryMap) (host : List ℕ) → ShowsNothing s (Host host) → (asked : Option (List ℕ)) → host_asked asked ≡ Ok (Some host)
    → (word : List ℕ) (outcome : Outcome) → RendersFiles asked word s outcome ↔ RendersFiles None word s outcome

-- What stands at another host's place changes nothing of what is rendered for this host, and what stands at any host's place
-- nothing of what is rendered without one.
abbrev pub OtherHostsChangeNoFiles : Type 0
OtherHostsChangeNoFiles =
    (s t : EntryMap) (asked : Option (List ℕ)) (host : Option (List ℕ)) → host_asked asked ≡ Ok host → (place : PlaceParts)
    → level_for (by_files host) place ≡ None → ((q : PlaceParts) → q ≢ place → finmap.get s q ≡ finmap.get t q)
    → (word : List ℕ) (outcome : Outcome) → RendersFiles asked word s outcome → RendersFiles asked word t outcome

-- ---- the same files are rendered alike

-- the lines of the files at some places
abbrev lines_of : HostViewMap → List PlaceParts → List ℕ
lines_of s places = flat_map (λ place. file_lines place (file_bytes (content_at s place))) places

module _ (s t : HostViewMap) where
  lines_same : (places : List PlaceParts) → ((p : PlaceParts) → Contains places p → content_at s p ≡ content_at t p)
      → lines_of s places ≡ lines_of t places
  lines_same [] same = refl
  lines_same (p ∷ ps) same =
      ap (λ o. file_lines p (file_bytes o) ++ lines_of s ps) (same p (first_there p ps))
      ∙ ap (λ xs. file_lines p (file_bytes (content_at t p)) ++ xs) (lines_same ps (λ q c. same q (later_there p q ps c)))

one_place : (p q : PlaceParts) → Some p ≡ Some q → p ≡ q
one_place p q e = cc

module _ (s t : HostViewMap) (same : HaveTheSameFiles s t) (outcome : Outcome) where
  cat_there : (n main : Name) (fragment : PlaceParts) → (resolution s n).choice ≡ choice.Fragment fragment
      → (text : List ℕ) → IsCat s main fragment text → IsCat t main fragment text
  cat_there n main fragment is text c = record {
    names = c.names;
    names_are = mains_decide s t (same_mains s t same) main c.names c.names_are;
    dropins = c.dropins;
    ascending = c.ascending;
    exact = λ p. (λ h. (same.drop_ins c.names p).0 ((c.exact p).0 h), λ d. (c.exact p).1 ((same.drop_ins c.names p).1 d));
    text_is =
        c.text_is
        ∙ ap (λ lines. lines ++ codes "end\n")
        (lines_same s t (fragment ∷ c.dropins) (files_show s t same n (Some fragment) chosen c.names c.dropins (λ p. (c.exact p).0)));
  }
    where
      chosen : (place : PlaceParts) → Some fragment ≡ Some place → (resolution s n).choice ≡ choice.Fragment place
      chosen place e = is ∙ ap (λ (p : PlaceParts). choice.Fragment p) (one_place fragment place e)

  choice_there : (n main : Name) (c : Choice) → (resolution s n).choice ≡ c → RendersChoice s main c outcome
      → RendersChoice t main c outcome
  choice_there n main choice.NotFound is rendered = rendered
  choice_there n main choice.Masked is rendered = rendered
  choice_there n main (choice.Fragment place) is rendered = (rendered.0, cat_there n main place is rendered.0 rendered.1, rendered.2)
  choice_there n main (choice.Alias other) is rendered = rendered
  choice_there n main (choice.Bad cause) is rendered = rendered

  read_there : (r : Result Name NameFault)
      → MatchResult r (λ n. RendersChoice s (resolution s n).main (resolution s n).choice outcome) (λ fault. RefusesName fault outcome)
      → MatchResult r (λ n. RendersChoice t (resolution t n).main (resolution t n).choice outcome) (λ fault. RefusesName fault outcome)
  read_there (Ok n) rendered =
      subst (λ (r : Resolution). RendersChoice t r.main r.choice outcome) (same.resolved n)
      (choice_there n (resolution s n).main (resolution s n).choice refl rendered)
  read_there (Err fault) rendered = rendered

  files_there : (word : List ℕ) → RendersFilesOf word s outcome → RendersFilesOf word t outcome
  files_there word = read_there (name_of word)

-- ---- the laws

-- what is rendered for a host's text is rendered for that host
module _ (asked : Option (List ℕ)) (host : Option (List ℕ)) (is : host_asked asked ≡ Ok host)
    (word : List ℕ) (s : EntryMap) (outcome : Outcome) where
  abbrev For : Result (Option (List ℕ)) HostFault → Type 0
  For r = MatchResult r (λ h. RendersFilesOf word (host_view_of s (by_files h)) outcome) (λ fault. RefusesHost fault outcome)

  for_it : RendersFiles asked word s outcome → RendersFilesOf word (host_view_of s (by_files host)) outcome
  for_it rendered = subst For is rendered

  of_it : RendersFilesOf word (host_view_of s (by_files host)) outcome → RendersFiles asked word s outcome
  of_it rendered = subst For (sym is) rendered

module _ (s : EntryMap) (host : List ℕ) (none : ShowsNothing s (Host host)) where
  abbrev hosts : HostViewMap
  hosts = host_view_of s (of_host host Files)

  abbrev fleets : HostViewMap
  fleets = host_view_of s (of_fleet Files)

  same_files : HaveTheSameFiles hosts fleets
  same_files = hosts_without_places_have_these_files s host Files none

  rendered_alike : (asked : Option (List ℕ)) → host_asked asked ≡ Ok (Some host) → (word : List ℕ) (outcome : Outcome)
      → RendersFiles asked word s outcome ↔ RendersFiles None word s outcome
  rendered_alike asked is word outcome = (
    λ rendered. files_there hosts fleets same_files outcome word (for_it asked (Some host) is word s outcome rendered),
    λ rendered. of_it asked (Some host) is word s outcome (files_there fleets hosts (turned hosts fleets same_files) outcome word rendered),
  )

pub hosts_without_places_are_rendered_the_fleets_files : HostsWithoutPlacesAreRenderedTheFleetsFiles
hosts_without_places_are_rendered_the_fleets_files s host none = rendered_alike s host none

pub other_hosts_change_no_files : OtherHostsChangeNoFiles
other_hosts_change_no_files s t asked host is place apart elsewhere word outcome rendered =
    let view : host_view_of s (by_files host) ≡ host_view_of t (by_files host) = other_hosts_are_not_in_view s t (by_files host) place apart elsewhere in
    of_it asked host is word t outcome
    (subst (λ (v : HostViewMap). RendersFilesOf word v outcome) view (for_it asked host is word s outcome rendered))
