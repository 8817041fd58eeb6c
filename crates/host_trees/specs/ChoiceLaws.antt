-- Laws of choices in trees: a store that shows just a host's tree at the fleet's places has, without a host, the choices,
-- main names, names and fragments that the first store has for the host. Only the scope of a fragment's place differs.
use Rattle.std.proofs.Common.{◌+◌, ◌||◌, ◌↔◌, ◌≡◌, ◌⊎◌}
use Rattle.host_trees.specs.{Parts.{counts}, Prelude.{aliases_are_alike, ap, AreNames, arith, Bool, Choice, choice, cond, Content, content_at, ended_or, EntryMap, false, Fleet, get-scope_of, host_view_of, HostViewMap, inl, inr, is_some, IsLevel, IsName, IsSome, List, main, Name, None, of_fleet, Option, option_and_then, option_or, or_right, own_path, PathParts, PlaceParts, refl, Resolution, resolution, shown, Some, subst, suc, sym, true, Viewer, viewed_at, within, zero, ℕ, ◌∙◌}, Reads.{ShowsTree}, TreeChoices.{choices_alike, fleets_seen, fragments_stand, own_seen, unit_path}, TreeLaws.{fleets_stand, own_stands}, Trees.{fleets_at, own_at, standing}}
use Rattle.fragment_choice.specs.Resolutions.{follow}
use Rattle.fragment_choice.specs.declared.choices.Choice.TheVariants.{Alias, Bad, Fragment, Masked, NotFound}

-- The same choice, with the fragment at the fleet's place of the same path.
abbrev pub choice_at_fleet : Choice → Choice
choice_at_fleet NotFound = NotFound
choice_at_fleet Masked = Masked
choice_at_fleet (Fragment p) = Fragment (within Fleet p.path)
choice_at_fleet (Alias m) = Alias m
choice_at_fleet (Bad cause) = Bad cause

abbrev pub resolution_at_fleet : Resolution → Resolution
resolution_at_fleet r = record { main = r.main; choice = choice_at_fleet r.choice }

-- Each unit name is chosen alike.
abbrev pub TreesChooseAlike : Type 0
TreesChooseAlike = (s t : EntryMap) (viewer : Viewer) → ShowsTree t s viewer.host → (n : Name) → IsName n
    → choice (host_view_of t (of_fleet viewer.profile)) n ≡ choice_at_fleet (choice (host_view_of s viewer) n)

-- Each unit name resolves alike.
abbrev pub TreesResolveAlike : Type 0
TreesResolveAlike = (s t : EntryMap) (viewer : Viewer) → ShowsTree t s viewer.host → (n : Name) → IsName n
    → resolution (host_view_of t (of_fleet viewer.profile)) n ≡ resolution_at_fleet (resolution (host_view_of s viewer) n)

-- Each unit has the same names.
abbrev pub TreesNameAlike : Type 0
TreesNameAlike = (s t : EntryMap) (viewer : Viewer) → ShowsTree t s viewer.host → (u : Name) (names : List Name)
    → AreNames (host_view_of s viewer) u names ↔ AreNames (host_view_of t (of_fleet viewer.profile)) u names

-- At one of a unit name's own paths something is visible in the view.
abbrev pub IsShown : HostViewMap → Name → Type 0
IsShown v n = (level : ℕ) × IsLevel level × IsSome (viewed_at v (own_path n level))

-- The same unit names are visible.
abbrev pub TreesShowTheSameNames : Type 0
TreesShowTheSameNames = (s t : EntryMap) (viewer : Viewer) → ShowsTree t s viewer.host → (n : Name)
    → IsShown (host_view_of s viewer) n ↔ IsShown (host_view_of t (of_fleet viewer.profile)) n

-- A fragment has the same content.
abbrev pub TreesHaveTheSameFragments : Type 0
TreesHaveTheSameFragments = (s t : EntryMap) (viewer : Viewer) → ShowsTree t s viewer.host → (n : Name) → IsName n → (p : PlaceParts)
    → choice (host_view_of s viewer) n ≡ Fragment p
    → content_at (host_view_of t (of_fleet viewer.profile)) (within Fleet p.path) ≡ content_at (host_view_of s viewer) p

-- ---- choices and main names

pub trees_choose_alike : TreesChooseAlike
trees_choose_alike s t viewer shows =
    choices_alike s t viewer shows choice_at_fleet (record { not_found = refl; masked = refl; alias = λ m. refl; bad = λ cause. refl })
    (λ scope path. refl)

ended_alike : (more same : Name → Resolution) (m : Name) (c : Choice) → ((a : Name) → c ≡ Alias a → more a ≡ resolution_at_fleet (same a))
    → ended_or more m (choice_at_fleet c) ≡ resolution_at_fleet (ended_or same m c)
ended_alike more same m NotFound alike = refl
ended_alike more same m Masked alike = refl
ended_alike more same m (Fragment p) alike = refl
ended_alike more same m (Alias a) alike = alike a refl
ended_alike more same m (Bad cause) alike = refl

-- What a name is an alias of is a name too, so it is chosen alike.
follow_alike : (s t : EntryMap) (viewer : Viewer) → ShowsTree t s viewer.host → (k : ℕ) (n m : Name) → IsName m
    → follow (host_view_of t (of_fleet viewer.profile)) k n m ≡ resolution_at_fleet (follow (host_view_of s viewer) k n m)
unfolding follow
follow_alike s t viewer shows zero n m good = refl
follow_alike s t viewer shows (suc k) n m good =
    ap (ended_or (follow (host_view_of t (of_fleet viewer.profile)) k n) m) (trees_choose_alike s t viewer shows m good)
    ∙ ended_alike (follow (host_view_of t (of_fleet viewer.profile)) k n) (follow (host_view_of s viewer) k n) m (choice (host_view_of s viewer) m)
    (λ a leads. follow_alike s t viewer shows k n a (aliases_are_alike (host_view_of s viewer) m a good leads).name)

pub trees_resolve_alike : TreesResolveAlike
trees_resolve_alike s t viewer shows n = follow_alike s t viewer shows 9 n n

-- If names have the same main names in two views, a unit has the same names in both.
names_by_mains : (v w : HostViewMap) → ((n : Name) → IsName n → main v n ≡ main w n) → (u : Name) (names : List Name)
    → AreNames v u names → AreNames w u names
names_by_mains v w same u names are = record {
  others = are.others;
  first = are.first;
  ascending = are.ascending;
  exact = λ n. (
    λ h. (let o = (are.exact n).0 h in record { other = o.other; name = o.name; main_is = sym (same n o.name) ∙ o.main_is }),
    λ o. (are.exact n).1 (record { other = o.other; name = o.name; main_is = same n o.name ∙ o.main_is }),
  );
}

pub trees_name_alike : TreesNameAlike
trees_name_alike s t viewer shows u names =
    let same : (n : Name) → IsName n → main (host_view_of t (of_fleet viewer.profile)) n ≡ main (host_view_of s viewer) n =
    λ n good. ap (λ (r : Resolution). r.main) (trees_resolve_alike s t viewer shows n good) in (
      names_by_mains (host_view_of s viewer) (host_view_of t (of_fleet viewer.profile)) (λ n good. sym (same n good)) u names,
      names_by_mains (host_view_of t (of_fleet viewer.profile)) (host_view_of s viewer) same u names,
    )

-- ---- visible names

-- A level is twice a rank, or one more.
pub halves : (level : ℕ) → (r : ℕ) × ((level ≡ r + r) ⊎ (level ≡ r + r + 1))
halves zero = (0, inl refl)
halves (suc l) = next (halves l)
  where
    next : (r : ℕ) × ((l ≡ r + r) ⊎ (l ≡ r + r + 1)) → (r : ℕ) × ((suc l ≡ r + r) ⊎ (suc l ≡ r + r + 1))
    next (r, inl e) = (r, inr (omega (arith, e)))
    next (r, inr e) = (suc r, inl (omega (arith, e)))

-- Something stands just where one of both shows something.
stands_if_either : (p : PathParts) (own fleets : Option Content) → is_some (standing p own fleets) ≡ (is_some own || is_some fleets)
stands_if_either p None fleets = ap is_some (fleets_stand p fleets)
stands_if_either p (Some a) None = ap is_some (own_stands p a)
stands_if_either p (Some a) (Some c) = by (counts p a) (counts p c)
  where
    by : (b d : Bool) → is_some (option_or (option_or (cond b (Some a) None) (cond d (Some c) None)) (Some a)) ≡ true
    by true d = refl
    by false true = refl
    by false false = refl

module _ (s t : EntryMap) (viewer : Viewer) (shows : ShowsTree t s viewer.host) (n : Name) where
  -- What is seen at a level is seen at its number written otherwise.
  at_same : (v : HostViewMap) (level other : ℕ) → level ≡ other → IsSome (viewed_at v (own_path n level))
      → IsSome (viewed_at v (own_path n other))
  at_same v level other same = subst (λ l. IsSome (viewed_at v (own_path n l))) same

  shown_in_tree : IsShown (host_view_of s viewer) n → IsShown (host_view_of t (of_fleet viewer.profile)) n
  shown_in_tree (level, in_levels, seen) = by (halves level)
    where
      stands : (r : ℕ) → IsLevel (r + r + 1)
          → (is_some (own_at s viewer.host (unit_path n r)) || is_some (fleets_at s (unit_path n r))) ≡ true
          → IsShown (host_view_of t (of_fleet viewer.profile)) n
      stands r it_is either = (
        r + r + 1,
        it_is,
        ap is_some (fleets_seen t (of_fleet viewer.profile) n r ∙ shows (unit_path n r))
            ∙ stands_if_either (unit_path n r) (own_at s viewer.host (unit_path n r)) (fleets_at s (unit_path n r)) ∙ either,
      )

      by : (r : ℕ) × ((level ≡ r + r) ⊎ (level ≡ r + r + 1)) → IsShown (host_view_of t (of_fleet viewer.profile)) n
      by (r, inl e) =
          let own : is_some (own_at s viewer.host (unit_path n r)) ≡ true =
          sym (ap is_some (own_seen s viewer n r)) ∙ at_same (host_view_of s viewer) level (r + r) e seen in
          stands r (omega (arith, in_levels, e)) (ap (λ b. b || is_some (fleets_at s (unit_path n r))) own)
      by (r, inr e) =
          let fleets : is_some (fleets_at s (unit_path n r)) ≡ true =
          sym (ap is_some (fleets_seen s viewer n r)) ∙ at_same (host_view_of s viewer) level (r + r + 1) e seen in
          stands r (omega (arith, in_levels, e))
          (or_right (is_some (own_at s viewer.host (unit_path n r))) (is_some (fleets_at s (unit_path n r))) fleets)

  shown_for_host : IsShown (host_view_of t (of_fleet viewer.profile)) n → IsShown (host_view_of s viewer) n
  shown_for_host (level, in_levels, seen) = by (halves level)
    where
      either : (r : ℕ) → IsLevel (r + r + 1) → (a b : Bool)
          → is_some (own_at s viewer.host (unit_path n r)) ≡ a → is_some (fleets_at s (unit_path n r)) ≡ b
          → (a || b) ≡ true → IsShown (host_view_of s viewer) n
      either r it_is true b own fleets e = (r + r, omega (arith, it_is), ap is_some (own_seen s viewer n r) ∙ own)
      either r it_is false true own fleets e = (r + r + 1, it_is, ap is_some (fleets_seen s viewer n r) ∙ fleets)
      either r it_is false false own fleets e = cc (e)

      by : (r : ℕ) × ((level ≡ r + r) ⊎ (level ≡ r + r + 1)) → IsShown (host_view_of s viewer) n
      by (r, inl e) =
          let wrong : false ≡ true = sym (ap is_some (own_seen t (of_fleet viewer.profile) n r)) ∙ at_same (host_view_of t (of_fleet viewer.profile)) level (r + r) e seen in
          cc (wrong)
      by (r, inr e) =
          let own : Option Content = own_at s viewer.host (unit_path n r) in
          let fleets : Option Content = fleets_at s (unit_path n r) in
          let stands : is_some (standing (unit_path n r) own fleets) ≡ true =
          sym (ap is_some (fleets_seen t (of_fleet viewer.profile) n r ∙ shows (unit_path n r))) ∙ at_same (host_view_of t (of_fleet viewer.profile)) level (r + r + 1) e seen in
          either r (omega (arith, in_levels, e)) (is_some own) (is_some fleets) refl refl
          (sym (stands_if_either (unit_path n r) own fleets) ∙ stands)

pub trees_show_the_same_names : TreesShowTheSameNames
trees_show_the_same_names s t viewer shows n = (shown_in_tree s t viewer shows n, shown_for_host s t viewer shows n)

-- ---- fragments

pub trees_have_the_same_fragments : TreesHaveTheSameFragments
trees_have_the_same_fragments s t viewer shows n good p e =
    ap (option_and_then shown) (get-scope_of Fleet t p.path) ∙ shows p.path ∙ fragments_stand s viewer n good p e
