-- If two stores show the same except at some places, these places alone decide what differs in what a host sees of
-- both.
-- Source: this project's own.
use Rattle.std.proofs.Common.{◌%◌, ◌+◌, ◌==◌, ◌∷◌, ◌≡◌, ◌⊎◌}
use Rattle.parallel_load.specs.Prelude.{[], among_from_contains, ap, Bool, bytes_eq-Decides, cond, Contains, Contains-get_or, EntryMap, false, Fleet, get-scope_of, get-view, Host, host_view_of, inl, inr, is_some, IsAmong, IsLevel, IsSome, level_for, level_is, levels, link_targets, List, Name, None, Option, option_and_then, option_map, Own, own_of, own_path, own_scope, path_after, PathMap, PathParts, PlaceParts, refl, SameWords, scope_of, shown, Some, subst, sym, true, viewed_at, viewed_place, Viewer, views_decide_link_targets, visible_at, ℕ, ◌∙◌}
use Rattle.std.specs.FinMap as finmap

-- the stores show the same at every place but these
abbrev pub ShowTheSameBut : EntryMap → EntryMap → List PlaceParts → Type 0
ShowTheSameBut s t touched = (place : PlaceParts) → IsAmong place touched ⊎ (visible_at s place ≡ visible_at t place)

-- at each of these places that the host sees and whose path has one component, the name has the same link targets
abbrev pub WordsStayAt : EntryMap → EntryMap → Viewer → List PlaceParts → Type 0
WordsStayAt s t viewer touched =
    (place : PlaceParts) → IsAmong place touched → place.path.folder ≡ [] → IsSome (level_for viewer place)
    → link_targets (host_view_of s viewer) place.path.name ≡ link_targets (host_view_of t viewer) place.path.name

-- if link targets are the same at the changed places, those of all names are
abbrev pub TouchedWordsDecide : Type 0
TouchedWordsDecide =
    (s t : EntryMap) (viewer : Viewer) (touched : List PlaceParts) → ShowTheSameBut s t touched → WordsStayAt s t viewer touched
    → SameWords (host_view_of s viewer) (host_view_of t viewer)

-- ---- the place of a path

-- the places at even levels, or at odd ones
abbrev looked_at : EntryMap → Option (List ℕ) → Bool → Option PathMap
looked_at s host b = cond b (option_map (λ (o : Own). o.held) (option_map (own_of s) host)) (Some (scope_of s Fleet))

-- the place of a path, by whether its level is even
abbrev place_by : EntryMap → Option (List ℕ) → Bool → PathParts → PlaceParts
place_by s host b p = record { scope = cond b (own_scope (option_map (own_of s) host)) Fleet; path = path_after p }

module _ (s t : EntryMap) (viewer : Viewer) (p : PathParts) where
  -- stores that show the same at a path's place show the same at the path
  place_decides : visible_at s (viewed_place (host_view_of s viewer) p) ≡ visible_at t (viewed_place (host_view_of s viewer) p)
      → viewed_at (host_view_of s viewer) p ≡ viewed_at (host_view_of t viewer) p
  place_decides same =
      ap (option_and_then shown) (get-view p (host_view_of s viewer))
      ∙ by viewer.host (p.rank % 2 == 0) same
      ∙ ap (option_and_then shown) (sym (get-view p (host_view_of t viewer)))
    where
      by : (host : Option (List ℕ)) (b : Bool) → visible_at s (place_by s host b p) ≡ visible_at t (place_by s host b p)
          → option_and_then shown (option_and_then (λ (held : PathMap). finmap.get held (path_after p)) (looked_at s host b))
          ≡ option_and_then shown (option_and_then (λ (held : PathMap). finmap.get held (path_after p)) (looked_at t host b))
      by host false same =
          ap (option_and_then shown) (get-scope_of Fleet s (path_after p))
          ∙ same
          ∙ ap (option_and_then shown) (sym (get-scope_of Fleet t (path_after p)))
      by None true same = refl
      by (Some h) true same =
          ap (option_and_then shown) (get-scope_of (Host h) s (path_after p))
          ∙ same
          ∙ ap (option_and_then shown) (sym (get-scope_of (Host h) t (path_after p)))

  -- and that place has a level
  place_has_level : IsSome (level_for viewer (viewed_place (host_view_of s viewer) p))
  place_has_level = by viewer.host (p.rank % 2 == 0)
    where
      by : (host : Option (List ℕ)) (b : Bool) → IsSome (level_for (record viewer { host = host }) (place_by s host b p))
      by host false = refl
      by None true = refl
      by (Some h) true =
          ap (λ b. is_some (cond b (Some ((path_after p).rank + (path_after p).rank)) None)) ((bytes_eq-Decides h h).1 refl)

-- ---- link targets

level_among : (l : ℕ) → IsLevel l → IsAmong l levels
level_among l h = among_from_contains l levels (subst (Contains levels) (level_is l 0 h) (Contains-get_or levels l 0 h))

module _ (s t : EntryMap) (viewer : Viewer) (touched : List PlaceParts) (but : ShowTheSameBut s t touched)
    (stay : WordsStayAt s t viewer touched) (n : Name) where
  abbrev Stays : Type 0
  Stays = link_targets (host_view_of s viewer) n ≡ link_targets (host_view_of t viewer) n

  -- at each level the host sees the same, or the link targets are equal, since the place is a changed one
  at_level : (l : ℕ) → Stays ⊎ (viewed_at (host_view_of s viewer) (own_path n l) ≡ viewed_at (host_view_of t viewer) (own_path n l))
  at_level l = by (but (viewed_place (host_view_of s viewer) (own_path n l)))
    where
      by : IsAmong (viewed_place (host_view_of s viewer) (own_path n l)) touched
          ⊎ (visible_at s (viewed_place (host_view_of s viewer) (own_path n l)) ≡ visible_at t (viewed_place (host_view_of s viewer) (own_path n l)))
          → Stays ⊎ (viewed_at (host_view_of s viewer) (own_path n l) ≡ viewed_at (host_view_of t viewer) (own_path n l))
      by (inl among) = inl (stay (viewed_place (host_view_of s viewer) (own_path n l)) among refl (place_has_level s t viewer (own_path n l)))
      by (inr same) = inr (place_decides s t viewer (own_path n l) same)

  at_levels : (ls : List ℕ)
      → Stays ⊎ ((l : ℕ) → IsAmong l ls
      → viewed_at (host_view_of s viewer) (own_path n l) ≡ viewed_at (host_view_of t viewer) (own_path n l))
  at_levels [] = inr (λ l a. absurd a)
  at_levels (k ∷ ks) = by (at_level k) (at_levels ks)
    where
      pick : viewed_at (host_view_of s viewer) (own_path n k) ≡ viewed_at (host_view_of t viewer) (own_path n k)
          → ((l : ℕ) → IsAmong l ks → viewed_at (host_view_of s viewer) (own_path n l) ≡ viewed_at (host_view_of t viewer) (own_path n l))
          → (l : ℕ) → IsAmong l (k ∷ ks)
          → viewed_at (host_view_of s viewer) (own_path n l) ≡ viewed_at (host_view_of t viewer) (own_path n l)
      pick e more l (inl i) = subst (λ j. viewed_at (host_view_of s viewer) (own_path n j) ≡ viewed_at (host_view_of t viewer) (own_path n j)) i e
      pick e more l (inr a) = more l a

      by : Stays ⊎ (viewed_at (host_view_of s viewer) (own_path n k) ≡ viewed_at (host_view_of t viewer) (own_path n k))
          → Stays ⊎ ((l : ℕ) → IsAmong l ks
          → viewed_at (host_view_of s viewer) (own_path n l) ≡ viewed_at (host_view_of t viewer) (own_path n l))
          → Stays ⊎ ((l : ℕ) → IsAmong l (k ∷ ks)
          → viewed_at (host_view_of s viewer) (own_path n l) ≡ viewed_at (host_view_of t viewer) (own_path n l))
      by (inl w) more = inl w
      by (inr e) (inl w) = inl w
      by (inr e) (inr more) = inr (pick e more)

  words_stay : Stays
  words_stay = by (at_levels levels)
    where
      by : Stays ⊎ ((l : ℕ) → IsAmong l levels
          → viewed_at (host_view_of s viewer) (own_path n l) ≡ viewed_at (host_view_of t viewer) (own_path n l)) → Stays
      by (inl w) = w
      by (inr same) = views_decide_link_targets (host_view_of s viewer) (host_view_of t viewer) n (λ l h. same l (level_among l h))

pub touched_words_decide : TouchedWordsDecide
touched_words_decide s t viewer touched but stay n = words_stay s t viewer touched but stay n
