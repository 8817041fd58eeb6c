-- How the link targets of a name are collected.
use Rattle.std.proofs.Common.{◌++◌, ◌+◌, ◌<◌, ◌∷◌, ◌≡◌, ◌≤◌}
use Rattle.fragment_choice.proofs.Prelude.{[], ap, append_assoc, arith, Bool, Choice, cond, cons_option, Content, drop, drop-cons, drop_all, false, File, get_or, Gone, HostViewMap, is_null, IsLevel, last_component, lead_by, lead_of, length, level_is, levels, Link, link_says, link_targets, link_targets_with, List, map, map-append, Name, None, Option, option_and_then, option_map, option_or, own_alias, own_path, refl, said_of, Some, suc, sym, target_at, target_part, targets_in, true, viewed_at, words_of, ℕ, ◌∙◌}
use Rattle.fragment_choice.specs.LinkTargets.{Target}

module _ (s : HostViewMap) (n : Name) (l : ℕ) (lvl : IsLevel l) (links : List (List ℕ))
    (before : map (λ target. Some target) links ++ words_of (targets_in s n (drop l levels)) ≡ link_targets s n) where
  abbrev rest : List Target
  rest = targets_in s n (drop (l + 1) levels)

  from_here : targets_in s n (drop l levels) ≡ cons_option (target_at s (own_path n l)) rest
  from_here =
      ap (targets_in s n) (drop-cons levels l 0 lvl)
      ∙ ap (λ (k : ℕ). cons_option (target_at s (own_path n k)) (targets_in s n (drop (suc l) levels))) (level_is l 0 lvl)
      ∙ ap (λ (k : ℕ). cons_option (target_at s (own_path n l)) (targets_in s n (drop k levels))) (one_more l)
    where
      one_more : (k : ℕ) → suc k ≡ k + 1
      one_more k = omega arith

  -- What was collected and what this level begins are all link targets.
  so_far : (y : Option Content) → viewed_at s (own_path n l) ≡ y → map (λ target. Some target) links ++ words_of (cons_option (option_and_then target_part y) rest) ≡ link_targets s n
  so_far y is =
      ap (λ (o : Option Content). map (λ target. Some target) links ++ words_of (cons_option (option_and_then target_part o) rest)) (sym is)
      ∙ ap (λ (ts : List Target). map (λ target. Some target) links ++ words_of ts) (sym from_here) ∙ before

  pub nothing_more : viewed_at s (own_path n l) ≡ None → map (λ target. Some target) links ++ words_of rest ≡ link_targets s n
  nothing_more is = so_far None is

  pub gone_more : viewed_at s (own_path n l) ≡ Some Gone → map (λ target. Some target) links ++ words_of rest ≡ link_targets s n
  gone_more is = so_far (Some Gone) is

  pub file_there : (bytes : List ℕ) → viewed_at s (own_path n l) ≡ Some (File bytes) → map (λ target. Some target) links ++ None ∷ [] ≡ link_targets s n
  file_there bytes is = so_far (Some (File bytes)) is

  module _ (target : List ℕ) (is : viewed_at s (own_path n l) ≡ Some (Link target)) where
    abbrev begun : Bool → List Target
    begun null = map (λ t. Some t) links ++ cond null (None ∷ []) (Some target ∷ words_of rest)

    pub null_there : is_null target ≡ true → map (λ t. Some t) links ++ None ∷ [] ≡ link_targets s n
    null_there null = ap begun (sym null) ∙ so_far (Some (Link target)) is

    pub link_more : is_null target ≡ false → map (λ t. Some t) (links ++ target ∷ []) ++ words_of rest ≡ link_targets s n
    link_more null =
        ap (λ (ws : List Target). ws ++ words_of rest) (map-append (λ (t : List ℕ). Some t) links (target ∷ []))
        ∙ append_assoc (map (λ t. Some t) links) (Some target ∷ []) (words_of rest)
        ∙ ap begun (sym null) ∙ so_far (Some (Link target)) is

-- ---- what link targets make a name an alias of

module _ (n : Name) where
  -- A link that is ignored leaves it to the others.
  pub silent : (x : List ℕ) (rest : List Target) → link_says n n (last_component x) ≡ None → own_alias n (Some x ∷ rest) ≡ own_alias n rest
  silent x rest e = ap (λ (c : Option Choice). lead_by (option_or (option_map lead_of c) (said_of n n rest))) e

  -- The first that isn't decides.
  pub decided : (x : List ℕ) (rest : List Target) (c : Choice) → link_says n n (last_component x) ≡ Some c → own_alias n (Some x ∷ rest) ≡ lead_of c
  decided x rest c e = ap (λ (d : Option Choice). lead_by (option_or (option_map lead_of d) (said_of n n rest))) e

  -- Where links are ignored, no other content makes an alias.
  pub links_decide : (links : List (List ℕ)) (ends : Bool) → own_alias n (link_targets_with links ends) ≡ own_alias n (map (λ target. Some target) links)
  links_decide [] true = refl
  links_decide [] false = refl
  links_decide (x ∷ links) ends = by (link_says n n (last_component x)) (links_decide links ends)
    where
      by : (c : Option Choice) → own_alias n (link_targets_with links ends) ≡ own_alias n (map (λ target. Some target) links)
          → lead_by (option_or (option_map lead_of c) (said_of n n (link_targets_with links ends))) ≡ lead_by (option_or (option_map lead_of c) (said_of n n (map (λ target. Some target) links)))
      by None e = e
      by (Some c) e = refl

  abbrev pub by_links_from : List (List ℕ) → ℕ → Option Name
  by_links_from links i = own_alias n (map (λ target. Some target) (drop i links))

  -- Without links there is none.
  pub no_links_left : (links : List (List ℕ)) (i : ℕ) → length links ≤ i → by_links_from links i ≡ None
  no_links_left links i h = ap (λ (ls : List (List ℕ)). own_alias n (map (λ target. Some target) ls)) (drop_all i links h)

  module _ (links : List (List ℕ)) (i : ℕ) (d x : List ℕ) (within : i < length links) (is : x ≡ get_or links i d) where
    first : drop i links ≡ x ∷ drop (i + 1) links
    first =
        drop-cons links i d within
        ∙ ap (λ (k : ℕ). get_or links i d ∷ drop k links) (one_more i)
        ∙ ap (λ (y : List ℕ). y ∷ drop (i + 1) links) (sym is)
      where
        one_more : (k : ℕ) → suc k ≡ k + 1
        one_more k = omega arith

    pub next_decides : (c : Choice) → link_says n n (last_component x) ≡ Some c → by_links_from links i ≡ lead_of c
    next_decides c e = ap (λ (ls : List (List ℕ)). own_alias n (map (λ target. Some target) ls)) first ∙ decided x (map (λ target. Some target) (drop (i + 1) links)) c e

    pub next_is_silent : link_says n n (last_component x) ≡ None → by_links_from links i ≡ by_links_from links (i + 1)
    next_is_silent e = ap (λ (ls : List (List ℕ)). own_alias n (map (λ target. Some target) ls)) first ∙ silent x (map (λ target. Some target) (drop (i + 1) links)) e
