-- Links are added to the lists of words.
use Rattle.std.proofs.Common.{◌++◌, ◌∷◌, ◌≡◌, ◌⊎◌}
use Rattle.setting_rules.specs.{declared.kinds.DepKind.TheVariants.{Requires, Wants}, Dependencies.{lists_of}}
use Rattle.unit_loads.proofs.Prelude.{[], among_from_contains, ap, append-nil, contains_from_among, DependencyList, DepKind, get_or, in_byte_order, inl, inr, IsAmong, IsAmong-append_cases, IsAmong-append_left, IsAmong-append_right, length, linked_by, LinkNames, links_for, List, list_for, list_with, lists_with, map, Name, name_cmp, names_ascend, names_by, names_stay, naming_kinds, nat_list_cmp_total, one_ascending_list, Profile, refl, set, SettingMap, sym, with_linked, words_for, ℕ, ◌∙◌}

among_ordered : (n : Name) (xs : List Name) → IsAmong n (in_byte_order xs) → IsAmong n xs
among_ordered n xs h = among_from_contains n xs ((names_stay xs n).0 (contains_from_among n (in_byte_order xs) h))

ordered_among : (n : Name) (xs : List Name) → IsAmong n xs → IsAmong n (in_byte_order xs)
ordered_among n xs h = among_from_contains n (in_byte_order xs) ((names_stay xs n).1 (contains_from_among n xs h))

-- sorting sorted names with others gives the same as sorting them all at once
ordered_again : (xs ys : List Name) → in_byte_order (in_byte_order xs ++ ys) ≡ in_byte_order (xs ++ ys)
ordered_again xs ys = one_ascending_list name_cmp nat_list_cmp_total (in_byte_order (in_byte_order xs ++ ys)) (in_byte_order (xs ++ ys)) (names_ascend (in_byte_order xs ++ ys)) (names_ascend (xs ++ ys)) (λ n. (
  λ h. ordered_among n (xs ++ ys) (forward n (IsAmong-append_cases n (in_byte_order xs) ys (among_ordered n (in_byte_order xs ++ ys) h))),
  λ h. ordered_among n (in_byte_order xs ++ ys) (back n (IsAmong-append_cases n xs ys (among_ordered n (xs ++ ys) h))),
))
  where
    forward : (n : Name) → IsAmong n (in_byte_order xs) ⊎ IsAmong n ys → IsAmong n (xs ++ ys)
    forward n (inl a) = IsAmong-append_left n xs ys (among_ordered n xs a)
    forward n (inr b) = IsAmong-append_right n xs ys b

    back : (n : Name) → IsAmong n xs ⊎ IsAmong n ys → IsAmong n (in_byte_order xs ++ ys)
    back n (inl a) = IsAmong-append_left n (in_byte_order xs) ys (ordered_among n xs a)
    back n (inr b) = IsAmong-append_right n (in_byte_order xs) ys b

-- the same where links added the others
all_ordered : (xs ys : List Name) → with_linked (in_byte_order xs) ys ≡ in_byte_order (xs ++ ys)
all_ordered xs [] = ap in_byte_order (sym (append-nil xs))
all_ordered xs (y ∷ ys) = ordered_again xs (y ∷ ys)

module _ (profile : Profile) (entries : SettingMap) (unit : Name) (links : LinkNames) where
  -- the list of words for a kind, with the units that links add
  added : DepKind → DependencyList
  added dep = record { kind = dep; names = with_linked (in_byte_order (names_by unit (words_for profile entries dep))) (linked_by unit (links_for links dep)) }

  each_list : (deps : List DepKind) → map added deps ≡ map (list_with profile entries unit links) deps
  unfolding added
  each_list [] = refl
  each_list (dep ∷ deps) =
      ap (λ (ns : List Name). let r : DependencyList = record { kind = dep; names = ns } in r ∷ map added deps)
      (all_ordered (names_by unit (words_for profile entries dep)) (linked_by unit (links_for links dep)))
      ∙ ap (λ ls. list_with profile entries unit links dep ∷ ls) (each_list deps)

  -- how many lists of words there are
  pub list_count : (lists : List DependencyList) → lists ≡ lists_of profile entries unit → length lists ≡ 15
  unfolding lists_of
  list_count lists is = ap length is

  -- a list of words, once it has the names that links add
  one_list : (dep : DepKind) (list : DependencyList) (names : List Name) → list ≡ list_for profile entries unit dep → names ≡ with_linked list.names (linked_by unit (links_for links dep)) → (record list { names = names }) ≡ added dep
  unfolding added
  one_list dep list names is all =
      ap (λ (l : DependencyList). let r : DependencyList = record l { names = names } in r) is
      ∙ ap (λ (ns : List Name). let r : DependencyList = record { kind = dep; names = ns } in r)
      (all ∙ ap (λ (l : DependencyList). with_linked l.names (linked_by unit (links_for links dep))) is)

  -- the lists of words, once those of `Wants` and `Requires` have the names that links add
  module _ (lists : List DependencyList) (is : lists ≡ lists_of profile entries unit) (wants needs : DependencyList) (wanted required : List Name) where
    lists_linked : wants ≡ get_or lists 2 wants → wanted ≡ with_linked wants.names (linked_by unit links.wanted) → needs ≡ get_or (set lists 2 (record wants { names = wanted })) 3 needs → required ≡ with_linked needs.names (linked_by unit links.required) → set (set lists 2 (record wants { names = wanted })) 3 (record needs { names = required }) ≡ lists_with profile entries unit links
    unfolding lists_of added
    lists_linked third wants_all fourth needs_all =
        ap (λ (l : DependencyList). set (set lists 2 (record wants { names = wanted })) 3 l) needs_added
        ∙ ap (λ (ls : List DependencyList). set ls 3 (added Requires)) wants_set ∙ each_list naming_kinds
      where
        wants_added : (record wants { names = wanted }) ≡ added Wants
        wants_added = one_list Wants wants wanted (third ∙ ap (λ ls. get_or ls 2 wants) is) wants_all

        wants_set : set lists 2 (record wants { names = wanted }) ≡ set (lists_of profile entries unit) 2 (added Wants)
        wants_set = ap (λ ls. set ls 2 (record wants { names = wanted })) is ∙ ap (λ (l : DependencyList). set (lists_of profile entries unit) 2 l) wants_added

        needs_added : (record needs { names = required }) ≡ added Requires
        needs_added = one_list Requires needs required (fourth ∙ ap (λ ls. get_or ls 3 needs) wants_set) needs_all

    -- the same with the positions of the two given
    pub lists_linked_at : (i j : ℕ) → i ≡ 2 → j ≡ 3 → wants ≡ get_or lists i wants → wanted ≡ with_linked wants.names (linked_by unit links.wanted) → needs ≡ get_or (set lists i (record wants { names = wanted })) j needs → required ≡ with_linked needs.names (linked_by unit links.required) → set (set lists i (record wants { names = wanted })) j (record needs { names = required }) ≡ lists_with profile entries unit links
    lists_linked_at i j e f third wants_all fourth needs_all =
        (λ k. set (set lists (e k) (record wants { names = wanted })) (f k) (record needs { names = required }))
        ∙ lists_linked (third ∙ ap (λ n. get_or lists n wants) e) wants_all (fourth ∙ (λ k. get_or (set lists (e k) (record wants { names = wanted })) (f k) needs)) needs_all
