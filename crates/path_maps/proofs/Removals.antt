-- A removal where a content is visible.
use Rattle.std.proofs.Common.{◌≡◌}
use Rattle.path_maps.proofs.Prelude.{all_held, ap, AreScopes, At, Bool, bytes_cmp, Content, content_cmp, Entry, EntryMap, File, find, FolderMap, Gone, has_other, is_eq, is_some, is_some_and, Link, look_up, look_up_place, NameMap, nat_cmp, Never, None, not, Option, option_and_then, or_empty, PlaceParts, RankMap, refl, scope_cmp, ScopeMap, shown, Some, true, Version, Versioned, visible_at, written_at, ◌∙◌}
use Rattle.path_maps.proofs.LookUps.{held_is}

-- What is not a removal is visible.
other_shown : (version : Version) (content : Content) → not (is_eq (content_cmp content Gone)) ≡ is_some (shown (record { version = version; content = content }))
other_shown version Gone = refl
other_shown version (Link target) = refl
other_shown version (File bytes) = refl

other_visible : (v : Option (Versioned Content)) → is_some_and (has_other content_cmp Gone) v ≡ is_some (option_and_then shown (written_at v))
other_visible None = refl
other_visible (Some Never) = refl
other_visible (Some (At x)) = other_shown x.version x.content

module _ (q : PlaceParts) (content : Content) where
  -- Whether this content, written at the place in nested maps, changes what is held there.
  abbrev pub is_made_in_names : NameMap → Bool
  is_made_in_names names = is_some_and (has_other content_cmp content) (find bytes_cmp q.path.name names)

  abbrev pub is_made_in_folders : FolderMap → Bool
  is_made_in_folders folders = is_some_and is_made_in_names (find bytes_cmp q.path.folder folders)

  abbrev pub is_made_in_ranks : RankMap → Bool
  is_made_in_ranks m = is_some_and is_made_in_folders (find nat_cmp q.path.rank m)

  abbrev pub is_made : ScopeMap → Bool
  is_made m = is_some_and is_made_in_ranks (find scope_cmp q.scope m)

-- A removal is written exactly where a content is visible.
made_visible : (q : PlaceParts) (m : ScopeMap) → is_made q Gone m ≡ is_some (option_and_then shown (look_up_place m q))
made_visible q m = by_scope (find scope_cmp q.scope m)
  where
    by_folder : (names : Option NameMap) → is_some_and (is_made_in_names q Gone) names ≡ is_some (option_and_then shown (written_at (find bytes_cmp q.path.name (or_empty names))))
    by_folder None = refl
    by_folder (Some names) = other_visible (find bytes_cmp q.path.name names)

    by_rank : (folders : Option FolderMap) → is_some_and (is_made_in_folders q Gone) folders ≡ is_some (option_and_then shown (written_at (find bytes_cmp q.path.name (or_empty (find bytes_cmp q.path.folder (or_empty folders))))))
    by_rank None = refl
    by_rank (Some folders) = by_folder (find bytes_cmp q.path.folder folders)

    by_scope : (ranks : Option RankMap) → is_some_and (is_made_in_ranks q Gone) ranks ≡ is_some (option_and_then shown (look_up (or_empty ranks) q.path))
    by_scope None = refl
    by_scope (Some ranks) = by_rank (find nat_cmp q.path.rank ranks)

pub removal_visible : (m : ScopeMap) → AreScopes m → (s : EntryMap) → all_held m ≡ s → (q p : PlaceParts) → q ≡ p → (content : Content) → content ≡ Gone → is_made q content m ≡ is_some (visible_at s p)
removal_visible m is s e q p at content gone =
    (λ i. is_made q (gone i) m) ∙ made_visible q m
    ∙ ap (λ (x : Option Entry). is_some (option_and_then shown x)) (held_is m is s e q (look_up_place m q) refl)
    ∙ ap (λ (r : PlaceParts). is_some (visible_at s r)) at

-- What is visible is held.
pub visible_held : (x : Option Entry) → is_some (option_and_then shown x) ≡ true → is_some x ≡ true
visible_held None h = h
visible_held (Some x) h = refl
