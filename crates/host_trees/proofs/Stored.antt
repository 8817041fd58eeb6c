-- The store that is made of a tree shows just that tree.
use Rattle.std.proofs.Common.{◌≡◌, ◌⊎◌}
use Rattle.host_trees.proofs.Prelude.{ap, among_from_contains, contains_from_among, Content, Edit, edit_at_fleet, edit_of, Entry, entry_of, EntryMap, File, Fleet, fleets_at, Gone, Host, inl, inr, IsAmong, IsBelow, IsTree, Link, List, made_of, made_there, map, None, one_of_both_stands, Option, option_and_then, own_at, PathParts, PlaceParts, refl, shown, ShowsTree, Some, stands_at, subst, sum_of, sum_of-IsSum, sym, visible_at, within, ℕ, ◌∙◌}
use Rattle.std.specs.FinMap as finmap

-- What an entry shows is no removal.
shows_again : (e x : Entry) (c : Content) → shown e ≡ Some c → x.content ≡ c → shown x ≡ Some c
shows_again e x c is same = by c is same
  where
    visible : (d : Content) → e.content ≡ d → shown (record { version = e.version; content = d }) ≡ Some Gone → ⊥
    visible Gone at h = cc (h)
    visible (Link target) at h = cc (h)
    visible (File bytes) at h = cc (h)

    by : (d : Content) → shown e ≡ Some d → x.content ≡ d → shown x ≡ Some d
    by Gone h at = absurd (visible e.content refl h)
    by (Link target) h at = ap (λ y. shown (record { version = x.version; content = y })) at
    by (File bytes) h at = ap (λ y. shown (record { version = x.version; content = y })) at

seen_again : (s : EntryMap) (q : PlaceParts) (x : Entry) (c : Content) → visible_at s q ≡ Some c → x.content ≡ c → shown x ≡ Some c
seen_again s q x c is same = by (finmap.get s q) is
  where
    by : (o : Option Entry) → option_and_then shown o ≡ Some c → shown x ≡ Some c
    by None e = cc (e)
    by (Some y) e = shows_again y x c e same

stands_again : (s : EntryMap) (host : Option (List ℕ)) (p : PathParts) (x : Entry) (c : Content) → stands_at s host p ≡ Some c → x.content ≡ c → shown x ≡ Some c
stands_again s host p x c is same = by host (one_of_both_stands s host p c is)
  where
    by : (h : Option (List ℕ)) → (own_at s h p ≡ Some c) ⊎ (fleets_at s p ≡ Some c) → shown x ≡ Some c
    by None (inl e) = cc (e)
    by (Some h) (inl e) = seen_again s (within (Host h) p) x c e same
    by h (inr e) = seen_again s (within Fleet p) x c e same

module _ (s : EntryMap) (host : Option (List ℕ)) (tree : List (PathParts × Content)) (is : IsTree s host tree) where
  abbrev edits : List Edit
  edits = map edit_at_fleet tree

  -- An entry of the sum is a pair of the tree.
  pair_of_entry : (p : PathParts) (x : Entry) → finmap.get (sum_of edits) (within Fleet p) ≡ Some x → stands_at s host p ≡ Some x.content
  pair_of_entry p x got =
      let found = (sum_of-IsSum edits).found (within Fleet p) x got in
      let h = made_of edit_at_fleet tree (edit_of (within Fleet p, x)) (contains_from_among _ edits found) in
      let there : IsAmong h.0 tree = among_from_contains h.0 tree h.2 in
      let same : h.0 ≡ (p, x.content) = (λ i. ((h.1 i).place.path, (h.1 i).content)) in
      (is.exact p x.content).0 (subst (λ pair. IsAmong pair tree) same there)

  -- A pair of the tree has an entry.
  entry_of_pair : (p : PathParts) (c : Content) → stands_at s host p ≡ Some c → finmap.get (sum_of edits) (within Fleet p) ≡ None → ⊥
  entry_of_pair p c stands none =
      let among = made_there edit_at_fleet tree (p, c) (contains_from_among (p, c) tree ((is.exact p c).1 stands)) in
      let e = edit_at_fleet (p, c) in
      subst (λ o. IsBelow (Some (entry_of e)) o) none ((sum_of-IsSum edits).above e (among_from_contains e edits among))

  pub sum_shows_tree : ShowsTree (sum_of edits) s host
  sum_shows_tree p = by (finmap.get (sum_of edits) (within Fleet p)) refl (stands_at s host p) refl
    where
      by : (o : Option Entry) → finmap.get (sum_of edits) (within Fleet p) ≡ o → (st : Option Content) → stands_at s host p ≡ st → fleets_at (sum_of edits) p ≡ stands_at s host p
      by None got None at = ap (option_and_then shown) got ∙ sym at
      by None got (Some c) at = absurd (entry_of_pair p c at got)
      by (Some x) got None at = let wrong = sym at ∙ pair_of_entry p x got in cc (wrong)
      by (Some x) got (Some c) at =
          let pair = pair_of_entry p x got in
          ap (option_and_then shown) got ∙ stands_again s host p x x.content pair refl ∙ sym pair
