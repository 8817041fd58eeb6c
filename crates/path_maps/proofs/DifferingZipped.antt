-- Entries of a store, side by side with what an older store has at their places. If the older store has no other place,
-- the places where these differ are all places where the stores differ.
use Rattle.std.proofs.Common.{◌+◌, ◌↔◌, ◌∷◌, ◌≡◌, ◌≢◌}
use Rattle.path_maps.proofs.Prelude.{[], additions, and_parts, ap, arith, below_refl, Bool, cond, Contents, differing, edit_of, Entry, EntryMap, eq_by_cmp, false, find, from_T, get-join, get-with_edit, is_some, IsAmong, IsBelow, IsStoreBelow, IsStrictlySortedBy, join, larger, larger-right, List, map, None, not, Option, option_and_then, place_cmp, place_cmp_total, PlaceParts, refl, same_contents-itself, Shown, shown, shown_zipped, Some, subst, sym, tied, true, unwrap_or, visible_at, with_edit, zipped, ◌∙◌}
use Rattle.path_maps.proofs.{Ascends.{found_entry, len-join}, Differing.{back_unlike, both, contents_in, list_ascends, list_exact, or_none, unlike}, Passing.{AreSorted, IsAbove, none_among}, Sizes.{len-below}}
use Rattle.std.specs.FinMap as finmap

module _ (held : PlaceParts → Option Entry) where
  abbrev shown_with : List (PlaceParts × Entry) → List Shown
  shown_with es = map shown_zipped (zipped held es)

  above_with : (k : PlaceParts) (es : List (PlaceParts × Entry)) → IsAbove k es → IsAbove k (shown_with es)
  above_with k [] h = refl
  above_with k (e ∷ es) h = let p = and_parts _ _ h in both _ _ p.0 (above_with k es p.1)

  sorted_with : (es : List (PlaceParts × Entry)) → AreSorted es → AreSorted (shown_with es)
  sorted_with [] s = refl
  sorted_with (e ∷ es) s = let p = and_parts _ _ s in both _ _ (above_with e.0 es p.0) (sorted_with es p.1)

  module _ (q : PlaceParts) where
    -- What is shown at a place, from what is found there.
    abbrev contents_with : Option Entry → Contents
    contents_with None = (None, None)
    contents_with (Some x) = (shown x, option_and_then shown (held q))

    found_with : (es : List (PlaceParts × Entry)) → contents_in q (shown_with es) ≡ contents_with (find place_cmp q es)
    found_with [] = refl
    found_with (e ∷ es) = by (eq_by_cmp place_cmp q e.0) refl (found_with es)
      where
        by : (b : Bool) → eq_by_cmp place_cmp q e.0 ≡ b → contents_in q (shown_with es) ≡ contents_with (find place_cmp q es)
            → or_none (cond b (Some (shown e.1, option_and_then shown (held e.0))) (find place_cmp q (shown_with es))) ≡ contents_with (cond b (Some e.1) (find place_cmp q es))
        by true t rest = ap (λ k. (shown e.1, option_and_then shown (held k))) (sym (tied q e.0 t))
        by false t rest = rest

module _ (new old : EntryMap) where
  abbrev zipped_shown : List Shown
  zipped_shown = shown_with (finmap.get old) (finmap.entries new)

  zipped_sorted : AreSorted zipped_shown
  zipped_sorted = sorted_with (finmap.get old) (finmap.entries new) (from_T _ (finmap.entries_sorted new))

  zipped_there : (q : PlaceParts) → contents_in q zipped_shown ≡ contents_with (finmap.get old) q (finmap.get new q)
  zipped_there q = found_with (finmap.get old) q (finmap.entries new) ∙ ap (contents_with (finmap.get old) q) (sym (found_entry new q))

  -- If all places show the same, nothing differs, whatever other places the older store has.
  pub nothing_zipped : ((q : PlaceParts) → visible_at new q ≡ visible_at old q) → differing zipped_shown ≡ []
  nothing_zipped same = none_among (differing zipped_shown) (λ q a. by q (finmap.get new q) refl (sym (ap unlike (zipped_there q)) ∙ back_unlike q zipped_shown zipped_sorted a))
    where
      by : (q : PlaceParts) (y : Option Entry) → finmap.get new q ≡ y → unlike (contents_with (finmap.get old) q y) ≡ true → ⊥
      by q None e h = cc (h)
      by q (Some x) e h =
          let alike : shown x ≡ visible_at old q = sym (ap (option_and_then shown) e) ∙ same q in
          let differs = ap (λ z. unlike (z, visible_at old q)) (sym alike) ∙ h in
          let wrong : false ≡ true = sym (ap not (same_contents-itself (visible_at old q))) ∙ differs in cc (wrong)

  -- A place that only the older store holds would be one too many for the count.
  module _ (q : PlaceParts) (x : Entry) where
    abbrev with_one_more : EntryMap
    with_one_more = with_edit new (edit_of (q, x))

    one_more_below : finmap.get old q ≡ Some x → IsStoreBelow with_one_more (join old new)
    one_more_below e r =
        subst (λ (y : Option Entry). IsBelow y (finmap.get (join old new) r)) (sym (get-with_edit new (edit_of (q, x)) r))
        (subst (λ (z : Option Entry). IsBelow (cond (eq_by_cmp place_cmp r q) (larger (Some x) (finmap.get new r)) (finmap.get new r)) z) (sym (get-join old new r)) (at (eq_by_cmp place_cmp r q) refl))
      where
        at : (b : Bool) → eq_by_cmp place_cmp r q ≡ b → IsBelow (cond b (larger (Some x) (finmap.get new r)) (finmap.get new r)) (larger (finmap.get old r) (finmap.get new r))
        at true t =
            let here : Some x ≡ finmap.get old r = sym (ap (finmap.get old) (tied r q t) ∙ e) in
            subst (λ (z : Option Entry). IsBelow (larger (Some x) (finmap.get new r)) (larger z (finmap.get new r))) here (below_refl (larger (Some x) (finmap.get new r)))
        at false t = larger-right (finmap.get old r) (finmap.get new r)

    one_too_many : additions old (finmap.entries new) + finmap.len old ≡ finmap.len new → finmap.get new q ≡ None → finmap.get old q ≡ Some x → ⊥
    one_too_many counted none e =
        let one : finmap.len with_one_more ≡ finmap.len new + 1 = finmap.len-insert place_cmp_total new q (unwrap_or (larger (Some x) (finmap.get new q)) x) ∙ ap (λ y. cond (is_some y) (finmap.len new) (finmap.len new + 1)) none in
        let most = len-below with_one_more (join old new) (one_more_below e) in
        let all = len-join old new in
        omega (arith, one, most, all, counted)

  -- The older store has no other place if its places and the added ones add up to the places of the new store.
  pub none_besides : additions old (finmap.entries new) + finmap.len old ≡ finmap.len new → (q : PlaceParts) → finmap.get new q ≡ None → finmap.get old q ≡ None
  none_besides counted q none = by (finmap.get old q) refl
    where
      by : (y : Option Entry) → finmap.get old q ≡ y → finmap.get old q ≡ None
      by None e = e
      by (Some x) e = absurd (one_too_many q x counted none e)

  module _ (besides : (q : PlaceParts) → finmap.get new q ≡ None → finmap.get old q ≡ None) where
    both_there : (q : PlaceParts) → contents_in q zipped_shown ≡ (visible_at new q, visible_at old q)
    both_there q = zipped_there q ∙ by (finmap.get new q) refl
      where
        by : (y : Option Entry) → finmap.get new q ≡ y → contents_with (finmap.get old) q y ≡ (option_and_then shown y, visible_at old q)
        by None e = ap (λ z. (None, option_and_then shown z)) (sym (besides q e))
        by (Some x) e = refl

    pub zipped_ascends : IsStrictlySortedBy place_cmp (differing zipped_shown)
    zipped_ascends = list_ascends new old zipped_shown zipped_sorted both_there

    pub zipped_exact : (q : PlaceParts) → IsAmong q (differing zipped_shown) ↔ (visible_at new q ≢ visible_at old q)
    zipped_exact = list_exact new old zipped_shown zipped_sorted both_there
