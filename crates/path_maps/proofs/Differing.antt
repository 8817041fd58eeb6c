-- The list of two stores' places is in ascending order and has at each place what both show, so it gives exactly the
-- places where the stores differ.
use Rattle.std.proofs.Common.{◌&&◌, ◌↔◌, ◌∷◌, ◌≡◌, ◌≢◌}
use Rattle.path_maps.proofs.Prelude.{[], and_parts, ap, Bool, cond, Content, Contents, differ, differing, Entry, EntryMap, eq_by_cmp, Equal, false, find, find_below, first_zipped, from_T, Greater, is_less, is_lt, IsAmong, IsStrictlySortedBy, IsTrue, Less, List, map, match_ordering, None, not, of_both, only_new, only_old, Option, option_and_then, Ordering, ordering_reverse, place_cmp, place_cmp-IsAntisymmetric, place_cmp_total, PlaceParts, refl, same_contents, same_contents-itself, same_contents-true, Shown, shown, Some, subst, sym, tied, together, true, visible_at, ◌∙◌}
use Rattle.path_maps.proofs.{Ascends.{found_entry}, Passing.{AreSorted, back, IsAbove, none_among, passes, passing_ascends, there}}
use Rattle.std.specs.FinMap as finmap

abbrev Placed : Type 0
Placed = PlaceParts × Entry

pub both : (a b : Bool) → IsTrue a → IsTrue b → IsTrue (a && b)
both true b p q = q
both false b p q = cc (p)

above_less : {X : Type 0} (k l : PlaceParts) (es : List (PlaceParts × X)) → place_cmp k l ≡ Less → IsAbove l es → IsAbove k es
above_less k l [] less h = refl
above_less k l (e ∷ es) less h =
    let p = and_parts _ _ h in
    both _ _ (ap is_lt (place_cmp_total.trans k l e.0 less (is_less _ p.0))) (above_less k l es less p.1)

above_first : {X : Type 0} (k : PlaceParts) (e : PlaceParts × X) (es : List (PlaceParts × X))
    → place_cmp k e.0 ≡ Less → IsAbove e.0 es → IsAbove k (e ∷ es)
above_first k e es less h = both _ _ (ap is_lt less) (above_less k e.0 es less h)

turned : (k l : PlaceParts) → place_cmp k l ≡ Greater → place_cmp l k ≡ Less
turned k l h = place_cmp_total.antisymm l k ∙ ap ordering_reverse h

-- ---- the list is in ascending order

above_olds : (k : PlaceParts) (fs : List Placed) → IsAbove k fs → IsAbove k (map only_old fs)
above_olds k [] h = refl
above_olds k (f ∷ fs) h = let p = and_parts _ _ h in both _ _ p.0 (above_olds k fs p.1)

above_zipped : (k : PlaceParts) (e : Placed) (rest : List Placed → List Shown)
    → ((fs : List Placed) → IsAbove k fs → IsAbove k (rest fs)) → IsTrue (is_lt (place_cmp k e.0))
    → (fs : List Placed) → IsAbove k fs → IsAbove k (first_zipped e rest fs)
above_zipped k e rest more less [] h = both _ _ less (more [] refl)
above_zipped k e rest more less (f ∷ fs) h = by (place_cmp e.0 f.0) (above_zipped k e rest more less fs (and_parts _ _ h).1)
  where
    by : (r : Ordering) → IsAbove k (first_zipped e rest fs)
        → IsAbove k (match_ordering r (only_new e ∷ rest (f ∷ fs)) (of_both e f ∷ rest fs) (only_old f ∷ first_zipped e rest fs))
    by Less a = both _ _ less (more (f ∷ fs) h)
    by Equal a = both _ _ less (more fs (and_parts _ _ h).1)
    by Greater a = both _ _ (and_parts _ _ h).0 a

above_together : (k : PlaceParts) (es fs : List Placed) → IsAbove k es → IsAbove k fs → IsAbove k (together es fs)
above_together k [] fs a b = above_olds k fs b
above_together k (e ∷ es) fs a b =
    let p = and_parts _ _ a in
    above_zipped k e (together es) (λ gs c. above_together k es gs p.1 c) p.0 fs b

sorted_olds : (fs : List Placed) → AreSorted fs → AreSorted (map only_old fs)
sorted_olds [] s = refl
sorted_olds (f ∷ fs) s = let p = and_parts _ _ s in both _ _ (above_olds f.0 fs p.0) (sorted_olds fs p.1)

module _ (e : Placed) (es : List Placed) (above : IsAbove e.0 es) where
  sorted_zipped : ((fs : List Placed) → AreSorted fs → AreSorted (together es fs))
      → (fs : List Placed) → AreSorted fs → AreSorted (together (e ∷ es) fs)
  sorted_zipped more [] s = both _ _ (above_together e.0 es [] above refl) (more [] refl)
  sorted_zipped more (f ∷ fs) s = by (place_cmp e.0 f.0) refl (sorted_zipped more fs p.1)
    where
      p : IsAbove f.0 fs × AreSorted fs
      p = and_parts _ _ s

      by : (r : Ordering) → place_cmp e.0 f.0 ≡ r → AreSorted (together (e ∷ es) fs)
          → AreSorted (match_ordering r (only_new e ∷ together es (f ∷ fs)) (of_both e f ∷ together es fs)
          (only_old f ∷ together (e ∷ es) fs))
      by Less o rest = both _ _ (above_together e.0 es (f ∷ fs) above (above_first e.0 f fs o p.0)) (more (f ∷ fs) s)
      by Equal o rest =
          let here = place_cmp-IsAntisymmetric e.0 f.0 o in
          both _ _ (above_together e.0 es fs above (subst (λ k. IsAbove k fs) (sym here) p.0)) (more fs p.1)
      by Greater o rest = both _ _ (above_together f.0 (e ∷ es) fs (above_first f.0 e es (turned e.0 f.0 o) above) p.0) rest

sorted_together : (es fs : List Placed) → AreSorted es → AreSorted fs → AreSorted (together es fs)
sorted_together [] fs s t = sorted_olds fs t
sorted_together (e ∷ es) fs s t = let p = and_parts _ _ s in sorted_zipped e es p.0 (λ gs u. sorted_together es gs p.1 u) fs t

-- ---- at each place it has what both show

abbrev pub or_none : Option Contents → Contents
or_none None = (None, None)
or_none (Some c) = c

module _ (q : PlaceParts) where
  abbrev pub contents_in : List Shown → Contents
  contents_in ss = or_none (find place_cmp q ss)

  abbrev visible_in : List Placed → Option Content
  visible_in es = option_and_then shown (find place_cmp q es)

  -- The list has what each of the two shows there.
  abbrev ShowsBoth : List Placed → List Placed → Type 0
  ShowsBoth es fs = contents_in (together es fs) ≡ (visible_in es, visible_in fs)

  shown_olds : (fs : List Placed) → contents_in (map only_old fs) ≡ (None, visible_in fs)
  shown_olds [] = refl
  shown_olds (f ∷ fs) =
      elim (eq_by_cmp place_cmp q f.0) as (λ b. or_none (cond b (Some (None, shown f.1)) (find place_cmp q (map only_old fs)))
      ≡ (None, option_and_then shown (cond b (Some f.1) (find place_cmp q fs)))) [
        | true ↦ refl
        | false ↦ shown_olds fs
      ]

  -- Nothing is visible at a place among entries that are all after it.
  none_visible : (k : PlaceParts) (es : List Placed) → IsAbove k es → eq_by_cmp place_cmp q k ≡ true → None ≡ visible_in es
  none_visible k es above t =
      ap (option_and_then shown) (sym (find_below place_cmp q es (subst (λ l. IsAbove l es) (sym (tied q k t)) above)))

  module _ (e : Placed) (es : List Placed) (above : IsAbove e.0 es) where
    at_both : (f : Placed) (fs : List Placed) (b c : Bool) → b ≡ c → ShowsBoth es fs
        → or_none (cond b (Some (shown e.1, shown f.1)) (find place_cmp q (together es fs)))
        ≡ (option_and_then shown (cond b (Some e.1) (find place_cmp q es)), option_and_then shown (cond c (Some f.1) (find place_cmp q fs)))
    at_both f fs true true h rest = refl
    at_both f fs true false h rest = cc (h)
    at_both f fs false true h rest = cc (h)
    at_both f fs false false h rest = rest

    at_new : (fs : List Placed) (b : Bool) → (b ≡ true → None ≡ visible_in fs) → ShowsBoth es fs
        → or_none (cond b (Some (shown e.1, None)) (find place_cmp q (together es fs)))
        ≡ (option_and_then shown (cond b (Some e.1) (find place_cmp q es)), visible_in fs)
    at_new fs true none rest = ap (λ (y : Option Content). (shown e.1, y)) (none refl)
    at_new fs false none rest = rest

    at_old : (f : Placed) (fs : List Placed) (b : Bool) → (b ≡ true → None ≡ visible_in (e ∷ es)) → ShowsBoth (e ∷ es) fs
        → or_none (cond b (Some (None, shown f.1)) (find place_cmp q (together (e ∷ es) fs)))
        ≡ (visible_in (e ∷ es), option_and_then shown (cond b (Some f.1) (find place_cmp q fs)))
    at_old f fs true none rest = ap (λ (y : Option Content). (y, shown f.1)) (none refl)
    at_old f fs false none rest = rest

    shown_zipped : ((fs : List Placed) → AreSorted fs → ShowsBoth es fs) → (fs : List Placed) → AreSorted fs → ShowsBoth (e ∷ es) fs
    shown_zipped more [] s = at_new [] (eq_by_cmp place_cmp q e.0) (λ t. refl) (more [] refl)
    shown_zipped more (f ∷ fs) s = by (place_cmp e.0 f.0) refl (shown_zipped more fs p.1)
      where
        p : IsAbove f.0 fs × AreSorted fs
        p = and_parts _ _ s

        by : (r : Ordering) → place_cmp e.0 f.0 ≡ r → ShowsBoth (e ∷ es) fs
            → contents_in (match_ordering r (only_new e ∷ together es (f ∷ fs)) (of_both e f ∷ together es fs)
            (only_old f ∷ together (e ∷ es) fs)) ≡ (visible_in (e ∷ es), visible_in (f ∷ fs))
        by Less o rest =
            at_new (f ∷ fs) (eq_by_cmp place_cmp q e.0) (λ t. none_visible e.0 (f ∷ fs) (above_first e.0 f fs o p.0) t) (more (f ∷ fs) s)
        by Equal o rest = at_both f fs _ _ (ap (λ k. eq_by_cmp place_cmp q k) (place_cmp-IsAntisymmetric e.0 f.0 o)) (more fs p.1)
        by Greater o rest =
            at_old f fs (eq_by_cmp place_cmp q f.0) (λ t. none_visible f.0 (e ∷ es) (above_first f.0 e es (turned e.0 f.0 o) above) t) rest

  shown_together : (es fs : List Placed) → AreSorted es → AreSorted fs → ShowsBoth es fs
  shown_together [] fs s t = shown_olds fs
  shown_together (e ∷ es) fs s t = let p = and_parts _ _ s in shown_zipped e es p.0 (λ gs u. shown_together es gs p.1 u) fs t

-- ---- where that differs

abbrev pub unlike : Contents → Bool
unlike c = not (same_contents c.0 c.1)

passes_unlike : (q : PlaceParts) (o : Option Contents) → passes differ q o ≡ unlike (or_none o)
passes_unlike q None = refl
passes_unlike q (Some c) = refl

pub back_unlike : (q : PlaceParts) (ss : List Shown) → AreSorted ss → IsAmong q (differing ss) → unlike (contents_in q ss) ≡ true
back_unlike q ss sorted a = sym (passes_unlike q (find place_cmp q ss)) ∙ back differ q ss sorted a

-- ---- of two stores

-- For a list in place order that has at each place what both stores show.
module _ (new old : EntryMap) (ss : List Shown) (sorted : AreSorted ss) (each : (q : PlaceParts) → contents_in q ss ≡ (visible_at new q, visible_at old q)) where
  pub list_ascends : IsStrictlySortedBy place_cmp (differing ss)
  list_ascends = passing_ascends differ ss sorted

  pub list_exact : (q : PlaceParts) → IsAmong q (differing ss) ↔ (visible_at new q ≢ visible_at old q)
  list_exact q = (forward, backward)
    where
      forward : IsAmong q (differing ss) → visible_at new q ≢ visible_at old q
      forward a e =
          let differs = sym (ap unlike (each q)) ∙ back_unlike q ss sorted a in
          let same = ap (λ y. not (same_contents (visible_at new q) y)) (sym e) ∙ ap not (same_contents-itself (visible_at new q)) in
          let wrong : false ≡ true = sym same ∙ differs in cc (wrong)

      by : (b : Bool) → same_contents (visible_at new q) (visible_at old q) ≡ b → visible_at new q ≢ visible_at old q → IsAmong q (differing ss)
      by true h n = absurd (n (same_contents-true _ _ h))
      by false h n = there differ q ss (passes_unlike q (find place_cmp q ss) ∙ ap unlike (each q) ∙ ap not h)

      backward : visible_at new q ≢ visible_at old q → IsAmong q (differing ss)
      backward n = by _ refl n

module _ (new old : EntryMap) where
  abbrev both_shown : List Shown
  both_shown = together (finmap.entries new) (finmap.entries old)

  abbrev pub changed_in : List PlaceParts
  changed_in = differing both_shown

  new_sorted : AreSorted (finmap.entries new)
  new_sorted = from_T _ (finmap.entries_sorted new)

  old_sorted : AreSorted (finmap.entries old)
  old_sorted = from_T _ (finmap.entries_sorted old)

  all_sorted : AreSorted both_shown
  all_sorted = sorted_together (finmap.entries new) (finmap.entries old) new_sorted old_sorted

  contents_there : (q : PlaceParts) → contents_in q both_shown ≡ (visible_at new q, visible_at old q)
  contents_there q =
      shown_together q (finmap.entries new) (finmap.entries old) new_sorted old_sorted
      ∙ (λ i. (option_and_then shown (sym (found_entry new q) i), option_and_then shown (sym (found_entry old q) i)))

  pub changed_ascends : IsStrictlySortedBy place_cmp changed_in
  changed_ascends = list_ascends new old both_shown all_sorted contents_there

  pub changed_exact : (q : PlaceParts) → IsAmong q changed_in ↔ (visible_at new q ≢ visible_at old q)
  changed_exact = list_exact new old both_shown all_sorted contents_there

  pub nothing_changed : ((q : PlaceParts) → visible_at new q ≡ visible_at old q) → changed_in ≡ []
  nothing_changed same = none_among changed_in (λ q a. (changed_exact q).0 a (same q))
