-- The merge of a host's own and the fleet's is in ascending order, and has at each path what both show.
use Rattle.std.proofs.Common.{◌∷◌, ◌≡◌}
use Rattle.host_trees.proofs.Prelude.{[], and_parts, ap, Merged, merged, Bool, cond, Content, Contents, eq_by_cmp, Equal, false, find, first_merged, Greater, is_less, is_lt, IsTrue, Less, List, map, match_ordering, None, of_both, only_fleets, only_own, Option, Ordering, ordering_reverse, path_cmp, path_cmp-IsAntisymmetric, path_cmp_total, PathParts, refl, Seen, Some, subst, sym, true, ◌∙◌}
use Rattle.host_trees.proofs.Sorted.{AreSorted, both, IsAbove, none_found}

above_less : {X : Type 0} (k l : PathParts) (es : List (PathParts × X)) → path_cmp k l ≡ Less → IsAbove l es → IsAbove k es
above_less k l [] less h = refl
above_less k l (e ∷ es) less h =
    let p = and_parts _ _ h in
    both _ _ (ap is_lt (path_cmp_total.trans k l e.0 less (is_less _ p.0))) (above_less k l es less p.1)

above_first : {X : Type 0} (k : PathParts) (e : PathParts × X) (es : List (PathParts × X))
    → path_cmp k e.0 ≡ Less → IsAbove e.0 es → IsAbove k (e ∷ es)
above_first k e es less h = both _ _ (ap is_lt less) (above_less k e.0 es less h)

turned : (k l : PathParts) → path_cmp k l ≡ Greater → path_cmp l k ≡ Less
turned k l h = path_cmp_total.antisymm l k ∙ ap ordering_reverse h

-- ---- the list is in ascending order

above_fleets : (k : PathParts) (fs : List Seen) → IsAbove k fs → IsAbove k (map only_fleets fs)
above_fleets k [] h = refl
above_fleets k (f ∷ fs) h = let p = and_parts _ _ h in both _ _ p.0 (above_fleets k fs p.1)

above_step : (k : PathParts) (e : Seen) (rest : List Seen → List Merged)
    → ((fs : List Seen) → IsAbove k fs → IsAbove k (rest fs)) → IsTrue (is_lt (path_cmp k e.0))
    → (fs : List Seen) → IsAbove k fs → IsAbove k (first_merged e rest fs)
above_step k e rest more less [] h = both _ _ less (more [] refl)
above_step k e rest more less (f ∷ fs) h = by (path_cmp e.0 f.0) (above_step k e rest more less fs (and_parts _ _ h).1)
  where
    by : (r : Ordering) → IsAbove k (first_merged e rest fs)
        → IsAbove k (match_ordering r (only_own e ∷ rest (f ∷ fs)) (of_both e f ∷ rest fs) (only_fleets f ∷ first_merged e rest fs))
    by Less a = both _ _ less (more (f ∷ fs) h)
    by Equal a = both _ _ less (more fs (and_parts _ _ h).1)
    by Greater a = both _ _ (and_parts _ _ h).0 a

above_merged : (k : PathParts) (es fs : List Seen) → IsAbove k es → IsAbove k fs → IsAbove k (merged es fs)
above_merged k [] fs a b = above_fleets k fs b
above_merged k (e ∷ es) fs a b =
    let p = and_parts _ _ a in
    above_step k e (merged es) (λ gs c. above_merged k es gs p.1 c) p.0 fs b

sorted_fleets : (fs : List Seen) → AreSorted fs → AreSorted (map only_fleets fs)
sorted_fleets [] s = refl
sorted_fleets (f ∷ fs) s = let p = and_parts _ _ s in both _ _ (above_fleets f.0 fs p.0) (sorted_fleets fs p.1)

module _ (e : Seen) (es : List Seen) (above : IsAbove e.0 es) where
  sorted_step : ((fs : List Seen) → AreSorted fs → AreSorted (merged es fs))
      → (fs : List Seen) → AreSorted fs → AreSorted (merged (e ∷ es) fs)
  sorted_step more [] s = both _ _ (above_merged e.0 es [] above refl) (more [] refl)
  sorted_step more (f ∷ fs) s = by (path_cmp e.0 f.0) refl (sorted_step more fs p.1)
    where
      p : IsAbove f.0 fs × AreSorted fs
      p = and_parts _ _ s

      by : (r : Ordering) → path_cmp e.0 f.0 ≡ r → AreSorted (merged (e ∷ es) fs)
          → AreSorted (match_ordering r (only_own e ∷ merged es (f ∷ fs)) (of_both e f ∷ merged es fs)
          (only_fleets f ∷ merged (e ∷ es) fs))
      by Less o rest = both _ _ (above_merged e.0 es (f ∷ fs) above (above_first e.0 f fs o p.0)) (more (f ∷ fs) s)
      by Equal o rest =
          let here = path_cmp-IsAntisymmetric e.0 f.0 o in
          both _ _ (above_merged e.0 es fs above (subst (λ k. IsAbove k fs) (sym here) p.0)) (more fs p.1)
      by Greater o rest = both _ _ (above_merged f.0 (e ∷ es) fs (above_first f.0 e es (turned e.0 f.0 o) above) p.0) rest

pub sorted_merged : (es fs : List Seen) → AreSorted es → AreSorted fs → AreSorted (merged es fs)
sorted_merged [] fs s t = sorted_fleets fs t
sorted_merged (e ∷ es) fs s t = let p = and_parts _ _ s in sorted_step e es p.0 (λ gs u. sorted_merged es gs p.1 u) fs t

-- ---- at each path it has what both show

abbrev pub or_neither : Option Contents → Contents
or_neither None = (None, None)
or_neither (Some c) = c

module _ (q : PathParts) where
  abbrev pub contents_in : List Merged → Contents
  contents_in bs = or_neither (find path_cmp q bs)

  -- The list has what each of the two shows there.
  abbrev ShowsBoth : List Seen → List Seen → Type 0
  ShowsBoth es fs = contents_in (merged es fs) ≡ (find path_cmp q es, find path_cmp q fs)

  shown_fleets : (fs : List Seen) → contents_in (map only_fleets fs) ≡ (None, find path_cmp q fs)
  shown_fleets [] = refl
  shown_fleets (f ∷ fs) =
      elim (eq_by_cmp path_cmp q f.0) as (λ b. or_neither (cond b (Some (None, Some f.1)) (find path_cmp q (map only_fleets fs)))
      ≡ (None, cond b (Some f.1) (find path_cmp q fs))) [
        | true ↦ refl
        | false ↦ shown_fleets fs
      ]

  module _ (e : Seen) (es : List Seen) (above : IsAbove e.0 es) where
    at_both : (f : Seen) (fs : List Seen) (b c : Bool) → b ≡ c → ShowsBoth es fs
        → or_neither (cond b (Some (Some e.1, Some f.1)) (find path_cmp q (merged es fs)))
        ≡ (cond b (Some e.1) (find path_cmp q es), cond c (Some f.1) (find path_cmp q fs))
    at_both f fs true true h rest = refl
    at_both f fs true false h rest = cc (h)
    at_both f fs false true h rest = cc (h)
    at_both f fs false false h rest = rest

    at_own : (fs : List Seen) (b : Bool) → (b ≡ true → None ≡ find path_cmp q fs) → ShowsBoth es fs
        → or_neither (cond b (Some (Some e.1, None)) (find path_cmp q (merged es fs)))
        ≡ (cond b (Some e.1) (find path_cmp q es), find path_cmp q fs)
    at_own fs true none rest = ap (λ (y : Option Content). (Some e.1, y)) (none refl)
    at_own fs false none rest = rest

    at_fleets : (f : Seen) (fs : List Seen) (b : Bool) → (b ≡ true → None ≡ find path_cmp q (e ∷ es)) → ShowsBoth (e ∷ es) fs
        → or_neither (cond b (Some (None, Some f.1)) (find path_cmp q (merged (e ∷ es) fs)))
        ≡ (find path_cmp q (e ∷ es), cond b (Some f.1) (find path_cmp q fs))
    at_fleets f fs true none rest = ap (λ (y : Option Content). (y, Some f.1)) (none refl)
    at_fleets f fs false none rest = rest

    shown_step : ((fs : List Seen) → AreSorted fs → ShowsBoth es fs) → (fs : List Seen) → AreSorted fs → ShowsBoth (e ∷ es) fs
    shown_step more [] s = at_own [] (eq_by_cmp path_cmp q e.0) (λ t. refl) (more [] refl)
    shown_step more (f ∷ fs) s = by (path_cmp e.0 f.0) refl (shown_step more fs p.1)
      where
        p : IsAbove f.0 fs × AreSorted fs
        p = and_parts _ _ s

        by : (r : Ordering) → path_cmp e.0 f.0 ≡ r → ShowsBoth (e ∷ es) fs
            → contents_in (match_ordering r (only_own e ∷ merged es (f ∷ fs)) (of_both e f ∷ merged es fs)
            (only_fleets f ∷ merged (e ∷ es) fs)) ≡ (find path_cmp q (e ∷ es), find path_cmp q (f ∷ fs))
        by Less o rest =
            at_own (f ∷ fs) (eq_by_cmp path_cmp q e.0) (λ t. sym (none_found q e.0 (f ∷ fs) (above_first e.0 f fs o p.0) t)) (more (f ∷ fs) s)
        by Equal o rest = at_both f fs _ _ (ap (λ k. eq_by_cmp path_cmp q k) (path_cmp-IsAntisymmetric e.0 f.0 o)) (more fs p.1)
        by Greater o rest =
            at_fleets f fs (eq_by_cmp path_cmp q f.0) (λ t. sym (none_found q f.0 (e ∷ es) (above_first f.0 e es (turned e.0 f.0 o) above) t)) rest

  pub shown_merged : (es fs : List Seen) → AreSorted es → AreSorted fs → ShowsBoth es fs
  shown_merged [] fs s t = shown_fleets fs
  shown_merged (e ∷ es) fs s t = let p = and_parts _ _ s in shown_step e es p.0 (λ gs u. shown_merged es gs p.1 u) fs t
