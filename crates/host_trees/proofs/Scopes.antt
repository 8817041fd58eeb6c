-- What entries show of a scope: entry by entry, in ascending order, and at each path what is visible there.
use Rattle.std.proofs.Common.{◌∷◌, ◌≡◌}
use Rattle.host_trees.proofs.Prelude.{[], and_parts, ap, below_all, Bool, cond, cons_option, Content, content_of, Entry, entries_of, EntryMap, eq_by_cmp, false, filter_map, find, from_T, get-scope_of, is_equal, is_lt, is_sorted, IsTrue, List, None, Option, option_and_then, option_map, path_cmp, PathParts, paths_order_a_scope, place_cmp, PlaceParts, refl, Scope, scope_cmp, scope_cmp-IsAntisymmetric, scope_of, Seen, seen_in, seen_of, shown, Some, subst, sym, to_T, true, visible_at, within, ◌∙◌}
use Rattle.host_trees.proofs.Sorted.{AreSorted, both, found_given, IsAbove, sorted_given}
use Rattle.std.specs.FinMap as finmap

abbrev Entries : Type 0
Entries = List (PlaceParts × Entry)

-- ---- entry by entry

abbrev pub seen_first : Option Scope → PlaceParts × Entry → Option Seen
seen_first scope e = option_map (λ c. (e.0.path, c)) (content_of scope e)

pub seen_more : (scope : Option Scope) (e : PlaceParts × Entry) (es : Entries) → seen_in scope (e ∷ es) ≡ cons_option (seen_first scope e) (seen_in scope es)
seen_more None e es = refl
seen_more (Some scope) e es = by (eq_by_cmp scope_cmp scope e.0.scope)
  where
    by : (b : Bool) → filter_map seen_of (cond b ((e.0.path, e.1) ∷ entries_of scope es) (entries_of scope es))
        ≡ cons_option (option_map (λ c. (e.0.path, c)) (cond b (shown e.1) None)) (filter_map seen_of (entries_of scope es))
    by true = refl
    by false = refl

pub seen_passed : (scope : Option Scope) (e : PlaceParts × Entry) (es : Entries) → content_of scope e ≡ None → seen_in scope (e ∷ es) ≡ seen_in scope es
seen_passed scope e es none = seen_more scope e es ∙ ap (λ o. cons_option (option_map (λ c. (e.0.path, c)) o) (seen_in scope es)) none

pub seen_found : (scope : Option Scope) (e : PlaceParts × Entry) (es : Entries) (c : Content) → content_of scope e ≡ Some c
    → seen_in scope (e ∷ es) ≡ (e.0.path, c) ∷ seen_in scope es
seen_found scope e es c is = seen_more scope e es ∙ ap (λ o. cons_option (option_map (λ d. (e.0.path, d)) o) (seen_in scope es)) is

-- ---- in ascending order

module _ (scope : Scope) where
  same : (q : PlaceParts) → eq_by_cmp scope_cmp scope q.scope ≡ true → scope ≡ q.scope
  same q t = scope_cmp-IsAntisymmetric scope q.scope (is_equal _ t)

  same_place : (q : PlaceParts) → eq_by_cmp scope_cmp scope q.scope ≡ true → q ≡ within scope q.path
  same_place q t = ap (λ (x : Scope). within x q.path) (sym (same q t))

  below_of : (p : PathParts) (es : Entries) → IsTrue (below_all place_cmp (within scope p) es) → IsAbove p (entries_of scope es)
  below_of p [] h = refl
  below_of p (e ∷ es) h = by (eq_by_cmp scope_cmp scope e.0.scope) refl (below_of p es parts.1)
    where
      parts : IsTrue (is_lt (place_cmp (within scope p) e.0)) × IsTrue (below_all place_cmp (within scope p) es)
      parts = and_parts _ _ h

      by : (b : Bool) → eq_by_cmp scope_cmp scope e.0.scope ≡ b → IsAbove p (entries_of scope es)
          → IsAbove p (cond b ((e.0.path, e.1) ∷ entries_of scope es) (entries_of scope es))
      by true t rest = both _ _ (ap is_lt (sym (paths_order_a_scope (within scope p) e.0 (same e.0 t))) ∙ parts.0) rest
      by false t rest = rest

  sorted_of : (es : Entries) → IsTrue (is_sorted place_cmp es) → AreSorted (entries_of scope es)
  sorted_of [] h = refl
  sorted_of (e ∷ es) h = by (eq_by_cmp scope_cmp scope e.0.scope) refl (sorted_of es parts.1)
    where
      parts : IsTrue (below_all place_cmp e.0 es) × IsTrue (is_sorted place_cmp es)
      parts = and_parts _ _ h

      by : (b : Bool) → eq_by_cmp scope_cmp scope e.0.scope ≡ b → AreSorted (entries_of scope es)
          → AreSorted (cond b ((e.0.path, e.1) ∷ entries_of scope es) (entries_of scope es))
      by true t rest = both _ _ (below_of e.0.path es (subst (λ (q : PlaceParts). IsTrue (below_all place_cmp q es)) (same_place e.0 t) parts.0)) rest
      by false t rest = rest

  module _ (s : EntryMap) where
    entries_sorted : AreSorted (entries_of scope (finmap.entries s))
    entries_sorted = sorted_of (finmap.entries s) (from_T _ (finmap.entries_sorted s))

    entries_found : (p : PathParts) → find path_cmp p (entries_of scope (finmap.entries s)) ≡ finmap.get s (within scope p)
    unfolding scope_of
    entries_found p = sym (finmap.get-from_sorted path_cmp (entries_of scope (finmap.entries s)) p (to_T _ entries_sorted)) ∙ get-scope_of scope s p

    pub seen_sorted : AreSorted (seen_in (Some scope) (finmap.entries s))
    seen_sorted = sorted_given (λ p. shown) (entries_of scope (finmap.entries s)) entries_sorted

    pub seen_at : (p : PathParts) → find path_cmp p (seen_in (Some scope) (finmap.entries s)) ≡ visible_at s (within scope p)
    seen_at p = found_given (λ p. shown) p (entries_of scope (finmap.entries s)) entries_sorted ∙ ap (option_and_then shown) (entries_found p)
