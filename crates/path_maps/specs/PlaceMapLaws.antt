-- What the map from places to entries holds, and what joins of nested maps are in it.
use Rattle.std.proofs.Common.{◌&&◌, ◌↔◌, ◌∷◌, ◌≡◌}
use Rattle.path_maps.specs.Prelude.{[], ap, below_all, cond, find, get-join, is_eq, is_lt, is_sorted, IsBelow, IsBetween, IsJoin, IsStoreBelow, IsTrue, join, larger, Less, level_below, level_between, level_bounds, level_join, List, nat_cmp, nat_cmp_total, None, Option, option_and_then, or_empty, ordering_then, path_cmp, PathParts, place_cmp, place_cmp-IsAntisymmetric, PlaceParts, refl, same_store, Scope, scope_cmp, scope_cmp-IsAntisymmetric, scope_cmp_total, Some, subst, sym, tied_itself, to_T, ◌∙◌}
use Rattle.path_maps.specs.{PathMapLaws.{all_well_formed, find-listed, folders_chain, folders_itself, folders_joins, folders_union, found_well_formed, listed_sorted, look_up_below, look_up_between, look_up_bounds, look_up_join}, PathMaps.{AreRanks, FoldersBelow, listed, look_up, RankMap, RanksBelow}, PlaceMaps.{all_held, all_listed, AreScopes, in_scope, look_up_place, placed, ranks_of, ScopeMap, ScopesBelow}, Scopes.{within}, Spread.{AllKeys, AllValues}, SpreadLaws.{find-spread, sorted-spread}}
use Rattle.std.specs.FinMap as finmap

-- ---- in one scope places are ordered as their paths

pub same_scope : (s : Scope) (p q : PathParts) → place_cmp (within s p) (within s q) ≡ path_cmp p q
same_scope s p q = ap (λ r. ordering_then r (path_cmp p q)) (tied_itself scope_cmp_total s)

abbrev pub IsInScope : Scope → PlaceParts → Type 0
IsInScope s q = q.scope ≡ s

pub of_scope : {E : Type 0} (s : Scope) (es : List (PathParts × E)) → AllKeys (IsInScope s) (placed s es)
of_scope s [] = tt
of_scope s (e ∷ es) = (refl, of_scope s es)

by_scope : (k l : Scope) (a b : PlaceParts) → scope_cmp k l ≡ Less → IsInScope k a → IsInScope l b → place_cmp a b ≡ Less
by_scope k l a b less p q =
    (λ i. ordering_then (scope_cmp (p i) (q i)) (path_cmp a.path b.path)) ∙ ap (λ r. ordering_then r (path_cmp a.path b.path)) less

below_within : {E : Type 0} (s : Scope) (p : PathParts) (es : List (PathParts × E))
    → below_all place_cmp (within s p) (placed s es) ≡ below_all path_cmp p es
below_within s p [] = refl
below_within s p (e ∷ es) = (λ i. is_lt (same_scope s p e.0 i) && below_within s p es i)

sorted_within : {E : Type 0} (s : Scope) (es : List (PathParts × E)) → is_sorted place_cmp (placed s es) ≡ is_sorted path_cmp es
sorted_within s [] = refl
sorted_within s (e ∷ es) = (λ i. below_within s e.0 es i && sorted_within s es i)

find-within : {E : Type 0} (s : Scope) (p : PathParts) (es : List (PathParts × E))
    → find place_cmp (within s p) (placed s es) ≡ find path_cmp p es
find-within s p [] = refl
find-within s p (e ∷ es) = (λ i. cond (is_eq (same_scope s p e.0 i)) (Some e.1) (find-within s p es i))

-- ---- all places are in ascending order

ranks_sorted : (m : ScopeMap) → AllValues AreRanks m → AllValues (λ ranks. IsTrue (is_sorted path_cmp (listed ranks))) m
ranks_sorted [] h = tt
ranks_sorted (e ∷ es) h = (listed_sorted e.1 h.0, ranks_sorted es h.1)

pub all_sorted : (m : ScopeMap) → AreScopes m → IsTrue (is_sorted place_cmp (all_listed m))
all_sorted m is =
    sorted-spread scope_cmp place_cmp IsInScope in_scope (λ k v. of_scope k (listed v)) (λ v. IsTrue (is_sorted path_cmp (listed v))) by_scope
    (λ k v is. subst (λ b. IsTrue b) (sym (sorted_within k (listed v))) is) m is.sorted (ranks_sorted m (all_well_formed RanksBelow AreRanks m is.held))

-- The entries of the map, in place order.
pub entries-held : (m : ScopeMap) → AreScopes m → finmap.entries (all_held m) ≡ all_listed m
entries-held m is = finmap.entries-from_sorted place_cmp (all_listed m) (to_T _ (all_sorted m is))

-- ---- what is found there

-- What a scope has is in order.
pub scope_well_formed : (m : ScopeMap) → AreScopes m → (scope : Scope) → AreRanks (ranks_of m scope)
scope_well_formed m is scope = by (find scope_cmp scope m) refl
  where
    by : (o : Option RankMap) → find scope_cmp scope m ≡ o → AreRanks (or_empty o)
    by None e = record { sorted = refl; held = tt }
    by (Some ranks) e = found_well_formed scope_cmp RanksBelow AreRanks scope m is.held ranks e

find-all : (m : ScopeMap) → AreScopes m → (q : PlaceParts) → find place_cmp q (all_listed m) ≡ look_up_place m q
find-all m is q =
    find-spread scope_cmp place_cmp IsInScope in_scope (λ k v. of_scope k (listed v)) scope_cmp_total scope_cmp-IsAntisymmetric place_cmp-IsAntisymmetric q q.scope (λ l at. sym at) m is.sorted
    ∙ by (find scope_cmp q.scope m) refl
  where
    by : (o : Option RankMap) → find scope_cmp q.scope m ≡ o
        → option_and_then (λ v. find place_cmp q (in_scope q.scope v)) o ≡ look_up (or_empty o) q.path
    by None e = refl
    by (Some ranks) e = find-within q.scope q.path (listed ranks) ∙ find-listed ranks (found_well_formed scope_cmp RanksBelow AreRanks q.scope m is.held ranks e) q.path

-- The map holds at a place what the look-ups find.
pub get-held : (m : ScopeMap) → AreScopes m → (q : PlaceParts) → finmap.get (all_held m) q ≡ look_up_place m q
get-held m is q = finmap.get-from_sorted place_cmp (all_listed m) q (to_T _ (all_sorted m is)) ∙ find-all m is q

-- ---- joins, and what lies between

look_up_place_below : (a b : ScopeMap) → ScopesBelow a b → (q : PlaceParts) → IsBelow (look_up_place a q) (look_up_place b q)
look_up_place_below a b h q =
    look_up_below _ _ (level_below scope_cmp scope_cmp_total nat_cmp nat_cmp_total FoldersBelow folders_itself folders_chain q.scope a b h) q.path

look_up_place_join : (a b c : ScopeMap) → IsJoin ScopesBelow a b c → (q : PlaceParts)
    → look_up_place c q ≡ larger (look_up_place a q) (look_up_place b q)
look_up_place_join a b c j q =
    look_up_join _ _ _ (level_join scope_cmp scope_cmp_total nat_cmp nat_cmp_total FoldersBelow folders_itself folders_chain q.scope a b c j) q.path

look_up_place_between : (a b v : ScopeMap) → IsBetween ScopesBelow a b v → (q : PlaceParts)
    → IsBelow (look_up_place v q) (larger (look_up_place a q) (look_up_place b q))
look_up_place_between a b v j q =
    look_up_between _ _ _ (level_between scope_cmp scope_cmp_total nat_cmp nat_cmp_total FoldersBelow folders_itself folders_chain q.scope folders_union folders_joins a b v j) q.path

look_up_place_bounds : (a b v r : ScopeMap)
    → ((z : ScopeMap) → (ScopesBelow v z × ScopesBelow r z) ↔ (ScopesBelow a z × ScopesBelow b z)) → (q : PlaceParts)
    → larger (look_up_place v q) (look_up_place r q) ≡ larger (look_up_place a q) (look_up_place b q)
look_up_place_bounds a b v r h q =
    look_up_bounds _ _ _ _ (level_bounds scope_cmp scope_cmp_total nat_cmp nat_cmp_total FoldersBelow folders_itself folders_chain q.scope folders_union folders_joins a b v r h) q.path

module _ (a b v : ScopeMap) (is_a : AreScopes a) (is_b : AreScopes b) (is_v : AreScopes v) where
  -- A join of nested maps is the join of the stores.
  pub held-join : IsJoin ScopesBelow a b v → all_held v ≡ join (all_held a) (all_held b)
  held-join j = same_store (all_held v) (join (all_held a) (all_held b))
      (λ q. get-held v is_v q ∙ look_up_place_join a b v j q ∙ (λ i. larger (sym (get-held a is_a q) i) (sym (get-held b is_b q) i)) ∙ sym (get-join (all_held a) (all_held b) q))

  -- Nested maps that lie between are stores that lie between.
  pub held-below : ScopesBelow a v → IsStoreBelow (all_held a) (all_held v)
  held-below h q =
      subst (λ x. IsBelow x (finmap.get (all_held v) q)) (sym (get-held a is_a q))
      (subst (λ y. IsBelow (look_up_place a q) y) (sym (get-held v is_v q)) (look_up_place_below a v h q))

  pub held-between : IsBetween ScopesBelow a b v → IsStoreBelow (all_held v) (join (all_held a) (all_held b))
  held-between j q =
      subst (λ x. IsBelow x (finmap.get (join (all_held a) (all_held b)) q)) (sym (get-held v is_v q))
      (subst (λ y. IsBelow (look_up_place v q) y) ((λ i. larger (sym (get-held a is_a q) i) (sym (get-held b is_b q) i)) ∙ sym (get-join (all_held a) (all_held b) q)) (look_up_place_between a b v j q))

  -- Joining what is left gives the join.
  pub held-rest : (r : ScopeMap) → AreScopes r
      → ((z : ScopeMap) → (ScopesBelow v z × ScopesBelow r z) ↔ (ScopesBelow a z × ScopesBelow b z))
      → join (all_held v) (all_held r) ≡ join (all_held a) (all_held b)
  held-rest r is_r h = same_store (join (all_held v) (all_held r)) (join (all_held a) (all_held b))
      (λ q. get-join (all_held v) (all_held r) q ∙ (λ i. larger (get-held v is_v q i) (get-held r is_r q i)) ∙ look_up_place_bounds a b v r h q
      ∙ (λ i. larger (sym (get-held a is_a q) i) (sym (get-held b is_b q) i)) ∙ sym (get-join (all_held a) (all_held b) q))
