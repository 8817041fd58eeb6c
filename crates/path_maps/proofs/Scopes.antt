-- What a scope has is what the store holds there.
use Rattle.std.proofs.Common.{◌≡◌}
use Rattle.path_maps.proofs.Prelude.{all_held, ap, AreScopes, AreWellFormed, Entry, EntryMap, flat, get-flat, get-held, get-scope_of, IsKept, IsSome, Option, path_cmp-IsAntisymmetric, path_cmp_total, PathMap, PlaceParts, ranks_of, Scope, scope_of, scope_well_formed, ScopeMap, subst, sym, within, ℕ, ◌∙◌}
use Rattle.std.specs.FinMap as finmap

pub scope_viewed : (m : ScopeMap) → AreScopes m → (s : EntryMap) → all_held m ≡ s → (scope : Scope) → flat (ranks_of m scope) ≡ scope_of s scope
scope_viewed m is s e scope =
    finmap.same_map path_cmp_total path_cmp-IsAntisymmetric (flat (ranks_of m scope)) (scope_of s scope)
    (λ p. get-flat (ranks_of m scope) (scope_well_formed m is scope) p ∙ sym (get-held m is (within scope p)) ∙ ap (λ (t : EntryMap). finmap.get t (within scope p)) e ∙ sym (get-scope_of scope s p))

pub scope_kept : (m : ScopeMap) (len high : ℕ) → IsKept m len high → (scope : Scope) → AreWellFormed (ranks_of m scope)
scope_kept m len high k scope = record {
  ranks = scope_well_formed m k.scopes scope;
  paths = λ p h. k.counted.paths (within scope p)
      (subst (λ (x : Option Entry). IsSome x) (get-flat (ranks_of m scope) (scope_well_formed m k.scopes scope) p ∙ sym (get-held m k.scopes (within scope p))) h);
}

-- What is held at a place is held in its scope at its path.
pub there : (s : EntryMap) (v : PathMap) (q : PlaceParts) → v ≡ scope_of s q.scope → finmap.get v q.path ≡ finmap.get s q
there s v q is = ap (λ (u : PathMap). finmap.get u q.path) is ∙ get-scope_of q.scope s q.path
