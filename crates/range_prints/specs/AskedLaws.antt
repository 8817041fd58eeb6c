-- Asks that are told of a range alone.
use Rattle.std.proofs.Common.{◌&&◌, ◌∷◌, ◌≡◌}
use Rattle.std.specs.FinMap as finmap
use Rattle.range_prints.specs.Prelude.{[], ap, Bool, cond, digest_of, Entry, EntryMap, eq_by_cmp, false, find, get-cut, is_asked, is_newer, is_wanted, List, None, Option, passed, place_cmp, place_cmp_total, PlaceParts, refl, same_store, Some, sym, tied, true, Version, ◌∙◌}
use Rattle.range_prints.specs.{Asked.{digest_within, IsSameCut}, Ranges.{is_within, those, within}}
use Rattle.range_prints.specs.declared.ranges.Range.{Range}

-- what is found among those that pass a test
pub find-those : (test : PlaceParts → Bool) (q : PlaceParts) (vs : List (PlaceParts × Version)) → test q ≡ true
    → find place_cmp q (those test vs) ≡ find place_cmp q vs
find-those test q [] t = refl
find-those test q (v ∷ vs) t = elim (test v.0) as (λ b. test v.0 ≡ b → find place_cmp q (cond b (v ∷ those test vs) (those test vs)) ≡ cond (eq_by_cmp place_cmp q v.0) (Some v.1) (find place_cmp q vs)) [
  | true ↦ λ e. ap (cond (eq_by_cmp place_cmp q v.0) (Some v.1)) (find-those test q vs t)
  | false ↦ λ e. find-those test q vs t ∙ elim (eq_by_cmp place_cmp q v.0) as (λ b. eq_by_cmp place_cmp q v.0 ≡ b → find place_cmp q vs ≡ cond b (Some v.1) (find place_cmp q vs)) [
    | true ↦ λ same. let other : test v.0 ≡ true = sym (ap test (tied q v.0 same)) ∙ t in cc
    | false ↦ λ other. refl
  ] refl
] refl

-- the part of an ask has the same version at a place of the range
pub told : (r : Range) (s : EntryMap) (q : PlaceParts) → is_within r q ≡ true
    → finmap.get (digest_within r s) q ≡ finmap.get (digest_of s) q
told r s q t =
    finmap.get-from_entries place_cmp_total (within r (finmap.entries (digest_of s))) q
    ∙ find-those (is_within r) q (finmap.entries (digest_of s)) t
    ∙ sym (finmap.get-entries (digest_of s) q)

pub same_cut : (r : Range) (s t : EntryMap) (ps : List PlaceParts) → IsSameCut r s t ps
same_cut r s t ps here = same_store _ _ (λ q. get-cut t (digest_within r s) (Some ps) q ∙ at q (finmap.get t q) ∙ sym (get-cut t (digest_of s) (Some ps) q))
  where
    at : (q : PlaceParts) (y : Option Entry)
        → passed (is_wanted (digest_within r s) (Some ps)) q y ≡ passed (is_wanted (digest_of s) (Some ps)) q y
    at q None = refl
    at q (Some x) = by (is_asked q (Some ps)) refl
      where
        by : (b : Bool) → is_asked q (Some ps) ≡ b
            → cond (is_asked q (Some ps) && is_newer x.version (finmap.get (digest_within r s) q)) (Some x) None
            ≡ cond (is_asked q (Some ps) && is_newer x.version (finmap.get (digest_of s) q)) (Some x) None
        by true e = ap (λ v. cond (is_asked q (Some ps) && is_newer x.version v) (Some x) None) (told r s q (here q e))
        by false e = ap (λ b. cond (b && is_newer x.version (finmap.get (digest_within r s) q)) (Some x) None) e ∙ sym (ap (λ b. cond (b && is_newer x.version (finmap.get (digest_of s) q)) (Some x) None) e)
