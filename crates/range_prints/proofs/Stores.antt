-- Versions of stores.
use Rattle.std.proofs.Common.{◌&&◌, ◌∷◌, ◌≡◌}
use Rattle.std.specs.FinMap as finmap
use Rattle.range_prints.proofs.Prelude.{[], ap, below_all, digest_of, Entry, EntryMap, find, from_T, is_lt, is_sorted, IsTrue, List, map, place_cmp, place_cmp-IsAntisymmetric, place_cmp_total, PlaceParts, refl, same_map, subst, sym, to_T, Version, VersionMap, ◌∙◌}
use Rattle.range_prints.specs.Ranges.{versions_of}

-- an entry's version at its place
abbrev pub version_at : PlaceParts × Entry → PlaceParts × Version
version_at p = (p.0, p.1.version)

below_same : (q : PlaceParts) (es : List (PlaceParts × Entry)) → below_all place_cmp q (map version_at es) ≡ below_all place_cmp q es
below_same q [] = refl
below_same q (e ∷ es) = ap (λ b. is_lt (place_cmp q e.0) && b) (below_same q es)

sorted_same : (es : List (PlaceParts × Entry)) → is_sorted place_cmp (map version_at es) ≡ is_sorted place_cmp es
sorted_same [] = refl
sorted_same (e ∷ es) = λ i. below_same e.0 es i && sorted_same es i

-- the versions of a store are those of its entries
pub versions_are : (s : EntryMap) → versions_of s ≡ map version_at (finmap.entries s)
versions_are s =
    let es : List (PlaceParts × Version) = map version_at (finmap.entries s) in
    let ascend : IsTrue (is_sorted place_cmp es) = sorted_same (finmap.entries s) ∙ from_T _ (finmap.entries_sorted s) in
    let same : digest_of s ≡ finmap.from_sorted es =
    same_map place_cmp_total place_cmp-IsAntisymmetric (digest_of s) (finmap.from_sorted es) (λ q.
    finmap.get-from_entries place_cmp_total es q ∙ sym (finmap.get-from_sorted place_cmp es q (to_T _ ascend))) in
    ap (λ (m : VersionMap). finmap.entries m) same ∙ finmap.entries-from_sorted place_cmp es (to_T _ ascend)

-- and ascend
pub versions_ascend : (s : EntryMap) → IsTrue (is_sorted place_cmp (versions_of s))
versions_ascend s = from_T _ (finmap.entries_sorted (digest_of s))
