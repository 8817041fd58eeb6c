-- Digests and pieces as maps.
use Rattle.std.{proofs.Common.{◌++◌, ◌==◌, ◌↔◌, ◌∷◌, ◌≡◌, ◌≤◌}, specs.FinMap.{find, is_sorted}}
use Rattle.delta_pieces.proofs.Prelude.{[], ap, arith, Bool, cond, cut, digest_of, drop, Edit, edit_of, Entry, EntryMap, false, filter, is_newer, is_wanted, IsTrue, join, length, length-drop, List, map, map-append, nat_tests, None, place_cmp, place_cmp-IsAntisymmetric, place_cmp_total, PlaceParts, refl, same_map, sum_of, sum_of-edits_of, sym, take, take-append-drop, to_T, true, Version, VersionMap, ℕ, ◌∙◌}
use Rattle.std.specs.FinMap as finmap

-- the map of sorted versions
abbrev pub versions_map : List (PlaceParts × Version) → VersionMap
versions_map ps = finmap.from_sorted ps

pub get-versions : (ps : List (PlaceParts × Version)) (q : PlaceParts) → IsTrue (is_sorted place_cmp ps) → finmap.get (versions_map ps) q ≡ find place_cmp q ps
get-versions ps q s = finmap.get-from_sorted place_cmp ps q (to_T _ s)

pub entries-versions : (ps : List (PlaceParts × Version)) → IsTrue (is_sorted place_cmp ps) → finmap.entries (versions_map ps) ≡ ps
entries-versions ps s = finmap.entries-from_sorted place_cmp ps (to_T _ s)

pub no_versions : versions_map [] ≡ finmap.empty
no_versions = finmap.empty_of_len _ (finmap.len-entries _ ∙ ap length (finmap.entries-from_sorted place_cmp [] tt))

-- the versions of a store's entries are its digest
pub versions_are_digest : (d : VersionMap) (s : EntryMap) → finmap.entries d ≡ map (λ p. (p.0, p.1.version)) (finmap.entries s) → d ≡ digest_of s
versions_are_digest d s is =
    same_map place_cmp_total place_cmp-IsAntisymmetric d (digest_of s) (λ q.
    finmap.get-entries d q ∙ ap (find place_cmp q) is ∙ sym (finmap.get-from_entries place_cmp_total (map (λ p. (p.0, p.1.version)) (finmap.entries s)) q))

-- filtering entries filters their edits
filter_edits : (p : Edit → Bool) (es : List (PlaceParts × Entry)) → map edit_of (filter (λ e. p (edit_of e)) es) ≡ filter p (map edit_of es)
filter_edits p [] = refl
filter_edits p (e ∷ es) =
    elim (p (edit_of e)) as (λ b. map edit_of (cond b (e ∷ filter (λ x. p (edit_of x)) es) (filter (λ x. p (edit_of x)) es)) ≡ cond b (edit_of e ∷ filter p (map edit_of es)) (filter p (map edit_of es))) [
      | true ↦ ap (λ (l : List Edit). edit_of e ∷ l) (filter_edits p es)
      | false ↦ filter_edits p es
    ]

-- the first entries joined with the others are all of them
pub parts_are_whole : (n : ℕ) (first second s : EntryMap) → finmap.entries first ≡ take n (finmap.entries s) → finmap.entries second ≡ drop n (finmap.entries s) → join first second ≡ s
parts_are_whole n first second s f g =
    (λ i. sum_of (map edit_of (f i) ++ map edit_of (g i))) ∙
    ap sum_of (sym (map-append edit_of (take n (finmap.entries s)) (drop n (finmap.entries s))) ∙ ap (map edit_of) (take-append-drop n (finmap.entries s))) ∙
    sum_of-edits_of s

-- sorted entries are the entries of their sum
pub entries-sum_of : (es : List (PlaceParts × Entry)) → IsTrue (is_sorted place_cmp es) → finmap.entries (sum_of (map edit_of es)) ≡ es
entries-sum_of es s =
    let there : finmap.entries (finmap.from_sorted es) ≡ es = finmap.entries-from_sorted place_cmp es (to_T _ s) in
    ap (λ l. finmap.entries (sum_of (map edit_of l))) (sym there) ∙ ap finmap.entries (sum_of-edits_of (finmap.from_sorted es)) ∙ there

-- the sum of the newer entries is the cut
pub news_is_cut : (s : EntryMap) (d : VersionMap) → sum_of (map edit_of (filter (λ p. is_newer p.1.version (finmap.get d p.0)) (finmap.entries s))) ≡ cut s d None
news_is_cut s d = ap sum_of (filter_edits (is_wanted d None) (finmap.entries s))

pub newer_is_cut : (s : EntryMap) (d : VersionMap) (es : List (PlaceParts × Entry)) (vs : List (PlaceParts × Version)) → es ≡ finmap.entries s → vs ≡ finmap.entries d → sum_of (map edit_of (filter (λ p. is_newer p.1.version (find place_cmp p.0 vs)) es)) ≡ cut s d None
newer_is_cut s d es vs held asked =
    (λ i. sum_of (map edit_of (filter (λ (p : PlaceParts × Entry). is_newer p.1.version (find place_cmp p.0 (asked i))) (held i))))
    ∙ (λ i. sum_of (map edit_of (filter (λ (p : PlaceParts × Entry). is_newer p.1.version (sym (finmap.get-entries d p.0) i)) (finmap.entries s))))
    ∙ news_is_cut s d

-- dropping entries leaves no more than there were
pub all_left : (n : ℕ) (es : List (PlaceParts × Entry)) (m : ℕ) → m ≡ length es → length (drop n es) ≤ m
all_left n es m all = let left = length-drop n es in omega (arith, left, all)

pub empty_test : (n : ℕ) (es : List (PlaceParts × Entry)) → n ≡ length es → IsTrue (n == 0) ↔ (es ≡ [])
empty_test n [] h = (λ t. refl, λ e. ap (λ k. k == 0) h)
empty_test n (e ∷ es) h = (λ t. absurd (some t), λ e. cc (e))
  where
    some : IsTrue (n == 0) → ⊥
    some t = let zero : n ≡ 0 = grind (arith, nat_tests) in omega (arith, zero, h)
