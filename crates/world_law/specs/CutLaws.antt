-- What asks and cuts hold at a place.
use Rattle.std.proofs.Common.{◌++◌, ◌∷◌, ◌≡◌}
use Rattle.world_law.specs.Prelude.{[], ap, below_refl, Bool, cond, content_cmp, Edit, edit_of, edits_of, edits_of-found, Entry, entry_of, EntryMap, eq_by_cmp, Equal, false, find, get-join, get-sum_of, Greater, greatest_at, greatest_at-filter, is_gt, IsAmong-append_left, IsAmong-append_right, IsBelow, IsHonest, join, larger, larger-absorb, Less, List, map, None, Option, option_map, ordering_then, passed, passed_was, place_cmp, place_cmp_total, PlaceParts, refl, same_store, Some, subst, sym, tied, true, version_cmp, version_cmp-IsAntisymmetric, ◌∙◌}
use Rattle.world_law.specs.Cuts.{AreToldApart, at_places, cut, digest_of, is_asked, is_newer, is_wanted, only_at, VersionMap}
use Rattle.std.specs.FinMap as finmap

-- honest edits are told apart
pub honest_are_told_apart : (es : List Edit) → IsHonest es → AreToldApart es
honest_are_told_apart es honest e f a b here same = honest e f a b same

pub get-cut : (s : EntryMap) (ask : VersionMap) (places : Option (List PlaceParts)) (q : PlaceParts)
    → finmap.get (cut s ask places) q ≡ passed (is_wanted ask places) q (finmap.get s q)
get-cut s ask places q = get-sum_of _ q ∙ greatest_at-filter (is_wanted ask places) q s

find_versions : (q : PlaceParts) (es : List (PlaceParts × Entry))
    → find place_cmp q (map (λ p. (p.0, p.1.version)) es) ≡ option_map (λ x. x.version) (find place_cmp q es)
find_versions q [] = refl
find_versions q (e ∷ es) =
    ap (cond (eq_by_cmp place_cmp q e.0) (Some e.1.version)) (find_versions q es) ∙
    elim (eq_by_cmp place_cmp q e.0) as (λ b. cond b (Some e.1.version) (option_map (λ x. x.version) (find place_cmp q es)) ≡ option_map (λ x. x.version) (cond b (Some e.1) (find place_cmp q es))) [ true ↦ refl | false ↦ refl ]

pub get-digest_of : (s : EntryMap) (q : PlaceParts) → finmap.get (digest_of s) q ≡ option_map (λ x. x.version) (finmap.get s q)
get-digest_of s q =
    finmap.get-from_entries place_cmp_total (map (λ p. (p.0, p.1.version)) (finmap.entries s)) q ∙ find_versions q (finmap.entries s) ∙
    ap (option_map (λ x. x.version)) (sym (finmap.get-entries s q))

nothing : (b : Bool) → ◌≡◌ {A = Option Entry} None (cond b None None)
nothing true = refl
nothing false = refl

-- the edits at the places asked for
pub greatest_at-at_places : (places : Option (List PlaceParts)) (q : PlaceParts) (es : List Edit)
    → greatest_at q (at_places places es) ≡ cond (is_asked q places) (greatest_at q es) None
greatest_at-at_places places q [] = nothing (is_asked q places)
greatest_at-at_places places q (e ∷ es) =
    let rest : greatest_at q (at_places places es) ≡ cond (is_asked q places) (greatest_at q es) None = greatest_at-at_places places q es in
    elim (eq_by_cmp place_cmp q e.place) as (λ b. eq_by_cmp place_cmp q e.place ≡ b → greatest_at q (cond (is_asked e.place places) (e ∷ at_places places es) (at_places places es)) ≡ cond (is_asked q places) (cond b (larger (Some (entry_of e)) (greatest_at q es)) (greatest_at q es)) None) [
      | true ↦ λ t.
          let here : q ≡ e.place = tied q e.place t in
          ap (λ (k : PlaceParts). greatest_at q (cond (is_asked k places) (e ∷ at_places places es) (at_places places es))) (sym here) ∙
          elim (is_asked q places) as (λ c. greatest_at q (at_places places es) ≡ cond c (greatest_at q es) None → greatest_at q (cond c (e ∷ at_places places es) (at_places places es)) ≡ cond c (larger (Some (entry_of e)) (greatest_at q es)) None) [
            | true ↦ λ r. ap (λ b. cond b (larger (Some (entry_of e)) (greatest_at q (at_places places es))) (greatest_at q (at_places places es))) t ∙ ap (larger (Some (entry_of e))) r
            | false ↦ λ r. r
          ] rest
      | false ↦ λ t. elim (is_asked e.place places) as (λ c. greatest_at q (cond c (e ∷ at_places places es) (at_places places es)) ≡ greatest_at q (at_places places es)) [
        | true ↦ ap (λ b. cond b (larger (Some (entry_of e)) (greatest_at q (at_places places es))) (greatest_at q (at_places places es))) t
        | false ↦ refl
      ] ∙ rest
    ] refl

-- a cut holds nothing that the store doesn't hold
pub get_from_cut : (s : EntryMap) (ask : VersionMap) (places : Option (List PlaceParts)) (q : PlaceParts) (x : Entry)
    → finmap.get (cut s ask places) q ≡ Some x → finmap.get s q ≡ Some x
get_from_cut s ask places q x h = passed_was (is_wanted ask places) q (finmap.get s q) x (sym (get-cut s ask places q) ∙ h)

-- an entry with no greater version is at most the other, if versions identify edits
pub not_greater : (x y : Entry) → is_gt (version_cmp x.version y.version) ≡ false → (x.version ≡ y.version → x ≡ y)
    → IsBelow (Some x) (Some y)
not_greater x y h same =
    elim (version_cmp x.version y.version) as (λ o. version_cmp x.version y.version ≡ o → is_gt o ≡ false → is_gt (ordering_then o (content_cmp x.content y.content)) ≡ false) [
      | Less ↦ λ e g. refl
      | Equal ↦ λ e g.
          let one : x ≡ y = same (version_cmp-IsAntisymmetric x.version y.version e) in
          let below : IsBelow (Some x) (Some y) = subst (λ (z : Entry). IsBelow (Some x) (Some z)) one (below_refl (Some x)) in
          ap (λ o. is_gt (ordering_then o (content_cmp x.content y.content))) (sym e) ∙ below
      | Greater ↦ λ e g. cc
    ] refl h

-- the same at one place
at_place : (q : PlaceParts) (y z : Option Entry) → ((x v : Entry) → y ≡ Some v → z ≡ Some x → x.version ≡ v.version → x ≡ v) →
    (ask : VersionMap) → finmap.get ask q ≡ option_map (λ x. x.version) y → larger y (passed (is_wanted ask None) q z) ≡ larger y z
at_place q y None honest ask is = refl
at_place q None (Some x) honest ask is = ap (λ o. larger None (cond (is_newer x.version o) (Some x) None)) is
at_place q (Some v) (Some x) honest ask is =
    ap (λ o. larger (Some v) (cond (is_newer x.version o) (Some x) None)) is ∙
    elim (is_gt (version_cmp x.version v.version)) as (λ b. is_gt (version_cmp x.version v.version) ≡ b → larger (Some v) (cond b (Some x) None) ≡ larger (Some v) (Some x)) [
      | true ↦ λ g. refl
      | false ↦ λ g. sym (larger-absorb (Some v) (Some x) (not_greater x v g (λ same. honest x v refl refl same)))
    ] refl

-- Where versions tell edits apart, joining the full answer to one's own ask gives the join of both stores.
pub whole_answer : (a b : EntryMap) → AreToldApart (edits_of a ++ edits_of b) → join a (cut b (digest_of a) None) ≡ join a b
whole_answer a b apart =
    same_store _ _
    (λ q.
    let one : (x v : Entry) → finmap.get a q ≡ Some v → finmap.get b q ≡ Some x → x.version ≡ v.version → x ≡ v =
    λ x v ha hb same. ap entry_of (apart (edit_of (q, x)) (edit_of (q, v)) (IsAmong-append_right (edit_of (q, x)) (edits_of a) (edits_of b) (edits_of-found b q x hb)) (IsAmong-append_left (edit_of (q, v)) (edits_of a) (edits_of b) (edits_of-found a q v ha)) refl same)
    in
    get-join a (cut b (digest_of a) None) q ∙ ap (larger (finmap.get a q)) (get-cut b (digest_of a) None q) ∙
    at_place q (finmap.get a q) (finmap.get b q) one (digest_of a) (get-digest_of a q) ∙ sym (get-join a b q))

-- the part of a store at some places, looked up at one place
pub get-only_at : (places : List PlaceParts) (s : EntryMap) (q : PlaceParts)
    → finmap.get (only_at places s) q ≡ passed (λ e. is_asked e.place (Some places)) q (finmap.get s q)
get-only_at places s q = get-sum_of _ q ∙ greatest_at-filter (λ e. is_asked e.place (Some places)) q s
