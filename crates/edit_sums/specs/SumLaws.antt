-- The laws of sums and joins.
use Rattle.std.proofs.Common.{◌++◌, ◌↔◌, ◌∷◌, ◌≡◌}
use Rattle.edit_sums.specs.Prelude.{[], ap, cond, eq_by_cmp, false, IsAmong, List, None, place_cmp, place_cmp-IsAntisymmetric, place_cmp_total, PlaceParts, same_map, Some, subst, sym, true, ◌∙◌}
use Rattle.edit_sums.specs.{declared.entries.Edit.{Edit}, Entries.{IsBelow, larger}, EntryLaws.{below_antisym, below_refl, below_trans, larger-least, larger-left, larger-None, larger-right, larger_assoc, larger_comm, larger_idem}, GreatestLaws.{get-join, get-sum_of, get-with_edit, greatest_at-above, greatest_at-append, greatest_at-edits_of, greatest_at-found, greatest_at-least, greatest_at-mono}, Sums.{edits_of, entry_of, EntryMap, greatest_at, IsAboveEdits, IsStoreBelow, IsSum, join, sum_of, with_edit}}
use Rattle.std.specs.FinMap as finmap

-- stores with the same entry at each place are equal
pub same_store : (s t : EntryMap) → ((q : PlaceParts) → finmap.get s q ≡ finmap.get t q) → s ≡ t
same_store s t is = same_map place_cmp_total place_cmp-IsAntisymmetric s t is

pub store_below_refl : (s : EntryMap) → IsStoreBelow s s
store_below_refl s q = below_refl (finmap.get s q)

pub store_below_trans : (s t u : EntryMap) → IsStoreBelow s t → IsStoreBelow t u → IsStoreBelow s u
store_below_trans s t u h k q = below_trans (finmap.get s q) (finmap.get t q) (finmap.get u q) (h q) (k q)

-- stores that are below each other are equal
pub store_below_antisym : (s t : EntryMap) → IsStoreBelow s t → IsStoreBelow t s → s ≡ t
store_below_antisym s t h k = same_store s t (λ q. below_antisym (finmap.get s q) (finmap.get t q) (h q) (k q))

pub sum_of-append : (xs ys : List Edit) → sum_of (xs ++ ys) ≡ join (sum_of xs) (sum_of ys)
sum_of-append xs ys =
    same_store _ _
    (λ q. get-sum_of (xs ++ ys) q ∙ greatest_at-append q xs ys ∙
    sym (get-join (sum_of xs) (sum_of ys) q ∙ ap (λ y. larger y (finmap.get (sum_of ys) q)) (get-sum_of xs q) ∙ ap (larger (greatest_at q xs)) (get-sum_of ys q)))

-- a sum depends only on the set of edits, not on their order or on repetitions
pub sum_of-same_edits : (xs ys : List Edit) → ((e : Edit) → IsAmong e xs → IsAmong e ys)
    → ((e : Edit) → IsAmong e ys → IsAmong e xs) → sum_of xs ≡ sum_of ys
sum_of-same_edits xs ys there back =
    same_store _ _
    (λ q. get-sum_of xs q ∙ below_antisym _ _ (greatest_at-mono q xs ys there) (greatest_at-mono q ys xs back) ∙ sym (get-sum_of ys q))

pub sum_of-edits_of : (s : EntryMap) → sum_of (edits_of s) ≡ s
sum_of-edits_of s = same_store _ _ (λ q. get-sum_of (edits_of s) q ∙ greatest_at-edits_of q s)

pub join_comm : (s t : EntryMap) → join s t ≡ join t s
join_comm s t = same_store _ _ (λ q. get-join s t q ∙ larger_comm (finmap.get s q) (finmap.get t q) ∙ sym (get-join t s q))

pub join_assoc : (s t u : EntryMap) → join (join s t) u ≡ join s (join t u)
join_assoc s t u =
    same_store _ _
    (λ q. get-join (join s t) u q ∙ ap (λ y. larger y (finmap.get u q)) (get-join s t q) ∙ larger_assoc (finmap.get s q) (finmap.get t q) (finmap.get u q) ∙
    sym (get-join s (join t u) q ∙ ap (larger (finmap.get s q)) (get-join t u q)))

pub join_idem : (s : EntryMap) → join s s ≡ s
join_idem s = same_store _ _ (λ q. get-join s s q ∙ larger_idem (finmap.get s q))

pub join-left : (s t : EntryMap) → IsStoreBelow s (join s t)
join-left s t q = subst (λ y. IsBelow (finmap.get s q) y) (sym (get-join s t q)) (larger-left (finmap.get s q) (finmap.get t q))

pub join-right : (s t : EntryMap) → IsStoreBelow t (join s t)
join-right s t q = subst (λ y. IsBelow (finmap.get t q) y) (sym (get-join s t q)) (larger-right (finmap.get s q) (finmap.get t q))

pub join-least : (s t u : EntryMap) → IsStoreBelow s u → IsStoreBelow t u → IsStoreBelow (join s t) u
join-least s t u h k q = subst (λ y. IsBelow y (finmap.get u q)) (sym (get-join s t q)) (larger-least (finmap.get s q) (finmap.get t q) (finmap.get u q) (h q) (k q))

pub sum_of-IsSum : (es : List Edit) → IsSum es (sum_of es)
sum_of-IsSum es = record {
  above = λ e a. subst (λ y. IsBelow (Some (entry_of e)) y) (sym (get-sum_of es e.place)) (greatest_at-above e es a);
  found = λ q x h. greatest_at-found q es x (sym (get-sum_of es q) ∙ h);
}

-- a store is above the sum exactly if it is above each of the edits
pub sum_of-least : (es : List Edit) (s : EntryMap) → IsStoreBelow (sum_of es) s ↔ IsAboveEdits es s
sum_of-least es s = (
  λ below e a. below_trans (Some (entry_of e)) (finmap.get (sum_of es) e.place) (finmap.get s e.place) ((sum_of-IsSum es).above e a) (below e.place),
  λ above q. subst (λ x. IsBelow x (finmap.get s q)) (sym (get-sum_of es q))
      (greatest_at-least q es (finmap.get s q) (λ e a same. subst (λ p. IsBelow (Some (entry_of e)) (finmap.get s p)) same (above e a))),
)

pub with_edit-join : (s : EntryMap) (e : Edit) → with_edit s e ≡ join s (sum_of (e ∷ []))
with_edit-join s e =
    same_store _ _
    (λ q.
    let one : finmap.get (sum_of (e ∷ [])) q ≡ cond (eq_by_cmp place_cmp q e.place) (Some (entry_of e)) None = get-sum_of (e ∷ []) q in
    get-with_edit s e q ∙
    elim (eq_by_cmp place_cmp q e.place) as (λ b. cond b (larger (Some (entry_of e)) (finmap.get s q)) (finmap.get s q) ≡ larger (finmap.get s q) (cond b (Some (entry_of e)) None)) [
      | true ↦ larger_comm (Some (entry_of e)) (finmap.get s q)
      | false ↦ sym (larger-None (finmap.get s q))
    ] ∙
    sym (get-join s (sum_of (e ∷ [])) q ∙ ap (larger (finmap.get s q)) one))

pub sum_of-push : (xs : List Edit) (e : Edit) → sum_of (xs ++ e ∷ []) ≡ with_edit (sum_of xs) e
sum_of-push xs e = sum_of-append xs (e ∷ []) ∙ sym (with_edit-join (sum_of xs) e)

pub with_edit-of_join : (s t : EntryMap) (e : Edit) → with_edit (join s t) e ≡ join s (with_edit t e)
with_edit-of_join s t e =
    with_edit-join (join s t) e ∙ join_assoc s t (sum_of (e ∷ [])) ∙ ap (join s) (sym (with_edit-join t e))

pub join-nothing : (s : EntryMap) → join s (sum_of []) ≡ s
join-nothing s = same_store _ _ (λ q. get-join s (sum_of []) q ∙ ap (larger (finmap.get s q)) (get-sum_of [] q) ∙ larger-None (finmap.get s q))
