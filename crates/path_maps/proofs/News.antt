-- The places of greater entries are those at which a join changes what is held.
use Rattle.std.proofs.Common.{◌↔◌, ◌∷◌, ◌≡◌, ◌≢◌}
use Rattle.path_maps.proofs.Prelude.{[], ap, Bool, cond, Entry, entry_cmp, entry_cmp_total, EntryMap, false, filter, find, from_T, get-join, is_ascending, is_eq, is_gt, is_less, IsAmong, IsStrictlySortedBy, join, larger, larger-None, larger_comm, Less, List, map, news_zipped, None, Option, place_cmp, PlaceParts, refl, Some, subst, sym, tied_itself, true, zipped, ◌∙◌}
use Rattle.path_maps.proofs.{Ascends.{found_entry, not_greater}, Passing.{back, none_among, passes, passing, passing_ascends, there}}
use Rattle.std.specs.FinMap as finmap

same_some : (x y : Entry) → Some x ≡ Some y → x ≡ y
same_some x y e = cc (e)

-- The greater of two entries is the first one only where the second is no greater.
grown : (x : Option Entry) (y : Entry) → is_ascending x y ≡ true → larger x (Some y) ≢ x
grown None y h e = cc (e)
grown (Some x) y h e =
    let less : entry_cmp x y ≡ Less = is_less _ h in
    let given : Some y ≡ Some x = ap (λ r. cond (is_gt r) (Some x) (Some y)) (sym less) ∙ e in
    let wrong : false ≡ true = ap is_eq (sym less) ∙ ap (λ z. is_eq (entry_cmp x z)) (same_some y x given) ∙ ap is_eq (tied_itself entry_cmp_total x) in
    cc (wrong)

module _ (s t : EntryMap) where
  abbrev is_new : PlaceParts × Entry → Bool
  is_new e = is_ascending (finmap.get s e.0) e.1

  news_are : (es : List (PlaceParts × Entry)) → news_zipped (zipped (finmap.get s) es) ≡ passing is_new es
  news_are [] = refl
  news_are (e ∷ es) =
      let later = news_are es in
      elim (is_new e) as (λ b. map (λ c. c.0.0) (cond b ((e, finmap.get s e.0) ∷ filter (λ c. is_ascending c.1 c.0.1) (zipped (finmap.get s) es))
      (filter (λ c. is_ascending c.1 c.0.1) (zipped (finmap.get s) es)))
      ≡ map (λ r. r.0) (cond b (e ∷ filter is_new es) (filter is_new es))) [
        | true ↦ ap (λ qs. e.0 ∷ qs) later
        | false ↦ later
      ]

  abbrev pub news : List PlaceParts
  news = news_zipped (zipped (finmap.get s) (finmap.entries t))

  all_news : passing is_new (finmap.entries t) ≡ news
  all_news = sym (news_are (finmap.entries t))

  pub news_ascend : IsStrictlySortedBy place_cmp news
  news_ascend = subst (IsStrictlySortedBy place_cmp) all_news (passing_ascends is_new (finmap.entries t) (from_T _ (finmap.entries_sorted t)))

  joined_there : (q : PlaceParts) → finmap.get (join s t) q ≡ larger (finmap.get s q) (find place_cmp q (finmap.entries t))
  joined_there q = get-join s t q ∙ ap (larger (finmap.get s q)) (found_entry t q)

  pub news_exact : (q : PlaceParts) → IsAmong q news ↔ (finmap.get (join s t) q ≢ finmap.get s q)
  news_exact q = (
    λ a e. forward (find place_cmp q (finmap.entries t)) (back is_new q (finmap.entries t) (from_T _ (finmap.entries_sorted t)) (subst (IsAmong q) (sym all_news) a)) (sym (joined_there q) ∙ e),
    λ n. subst (IsAmong q) all_news (there is_new q (finmap.entries t) (backward (find place_cmp q (finmap.entries t)) (λ e. n (joined_there q ∙ e)))),
  )
    where
      forward : (y : Option Entry) → passes is_new q y ≡ true → larger (finmap.get s q) y ≡ finmap.get s q → ⊥
      forward None h e = cc (h)
      forward (Some y) h e = grown (finmap.get s q) y h e

      backward : (y : Option Entry) → (larger (finmap.get s q) y ≡ finmap.get s q → ⊥) → passes is_new q y ≡ true
      backward None n = absurd (n (larger-None (finmap.get s q)))
      backward (Some y) n = by (is_ascending (finmap.get s q) y) refl
        where
          by : (b : Bool) → is_ascending (finmap.get s q) y ≡ b → b ≡ true
          by true h = refl
          by false h = absurd (n (larger_comm (finmap.get s q) (Some y) ∙ not_greater s (finmap.get s q) y h))

  pub no_news : join s t ≡ s → news ≡ []
  no_news e = none_among news (λ q a. (news_exact q).0 a (ap (λ m. finmap.get m q) e))
