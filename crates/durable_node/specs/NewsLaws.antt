-- Joining what is news gives what joining all gives.
use Rattle.std.proofs.Common.{◌≡◌, ◌≤◌, ◌∷◌, [], Bool, true, false, cond, filter, List, map, Option, Some, None, refl, subst, sym, ap, arith, ◌∙◌}
use Rattle.std.specs.declared.cmp.Ordering.TheVariants.{Less, Equal, Greater}
use Rattle.std.specs.FinMap as finmap
use Rattle.std.specs.Ordering.{is_gt, is_lt}
use Rattle.edit_sums.specs.declared.entries.Edit.{Edit}
use Rattle.edit_sums.specs.CounterLaws.{high_among-edits_of}
use Rattle.edit_sums.specs.Entries.{Entry, entry_cmp, larger}
use Rattle.edit_sums.specs.EntryLaws.{entry_cmp-IsAntisymmetric}
use Rattle.edit_sums.specs.GreatestLaws.{get-join, get-sum_of, greatest_at-filter, passed}
use Rattle.edit_sums.specs.SumLaws.{same_store}
use Rattle.edit_sums.specs.Sums.{edit_of, edits_of, entry_of, EntryMap, high_among, high_of, join, sum_of}
use Rattle.path_maps.specs.Zipped.{zipped}
use Rattle.load_places.specs.Places.{PlaceParts}
use Rattle.durable_node.specs.News.{is_news, news_left, news_of}

-- an entry that is no news adds nothing
by_held : (y : Option Entry) (x : Entry) → larger y (cond (is_news y x) (Some x) None) ≡ larger y (Some x)
by_held None x = refl
by_held (Some v) x =
    elim (entry_cmp v x) as (λ o. entry_cmp v x ≡ o → larger (Some v) (cond (is_lt o) (Some x) None) ≡ cond (is_gt o) (Some v) (Some x)) [
      | Less ↦ λ e. ap (λ o. cond (is_gt o) (Some v) (Some x)) e
      | Equal ↦ λ e. ap Some (entry_cmp-IsAntisymmetric v x e)
      | Greater ↦ λ e. refl
    ] refl

at_place : (s : EntryMap) (q : PlaceParts) (z : Option Entry)
    → larger (finmap.get s q) (passed (λ e. is_news (finmap.get s e.place) (entry_of e)) q z)
    ≡ larger (finmap.get s q) z
at_place s q None = refl
at_place s q (Some x) = by_held (finmap.get s q) x

pub join_news : (s t : EntryMap) → join s (sum_of (news_of s t)) ≡ join s t
join_news s t = same_store _ _
    (λ q. get-join s (sum_of (news_of s t)) q
    ∙ ap (larger (finmap.get s q)) (get-sum_of (news_of s t) q ∙ greatest_at-filter (λ e. is_news (finmap.get s e.place) (entry_of e)) q t)
    ∙ at_place s q (finmap.get t q) ∙ sym (get-join s t q))

high_filter : (p : Edit → Bool) (es : List Edit) → high_among (filter p es) ≤ high_among es
high_filter p [] = omega arith
high_filter p (e ∷ es) = elim (p e) as (λ b. high_among (cond b (e ∷ filter p es) (filter p es)) ≤ high_among (e ∷ es)) [ true ↦ omega (arith, high_filter p es) | false ↦ omega (arith, high_filter p es) ]

-- no news has a greater counter than the store that it is of
pub news_high : (s t : EntryMap) → high_among (news_of s t) ≤ high_of t
news_high s t = subst (λ n. high_among (news_of s t) ≤ n) (high_among-edits_of t) (high_filter _ (edits_of t))

-- entries that are read beside a store give its news
pub news_beside : (s : EntryMap) (ps : List (PlaceParts × Entry))
    → news_left (zipped (finmap.get s) ps) ≡ filter (λ e. is_news (finmap.get s e.place) (entry_of e)) (map edit_of ps)
news_beside s [] = refl
news_beside s (p ∷ ps) =
    ap (λ l. cond (is_news (finmap.get s p.0) p.1) (edit_of p ∷ l) l) (news_beside s ps)
