-- What a store keeps when another store is joined, fully or in part.
use Rattle.std.proofs.Common.{◌+◌, ◌-◌, ◌^◌, ◌≡◌, ◌≤◌, ◌⊎◌}
use Rattle.path_maps.proofs.Prelude.{additions, all_held, all_listed, ap, AreScopes, arith, ascends, changed_places, entries-held, Entry, EntryMap, get-join, greatest_counter, HasWellFormedPaths, held-below, held-between, held-join, held-rest, high_of-join, inl, inr, IsBetween, IsCounted, IsJoin, IsKept, IsPartialJoin, IsPath, IsSome, IsStoreBelow, join, join-least, join-left, join-right, larger, larger_cases, length, max, Option, PlaceParts, ScopeMap, ScopesBelow, store_below_antisym, store_below_trans, subst, sym, ℕ, ◌∙◌}
use Rattle.path_maps.proofs.{Ascends.{changed-join, len-join}, Listed.{places_well_formed}, Sizes.{held_above, len-below}}
use Rattle.std.specs.FinMap as finmap

-- ---- at the level of stores

abbrev HasPaths : EntryMap → Type 0
HasPaths s = (q : PlaceParts) → IsSome (finmap.get s q) → IsPath q.path

join_paths : (s t : EntryMap) → HasPaths s → HasPaths t → HasPaths (join s t)
join_paths s t p r q h = by (larger_cases (finmap.get s q) (finmap.get t q)) (subst (λ (x : Option Entry). IsSome x) (get-join s t q) h)
  where
    by : (larger (finmap.get s q) (finmap.get t q) ≡ finmap.get s q) ⊎ (larger (finmap.get s q) (finmap.get t q) ≡ finmap.get t q) → IsSome (larger (finmap.get s q) (finmap.get t q)) → IsPath q.path
    by (inl e) h = p q (subst (λ (x : Option Entry). IsSome x) e h)
    by (inr e) h = r q (subst (λ (x : Option Entry). IsSome x) e h)

pub counted_join : (s t : EntryMap) (a b g h len : ℕ) → IsCounted s a g → IsCounted t b h → len ≡ a + additions s (finmap.entries t) → IsCounted (join s t) len (max g h)
counted_join s t a b g h len c d is = record {
  paths = join_paths s t c.paths d.paths;
  counted = let one = len-join s t in let two = c.counted in is ∙ omega (arith, one, two);
  greatest = (λ i. max (c.greatest i) (d.greatest i)) ∙ sym (high_of-join s t);
}

-- Joining again what was joined in part gives the join.
pub join_again : (s t u : EntryMap) → IsStoreBelow s u → IsStoreBelow u (join s t) → join u t ≡ join s t
join_again s t u kept within =
    store_below_antisym (join u t) (join s t)
    (join-least u t (join s t) within (join-right s t))
    (join-least s t (join u t) (store_below_trans s u (join u t) kept (join-left u t)) (join-right u t))

below_paths : (s t : EntryMap) → IsStoreBelow s t → HasPaths t → HasPaths s
below_paths s t h p q f = p q (held_above (finmap.get s q) (finmap.get t q) (h q) f)

-- ---- of nested maps

module _ (m o : ScopeMap) (s t : EntryMap) (a b g h : ℕ) (is : all_held m ≡ s) (is_t : all_held o ≡ t) (k : IsKept m a g) (l : IsKept o b h) where
  counted_s : IsCounted s a g
  counted_s = subst (λ (x : EntryMap). IsCounted x a g) is k.counted

  counted_t : IsCounted t b h
  counted_t = subst (λ (x : EntryMap). IsCounted x b h) is_t l.counted

  module _ (n : ScopeMap) (is_n : AreScopes n) where
    module _ (j : IsJoin ScopesBelow m o n) where
      pub merged : all_held n ≡ join s t
      merged = held-join m o n k.scopes l.scopes is_n j ∙ (λ i. join (is i) (is_t i))

      pub merged_kept : (len : ℕ) → len ≡ a + additions s (finmap.entries t) → len ≤ 2 ^ 64 - 1 → IsKept n len (max g h)
      merged_kept len e fits = record {
        scopes = is_n;
        counted = subst (λ (x : EntryMap). IsCounted x len (max g h)) (sym merged) (counted_join s t a b g h len counted_s counted_t e);
        fits = fits;
      }

      pub merged_changes : (changed : ℕ) → changed ≡ ascends s (finmap.entries t) → changed ≡ changed_places s (all_held n)
      merged_changes changed e = e ∙ sym (changed-join s t) ∙ ap (changed_places s) (sym merged)

    module _ (v : IsBetween ScopesBelow m o n) where
      pub part_kept : IsStoreBelow s (all_held n)
      part_kept = subst (λ (x : EntryMap). IsStoreBelow x (all_held n)) is (held-below m o n k.scopes l.scopes is_n v.kept)

      pub part_within : IsStoreBelow (all_held n) (join s t)
      part_within = subst (λ (x : EntryMap). IsStoreBelow (all_held n) x) (λ i. join (is i) (is_t i)) (held-between m o n k.scopes l.scopes is_n v)

      pub part_again : join (all_held n) t ≡ join s t
      part_again = join_again s t (all_held n) part_kept part_within

    -- Maps that are below the join can be counted anew.
    module _ (w : IsStoreBelow (all_held n) (join s t)) where
      within_paths : HasPaths (all_held n)
      within_paths = below_paths (all_held n) (join s t) w (join_paths s t counted_s.paths counted_t.paths)

      pub within_listed : HasWellFormedPaths n
      within_listed = places_well_formed n is_n within_paths

      same_len : length (all_listed n) ≡ finmap.len (all_held n)
      same_len = ap length (sym (entries-held n is_n)) ∙ sym (finmap.len-entries (all_held n))

      pub within_fits : (most : ℕ) → a + additions s (finmap.entries t) ≤ most → length (all_listed n) ≤ most
      within_fits most fits =
          let one = len-below (all_held n) (join s t) w in
          let two = len-join s t in
          let three = counted_s.counted in
          let four = same_len in
          omega (arith, one, two, three, four, fits)

      pub within_counted : (len high : ℕ) → len ≡ length (all_listed n) → high ≡ greatest_counter (all_listed n) → len ≤ 2 ^ 64 - 1 → IsKept n len high
      within_counted len high e f fits = record {
        scopes = is_n;
        counted = record { paths = within_paths; counted = e ∙ same_len; greatest = f ∙ ap greatest_counter (sym (entries-held n is_n)) };
        fits = fits;
      }

    -- What is left of a join that was refused.
    module _ (r : ScopeMap) (is_r : AreScopes r) (j : IsPartialJoin ScopesBelow m o n r) where
      pub partly : IsBetween ScopesBelow m o n
      partly = record { kept = j.kept; within = λ z p q. ((j.bounds z).1 (p, q)).0 }

      pub rest_joined : join (all_held n) (all_held r) ≡ join s t
      rest_joined = held-rest m o n k.scopes l.scopes is_n r is_r j.bounds ∙ (λ i. join (is i) (is_t i))

      pub rest_within : IsStoreBelow (all_held r) (join s t)
      rest_within = subst (λ (x : EntryMap). IsStoreBelow (all_held r) x) rest_joined (join-right (all_held n) (all_held r))
