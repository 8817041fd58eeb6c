-- Adding one edit to a store.
use Rattle.std.proofs.Common.{◌+◌, ◌-◌, ◌^◌, ◌∷◌, ◌≡◌, ◌≤◌}
use Rattle.path_maps.proofs.Prelude.{[], all_held, ap, AreFolders, AreNames, AreRanks, AreScopes, arith, At, Bool, bytes_cmp, cond, content_cmp, Edit, Entry, entry_held, entry_of, EntryMap, eq_by_cmp, false, FoldersBelow, get-sum_of, get-with_edit, held-join, high_of, high_of-join, high_of-sum_of, IsCounted, IsHeld, IsJoin, IsKept, IsPath, IsSome, IsUpTo, join, larger, length, max, NamesBelow, nat_cmp, nat_cmp_total, nat_list_cmp_total, None, not_least, Option, place_cmp, place_cmp_total, PlaceParts, RanksBelow, refl, same_store, scope_cmp, scope_cmp_total, ScopeMap, ScopesBelow, Some, subst, sum_of, sym, tied, true, with_edit, with_edit-join, ℕ, ◌∙◌}
use Rattle.std.specs.FinMap as finmap

pub nothing_is_empty : all_held [] ≡ finmap.empty
nothing_is_empty = finmap.empty_of_len _ (finmap.len-entries _ ∙ ap length (finmap.entries-from_sorted place_cmp [] tt))

none_held : (x : Option Entry) → x ≡ None → IsSome x → ⊥
none_held x e h = let wrong = subst (λ (y : Option Entry). IsSome y) e h in cc (wrong)

pub nothing_kept : IsKept [] 0 0
nothing_kept = record {
  scopes = record { sorted = refl; held = tt };
  counted = record {
    paths = λ q h. absurd (none_held _ (ap (λ (s : EntryMap). finmap.get s q) nothing_is_empty ∙ finmap.get-empty place_cmp q) h);
    counted = sym (ap (λ (s : EntryMap). finmap.len s) nothing_is_empty ∙ finmap.len-empty place_cmp Entry);
    greatest = sym (ap high_of nothing_is_empty ∙ high_of-sum_of []);
  };
  fits = omega arith;
}

-- ---- the maps of one edit

abbrev pub one_edit : Edit → ScopeMap
one_edit e = (e.place.scope, (e.place.path.rank, (e.place.path.folder, (e.place.path.name, At (entry_of e)) ∷ []) ∷ []) ∷ []) ∷ []

pub one_held : (e : Edit) → IsHeld ScopesBelow AreScopes (one_edit e)
one_held e =
    let path = e.place.path in
    entry_held scope_cmp RanksBelow scope_cmp_total e.place.scope AreRanks ((path.rank, (path.folder, (path.name, At (entry_of e)) ∷ []) ∷ []) ∷ [])
    (entry_held nat_cmp FoldersBelow nat_cmp_total path.rank AreFolders ((path.folder, (path.name, At (entry_of e)) ∷ []) ∷ [])
    (entry_held bytes_cmp NamesBelow nat_list_cmp_total path.folder AreNames ((path.name, At (entry_of e)) ∷ [])
    (entry_held bytes_cmp (IsUpTo content_cmp) nat_list_cmp_total path.name (λ _. Unit {0}) (At (entry_of e)) (record { not_least = not_least content_cmp (entry_of e); well_formed = tt }))))

pub held-one : (e : Edit) → all_held (one_edit e) ≡ sum_of (e ∷ [])
held-one e = same_store (all_held (one_edit e)) (sum_of (e ∷ []))
    (λ q. finmap.get-from_sorted place_cmp ((e.place, entry_of e) ∷ []) q tt ∙ sym (get-sum_of (e ∷ []) q))

-- A join with the maps of one edit, whose place is given by its parts, adds this edit.
pub joined_edit : (m n : ScopeMap) (s : EntryMap) (e : Edit) (p : PlaceParts) → p ≡ e.place → all_held m ≡ s → AreScopes m → AreScopes n → IsJoin ScopesBelow m (one_edit (record e { place = p })) n → all_held n ≡ with_edit s e
joined_edit m n s e p parts is is_m is_n j =
    let e' : Edit = record e { place = p } in
    held-join m (one_edit e') n is_m (one_held e').well_formed is_n j ∙ ap (join (all_held m)) (held-one e') ∙ sym (with_edit-join (all_held m) e')
    ∙ ap (λ (t : EntryMap). with_edit t e') is ∙ ap (λ (q : PlaceParts). with_edit s (record e { place = q })) parts

pub counted_edit : (s : EntryMap) (len high len' : ℕ) (e : Edit) → IsPath e.place.path → IsCounted s len high → len' ≡ cond (finmap.contains_key s e.place) (finmap.len s) (finmap.len s + 1) → IsCounted (with_edit s e) len' (max high e.version.counter)
counted_edit s len high len' e well_formed c is = record {
  paths = λ q h. path q (larger (Some (entry_of e)) (finmap.get s q)) (eq_by_cmp place_cmp q e.place) refl (subst (λ (x : Option Entry). IsSome x) (get-with_edit s e q) h);
  counted = is ∙ sym (finmap.len-insert place_cmp_total s e.place _);
  greatest = (λ i. max (c.greatest i) (one i)) ∙ sym (high_of-join s (sum_of (e ∷ []))) ∙ ap high_of (sym (with_edit-join s e));
}
  where
    one : e.version.counter ≡ high_of (sum_of (e ∷ []))
    one = let m : max e.version.counter 0 ≡ e.version.counter = omega arith in sym (high_of-sum_of (e ∷ []) ∙ m)

    path : (q : PlaceParts) (x : Option Entry) (b : Bool) → eq_by_cmp place_cmp q e.place ≡ b → IsSome (cond b x (finmap.get s q)) → IsPath q.path
    path q x true t h = subst (λ (p : PlaceParts). IsPath p.path) (sym (tied q e.place t)) well_formed
    path q x false t h = c.paths q h

pub kept_edit : (m n : ScopeMap) (s : EntryMap) (len high len' : ℕ) (e : Edit) (p : PlaceParts) → p ≡ e.place → IsPath e.place.path → all_held m ≡ s → IsKept m len high → AreScopes n → IsJoin ScopesBelow m (one_edit (record e { place = p })) n → len' ≡ cond (finmap.contains_key s e.place) (finmap.len s) (finmap.len s + 1) → len' ≤ 2 ^ 64 - 1 → IsKept n len' (max high e.version.counter)
kept_edit m n s len high len' e p parts well_formed is k is_n j counted fits = record {
  scopes = is_n;
  counted =
      subst (λ (t : EntryMap). IsCounted t len' (max high e.version.counter)) (sym (joined_edit m n s e p parts is k.scopes is_n j))
      (counted_edit s len high len' e well_formed (subst (λ (t : EntryMap). IsCounted t len high) is k.counted) counted);
  fits = fits;
}
