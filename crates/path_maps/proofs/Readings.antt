-- What cursors read from nested maps.
use Rattle.std.proofs.Common.{◌++◌, ◌∷◌, ◌≡◌}
use Rattle.path_maps.proofs.Prelude.{[], all_listed, AllByRecursion, AllHeld, AllKeys, and_parts, ap, At, below_all, content_cmp, Entry, flat_map, flat_map-append, FolderMap, folders_read, held_at_path, in_folder, in_rank, in_scope, is_less, is_sorted, IsHeldAt, IsMap, IsPath, IsReadable, IsTrue, IsUpTo, Less, List, listed, map, map-append, NameMap, names_read, Never, never_least, Ordering, path_at, PathParts, PlaceParts, RankMap, ranks_read, refl, Scope, scope_read, ScopeMap, scopes_read, spread, subst, sym, within, zipped, ℕ, ◌∙◌}
use Rattle.path_maps.proofs.LeftAfter.{back_keys, prefix_keys}

-- ---- after the first item

module _ {P : Type 0} (before : P → P → Type 0) where
  pub readable_rest : (can still : P → Type 0) → ((p : P) → can p → still p) → (ps : List P) → IsReadable before can ps → IsReadable before still ps
  readable_rest can still keeps [] h = tt
  readable_rest can still keeps (p ∷ ps) h = (keeps p h.0, (h.1.0, readable_rest can still keeps ps h.1.1))

  pub read_later : {T : Type 0} (p : P) (f g : P → List T) → ((q : P) → before p q → g q ≡ f q) → (ps : List P) → AllByRecursion (before p) ps → flat_map f ps ≡ flat_map g ps
  read_later p f g same [] h = refl
  read_later p f g same (q ∷ qs) h = λ i. sym (same q h.0) i ++ read_later p f g same qs h.1 i

-- ---- the pairs of a map can be read

module _ {K V : Type 0} (R : K → K → Ordering) where
  all_below : (k : K) (es : List (K × V)) → IsTrue (below_all R k es) → AllByRecursion (λ e. R k e.0 ≡ Less) es
  all_below k [] h = tt
  all_below k (e ∷ es) h = let p = and_parts _ _ h in (is_less _ p.0, all_below k es p.1)

  sorted_readable : (can : K × V → Type 0) (es : List (K × V)) → IsTrue (is_sorted R es) → AllByRecursion can es → IsReadable (λ p q. R p.0 q.0 ≡ Less) can es
  sorted_readable can [] s h = tt
  sorted_readable can (e ∷ es) s h = let p = and_parts _ _ s in (h.0, (all_below e.0 es p.0, sorted_readable can es p.1 h.1))

pub map_readable : {K V : Type 0} (R : K → K → Ordering) {below : V → V → Type 0} {valid : V → Type 0} (can : K × V → Type 0) (es m : List (K × V)) → es ≡ m → IsMap R below valid m → AllByRecursion can m → IsReadable (λ p q. R p.0 q.0 ≡ Less) can es
map_readable R can es m same is h = subst (IsReadable (λ p q. R p.0 q.0 ≡ Less) can) (sym same) (sorted_readable R can m is.sorted h)

pub part_keys : {K V A E : Type 0} (P : A → Type 0) (part : K → V → List (A × E)) (es : List (K × V)) → AllKeys P (spread part es) → AllByRecursion (λ e. AllKeys P (part e.0 e.1)) es
part_keys P part [] h = tt
part_keys P part (e ∷ es) h = (prefix_keys P (part e.0 e.1) (spread part es) h, part_keys P part es (back_keys P (part e.0 e.1) (spread part es) h))

pub names_held : (rank : ℕ) (folder : List ℕ) (names : NameMap) → AllHeld (IsUpTo content_cmp) (λ _. Unit {0}) names → AllKeys IsPath (in_folder rank folder names) → AllByRecursion (λ e. IsHeldAt (path_at rank folder e.0) e.1) names
names_held rank folder [] held paths = tt
names_held rank folder ((name, Never) ∷ es) held paths = absurd (held.0.not_least (never_least content_cmp))
names_held rank folder ((name, At x) ∷ es) held paths = (paths.0, names_held rank folder es held.1 paths.1)

-- ---- lists of lists, joined

pub keys_with : {K H : Type 0} (held : K → H) (es : List (K × Entry)) → map (λ p. p.0) (zipped held es) ≡ es
keys_with held [] = refl
keys_with held (e ∷ es) = ap (λ l. e ∷ l) (keys_with held es)

module _ {H : Type 0} (held : ℕ → List ℕ → List ℕ → H) where
  pub names_zipped : (rank : ℕ) (folder : List ℕ) (names : NameMap) → names_read (held rank folder) rank folder names ≡ zipped (held_at_path held) (in_folder rank folder names)
  names_zipped rank folder [] = refl
  names_zipped rank folder ((name, Never) ∷ es) = names_zipped rank folder es
  names_zipped rank folder ((name, At x) ∷ es) = ap (λ l. ((path_at rank folder name, x), held rank folder name) ∷ l) (names_zipped rank folder es)

  folders_zipped : (rank : ℕ) (folders : FolderMap) → flat_map (λ xs. xs) (folders_read (held rank) rank folders) ≡ zipped (held_at_path held) (in_rank rank folders)
  folders_zipped rank [] = refl
  folders_zipped rank (f ∷ fs) =
      (λ i. names_zipped rank f.0 f.1 i ++ folders_zipped rank fs i) ∙ sym (map-append _ (in_folder rank f.0 f.1) (in_rank rank fs))

  pub ranks_zipped : (ranks : RankMap) → flat_map (λ xs. xs) (flat_map (λ xs. xs) (ranks_read held ranks)) ≡ zipped (held_at_path held) (listed ranks)
  ranks_zipped [] = refl
  ranks_zipped (r ∷ rs) =
      flat_map-append (λ xs. xs) (folders_read (held r.0) r.0 r.1) (flat_map (λ xs. xs) (ranks_read held rs))
      ∙ (λ i. folders_zipped r.0 r.1 i ++ ranks_zipped rs i) ∙ sym (map-append _ (in_rank r.0 r.1) (listed rs))

module _ {H : Type 0} (held : Scope → ℕ → List ℕ → List ℕ → H) where
  abbrev held_at_place : PlaceParts → H
  held_at_place q = held_at_path (held q.scope) q.path

  scope_zipped : (scope : Scope) (es : List (PathParts × Entry)) → scope_read scope (zipped (held_at_path (held scope)) es) ≡ zipped held_at_place (map (λ e. (within scope e.0, e.1)) es)
  scope_zipped scope [] = refl
  scope_zipped scope (e ∷ es) = ap (λ l. ((within scope e.0, e.1), held_at_path (held scope) e.0) ∷ l) (scope_zipped scope es)

  pub scopes_zipped : (scopes : ScopeMap) → flat_map (λ xs. xs) (scopes_read held scopes) ≡ zipped held_at_place (all_listed scopes)
  scopes_zipped [] = refl
  scopes_zipped (s ∷ ss) = (λ i. scope_zipped s.0 (listed s.1) i ++ scopes_zipped ss i) ∙ sym (map-append _ (in_scope s.0 s.1) (all_listed ss))
