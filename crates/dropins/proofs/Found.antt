-- What the paths of a folder say of a file name.
use Rattle.std.proofs.Common.{◌&&◌, ◌==◌, ◌||◌, ◌∷◌, ◌≡◌}
use Rattle.dropins.proofs.Prelude.{[], and_from, and_parts, ap, below_all, Bool, bytes_eq, bytes_eq-Decides, cond, contains_key-keys, Entry, eq-eqb, eq_by_cmp, eqb-true, false, filter, find, first_said, from_T, HostViewMap, inl, inr, is_eq, is_equal, is_in, is_less, is_some, is_sorted, IsAmong, IsTrue, List, list_any, map, None, Option, option_and_then, option_or, ordering_reverse, path, path_cmp, path_cmp-IsAntisymmetric, path_cmp_total, PathParts, refl, said_for, Search, Some, sym, take_at, take_of, tied_itself, true, view, ℕ, ◌∙◌}
use Rattle.dropins.proofs.Firsts.{said_among}
use Rattle.std.specs.FinMap as finmap

-- ---- what is seen at the path of an entry

below_among : (q : PathParts) (es : List (PathParts × Entry)) → IsTrue (below_all path_cmp q es) → (p : PathParts × Entry) → IsAmong p es → eq_by_cmp path_cmp p.0 q ≡ false
below_among q [] b p a = absurd a
below_among q (e ∷ es) b p (inl same) =
    ap (λ (x : PathParts × Entry). eq_by_cmp path_cmp x.0 q) (sym same) ∙ ap is_eq (path_cmp_total.antisymm e.0 q ∙ ap ordering_reverse (is_less _ (and_parts _ _ b).0))
below_among q (e ∷ es) b p (inr a) = below_among q es (and_parts _ _ b).1 p a

own_entry : (es : List (PathParts × Entry)) → IsTrue (is_sorted path_cmp es) → (p : PathParts × Entry) → IsAmong p es → find path_cmp p.0 es ≡ Some p.1
own_entry [] s p a = absurd a
own_entry (e ∷ es) s p (inl same) =
    ap (λ (x : PathParts × Entry). cond (eq_by_cmp path_cmp x.0 e.0) (Some e.1) (find path_cmp x.0 es)) (sym same)
    ∙ ap (λ o. cond (is_eq o) (Some e.1) (find path_cmp e.0 es)) (tied_itself path_cmp_total e.0) ∙ ap (λ (x : PathParts × Entry). Some x.1) same
own_entry (e ∷ es) s p (inr a) =
    ap (λ b. cond b (Some e.1) (find path_cmp p.0 es)) (below_among e.0 es (and_parts _ _ s).0 p a) ∙ own_entry es (and_parts (below_all path_cmp e.0 es) _ s).1 p a

viewed_entry : (v : HostViewMap) (p : PathParts × Entry) → IsAmong p (finmap.entries (view v)) → finmap.get (view v) p.0 ≡ Some p.1
viewed_entry v p a = finmap.get-entries (view v) p.0 ∙ own_entry (finmap.entries (view v)) (from_T _ (finmap.entries_sorted (view v))) p a

module _ (r : ℕ) (d f : List ℕ) where
  same_path : (k : PathParts) → is_in r d k ≡ true → bytes_eq k.name f ≡ true → k ≡ path r d f
  same_path k i n =
      let p = and_parts (k.rank == r) (bytes_eq k.folder d) i in
      ap (λ x. path x k.folder k.name) (eqb-true _ _ p.0) ∙ ap (λ x. path r x k.name) ((bytes_eq-Decides _ _).0 p.1) ∙ ap (path r d) ((bytes_eq-Decides _ _).0 n)

  itself_in : (is_in r d (path r d f) && bytes_eq f f) ≡ true
  itself_in = and_from _ _ (and_from _ _ (eq-eqb r r refl) ((bytes_eq-Decides d d).1 refl)) ((bytes_eq-Decides f f).1 refl)

  -- A path in the folder with the file name is the one that is asked for.
  tied : (k : PathParts) → eq_by_cmp path_cmp (path r d f) k ≡ (is_in r d k && bytes_eq k.name f)
  tied k = step (is_in r d k) (bytes_eq k.name f) (eq_by_cmp path_cmp (path r d f) k) refl refl refl
    where
      same : eq_by_cmp path_cmp (path r d f) k ≡ true → path r d f ≡ k
      same h = path_cmp-IsAntisymmetric _ _ (is_equal _ h)

      back : eq_by_cmp path_cmp (path r d f) k ≡ true → (is_in r d k && bytes_eq k.name f) ≡ true
      back h = sym (ap (λ x. is_in r d x && bytes_eq x.name f) (same h)) ∙ itself_in

      step : (i n e : Bool) → is_in r d k ≡ i → bytes_eq k.name f ≡ n → eq_by_cmp path_cmp (path r d f) k ≡ e → e ≡ (i && n)
      step true true true hi hn he = refl
      step true true false hi hn he = sym he ∙ ap (eq_by_cmp path_cmp (path r d f)) (same_path k hi hn) ∙ ap is_eq (tied_itself path_cmp_total (path r d f))
      step true false true hi hn he = sym (back he) ∙ ap (λ b. is_in r d k && b) hn ∙ ap (λ b. b && false) hi
      step true false false hi hn he = refl
      step false n true hi hn he = sym (back he) ∙ ap (λ b. b && bytes_eq k.name f) hi
      step false n false hi hn he = refl

  among : (s : HostViewMap) (x : Search) (ks : List PathParts) → first_said (λ p. cond (bytes_eq p.name f) (take_at s x p) None) (filter (is_in r d) ks) ≡ cond (list_any (eq_by_cmp path_cmp (path r d f)) ks) (take_at s x (path r d f)) None
  among s x [] = refl
  among s x (k ∷ ks) =
      said_among (λ p. cond (bytes_eq p.name f) (take_at s x p) None) k (filter (is_in r d) ks) (is_in r d k) (bytes_eq k.name f) (list_any (eq_by_cmp path_cmp (path r d f)) ks) (take_at s x k) (take_at s x (path r d f)) refl (λ i n. ap (take_at s x) (same_path k i n)) (among s x ks)
      ∙ sym (ap (λ b. cond (b || list_any (eq_by_cmp path_cmp (path r d f)) ks) (take_at s x (path r d f)) None) (tied k))

  none_held : (x : Search) (o : Option Entry) → cond (is_some o) (option_and_then (λ e. take_of x (path r d f, e)) o) None ≡ option_and_then (λ e. take_of x (path r d f, e)) o
  none_held x None = refl
  none_held x (Some e) = refl

  -- The paths of a folder say what the path of the file name in it says.
  folder_says : (s : HostViewMap) (x : Search) → first_said (λ p. cond (bytes_eq p.name f) (take_at s x p) None) (filter (is_in r d) (finmap.keys (view s))) ≡ take_at s x (path r d f)
  folder_says s x =
      among s x (finmap.keys (view s))
      ∙ ap (λ b. cond b (take_at s x (path r d f)) None) (sym (contains_key-keys (view s) (path r d f)))
      ∙ none_held x (finmap.get (view s) (path r d f))

  -- Seen entries say what their paths say.
  entries_say : (s : HostViewMap) (x : Search) (es : List (PathParts × Entry)) → ((p : PathParts × Entry) → IsAmong p es → finmap.get (view s) p.0 ≡ Some p.1)
      → first_said (said_for x f) (filter (λ p. is_in r d p.0) es) ≡ first_said (λ p. cond (bytes_eq p.name f) (take_at s x p) None) (filter (is_in r d) (map (λ p. p.0) es))
  entries_say s x [] held = refl
  entries_say s x (p ∷ es) held =
      let rest = entries_say s x es (λ q h. held q (inr h)) in
      let same : said_for x f p ≡ cond (bytes_eq p.0.name f) (take_at s x p.0) None = ap (λ o. cond (bytes_eq p.0.name f) (option_and_then (λ e. take_of x (p.0, e)) o) None) (sym (held p (inl refl))) in
      elim (is_in r d p.0) as (λ b. first_said (said_for x f) (cond b (p ∷ filter (λ q. is_in r d q.0) es) (filter (λ q. is_in r d q.0) es)) ≡ first_said (λ q. cond (bytes_eq q.name f) (take_at s x q) None) (cond b (p.0 ∷ filter (is_in r d) (map (λ q. q.0) es)) (filter (is_in r d) (map (λ q. q.0) es)))) [
        | true ↦ (λ i. option_or (same i) (rest i))
        | false ↦ rest
      ]

  pub folder_entries_say : (s : HostViewMap) (x : Search) → first_said (said_for x f) (filter (λ p. is_in r d p.0) (finmap.entries (view s))) ≡ take_at s x (path r d f)
  folder_entries_say s x = entries_say s x (finmap.entries (view s)) (viewed_entry s) ∙ folder_says s x
