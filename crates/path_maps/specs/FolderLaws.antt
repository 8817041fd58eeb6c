-- The entries of one folder among all entries.
use Rattle.std.proofs.Common.{◌&&◌, ◌++◌, ◌==◌, ◌∷◌, ◌≡◌}
use Rattle.path_maps.specs.Prelude.{[], and_parts, ap, append-nil, arith, below_all, Bool, bytes_eq, cond, eq_by_cmp, eq_by_cmp_equiv, Equal, false, filter, filter-append, find, Greater, is_eq, is_eq-slice_cmp, is_equal, is_sorted, IsTotalOrder, IsTrue, Less, List, nat_cmp, nat_cmp-IsAntisymmetric, nat_cmp_total, nat_list_cmp_total, nat_tests, None, Option, or_empty, Ordering, refl, slice_cmp-IsAntisymmetric, Some, subst, sym, tied_itself, true, ℕ, ◌∙◌}
use Rattle.path_maps.specs.{Folders.{is_in, names_in}, PathMapLaws.{found_well_formed, of_folder, of_rank}, PathMaps.{AreFolders, AreRanks, bytes_cmp, FolderMap, FoldersBelow, in_folder, in_rank, listed, NameMap, RankMap}, Spread.{AllKeys, spread}, SpreadLaws.{all_keys_weaker, find_below}}

module _ {A E : Type 0} (test : A → Bool) where
  all_pass : (xs : List (A × E)) → AllKeys (λ a. test a ≡ true) xs → filter (λ p. test p.0) xs ≡ xs
  all_pass [] h = refl
  all_pass (x ∷ xs) h = ap (λ b. cond b (x ∷ filter (λ p. test p.0) xs) (filter (λ p. test p.0) xs)) h.0 ∙ ap (λ (l : List (A × E)). x ∷ l) (all_pass xs h.1)

  none_passes : (xs : List (A × E)) → AllKeys (λ a. test a ≡ false) xs → filter (λ p. test p.0) xs ≡ []
  none_passes [] h = refl
  none_passes (x ∷ xs) h = ap (λ b. cond b (x ∷ filter (λ p. test p.0) xs) (filter (λ p. test p.0) xs)) h.0 ∙ none_passes xs h.1

  -- What holds of all keys holds of those that pass a test.
  pub some_keys : (P : A → Type 0) (xs : List (A × E)) → AllKeys P xs → AllKeys P (filter (λ p. test p.0) xs)
  some_keys P [] h = tt
  some_keys P (x ∷ xs) h = elim (test x.0) as (λ b. AllKeys P (cond b (x ∷ filter (λ p. test p.0) xs) (filter (λ p. test p.0) xs))) [
    | true ↦ (h.0, some_keys P xs h.1)
    | false ↦ some_keys P xs h.1
  ]

  -- If no pair of another key's part passes, what passes is what passes of this key's part.
  module _ {K V : Type 0} (R : K → K → Ordering) (o : IsTotalOrder R) (exact : (k l : K) → R k l ≡ Equal → k ≡ l)
      (part : K → List V → List (A × E)) (k : K) (nothing : (l : K) → part l [] ≡ [])
      (apart : (l : K) (v : List V) → eq_by_cmp R k l ≡ false → filter (λ p. test p.0) (part l v) ≡ []) where
    filter-spread : (es : List (K × List V)) → IsTrue (is_sorted R es)
        → filter (λ p. test p.0) (spread part es) ≡ filter (λ p. test p.0) (part k (or_empty (find R k es)))
    filter-spread [] s = sym (ap (filter (λ p. test p.0)) (nothing k))
    filter-spread (e ∷ es) s =
        let p = and_parts _ _ s in
        filter-append (λ p. test p.0) (part e.0 e.1) (spread part es) ∙
        elim (eq_by_cmp R k e.0) as (λ b. eq_by_cmp R k e.0 ≡ b → filter (λ p. test p.0) (part e.0 e.1) ++ filter (λ p. test p.0) (spread part es) ≡ filter (λ p. test p.0) (part k (or_empty (cond b (Some e.1) (find R k es))))) [
          | true ↦ λ t.
              let here = exact k e.0 (is_equal _ t) in
              let gone : find R k es ≡ None = find_below R k es (subst (λ x. IsTrue (below_all R x es)) (sym here) p.0) in
              let rest : filter (λ p. test p.0) (spread part es) ≡ [] = filter-spread es p.1 ∙ ap (λ x. filter (λ p. test p.0) (part k (or_empty x))) gone ∙ ap (filter (λ p. test p.0)) (nothing k) in
              ap (λ (l : List (A × E)). filter (λ p. test p.0) (part e.0 e.1) ++ l) rest ∙ append-nil _ ∙ ap (λ x. filter (λ p. test p.0) (part x e.1)) (sym here)
          | false ↦ λ t. ap (λ (l : List (A × E)). l ++ filter (λ p. test p.0) (spread part es)) (apart e.0 e.1 t) ∙ filter-spread es p.1
        ] refl

pub number_test : (a b : ℕ) → eq_by_cmp nat_cmp a b ≡ (a == b)
number_test a b = by (nat_cmp a b) refl
  where
    by : (o : Ordering) → nat_cmp a b ≡ o → is_eq o ≡ (a == b)
    by Less e = grind (arith, nat_tests)
    by Equal e = grind (arith, nat_tests)
    by Greater e = grind (arith, nat_tests)

module _ (rank : ℕ) (folder : List ℕ) where
  other_rank : (l : ℕ) (folders : FolderMap) → eq_by_cmp nat_cmp rank l ≡ false
      → filter (λ p. is_in rank folder p.0) (in_rank l folders) ≡ []
  other_rank l folders t =
      let unlike : (l == rank) ≡ false = sym (number_test l rank) ∙ (eq_by_cmp_equiv nat_cmp_total).symm l rank ∙ t in
      none_passes (is_in rank folder) (in_rank l folders)
      (all_keys_weaker (λ q. q.rank ≡ l) (λ q. is_in rank folder q ≡ false) (λ q is. ap (λ r. (r == rank) && bytes_eq q.folder folder) is ∙ ap (λ b. b && bytes_eq q.folder folder) unlike) (in_rank l folders) (of_rank l folders))

  other_folder : (l : List ℕ) (names : NameMap) → eq_by_cmp bytes_cmp folder l ≡ false
      → filter (λ p. is_in rank folder p.0) (in_folder rank l names) ≡ []
  other_folder l names t =
      let unlike : bytes_eq l folder ≡ false = sym (is_eq-slice_cmp l folder) ∙ (eq_by_cmp_equiv nat_list_cmp_total).symm l folder ∙ t in
      none_passes (is_in rank folder) (in_folder rank l names)
      (all_keys_weaker (λ q. (q.rank ≡ rank) × (q.folder ≡ l)) (λ q. is_in rank folder q ≡ false) (λ q is. ap (λ f. (q.rank == rank) && bytes_eq f folder) is.1 ∙ ap (λ b. (q.rank == rank) && b) unlike ∙ neither (q.rank == rank)) (in_folder rank l names) (of_folder rank l names))
    where
      neither : (b : Bool) → (b && false) ≡ false
      neither true = refl
      neither false = refl

  this_folder : (names : NameMap) → filter (λ p. is_in rank folder p.0) (in_folder rank folder names) ≡ in_folder rank folder names
  this_folder names =
      all_pass (is_in rank folder) (in_folder rank folder names)
      (all_keys_weaker (λ q. (q.rank ≡ rank) × (q.folder ≡ folder)) (λ q. is_in rank folder q ≡ true)
      (λ q is. (λ i. is_in rank folder (record { rank = is.0 i; folder = is.1 i; name = q.name })) ∙ ap (λ b. b && bytes_eq folder folder) (sym (number_test rank rank) ∙ ap is_eq (tied_itself nat_cmp_total rank)) ∙ sym (is_eq-slice_cmp folder folder) ∙ ap is_eq (tied_itself nat_list_cmp_total folder))
      (in_folder rank folder names) (of_folder rank folder names))

  in_folders : (folders : FolderMap) → AreFolders folders → filter (λ p. is_in rank folder p.0) (in_rank rank folders)
      ≡ in_folder rank folder (or_empty (find bytes_cmp folder folders))
  in_folders folders are =
      filter-spread (is_in rank folder) bytes_cmp nat_list_cmp_total (slice_cmp-IsAntisymmetric nat_cmp-IsAntisymmetric) (in_folder rank) folder (λ l. refl) other_folder folders are.sorted
      ∙ this_folder (or_empty (find bytes_cmp folder folders))

  -- The entries in a folder are what two look-ups find.
  pub folder-listed : (m : RankMap) → AreRanks m
      → filter (λ p. is_in rank folder p.0) (listed m) ≡ in_folder rank folder (names_in m rank folder)
  folder-listed m are =
      filter-spread (is_in rank folder) nat_cmp nat_cmp_total nat_cmp-IsAntisymmetric in_rank rank (λ l. refl) other_rank m are.sorted
      ∙ by (find nat_cmp rank m) refl
    where
      by : (x : Option FolderMap) → find nat_cmp rank m ≡ x
          → filter (λ p. is_in rank folder p.0) (in_rank rank (or_empty x))
          ≡ in_folder rank folder (or_empty (find bytes_cmp folder (or_empty x)))
      by None e = refl
      by (Some folders) e = in_folders folders (found_well_formed nat_cmp FoldersBelow AreFolders rank m are.held folders e)
