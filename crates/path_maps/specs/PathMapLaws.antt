-- What the map from paths to entries holds, and what look-ups find in joins of nested maps.
use Rattle.std.proofs.Common.{◌↔◌, ◌∷◌, ◌≡◌}
use Rattle.path_maps.specs.Prelude.{[], AllHeld, ap, At, both_up, cond, Content, content_cmp, content_cmp-IsAntisymmetric, content_cmp_total, eq_by_cmp, Equal, false, find, is_eq, is_sorted, IsBelow, IsBetween, IsJoin, IsTrue, IsUpTo, larger, leaf_below, leaf_between, leaf_bounds, leaf_join, Less, level_below, level_between, level_bounds, level_join, List, map_chain, map_itself, map_union, maps_one, max_joins, nat_cmp, nat_cmp-IsAntisymmetric, nat_cmp_total, nat_list_cmp_total, Never, None, Option, option_and_then, or_empty, Ordering, ordering_then, path_cmp, path_cmp-IsAntisymmetric, PathParts, refl, slice_cmp-IsAntisymmetric, Some, subst, sym, tied_itself, to_T, true, union_joins, union_keeps, up_to_chain, up_to_itself, Versioned, versioned_max, written, written_at, ℕ, ◌∙◌}
use Rattle.path_maps.specs.{PathMaps.{AreFolders, AreNames, AreRanks, at_name, bytes_cmp, flat, FolderMap, FoldersBelow, in_folder, in_rank, listed, look_up, NameMap, NamesBelow, RankMap, RanksBelow}, Spread.{AllKeys, AllValues, spread}, SpreadLaws.{all_keys-append, all_keys_weaker, find-spread, sorted-spread}}
use Rattle.std.specs.FinMap as finmap

bytes_same : (x y : List ℕ) → bytes_cmp x y ≡ Equal → x ≡ y
bytes_same = slice_cmp-IsAntisymmetric nat_cmp-IsAntisymmetric

-- ---- which paths the parts have

all_keys-spread : {K V A E : Type 0} (P : A → Type 0) (part : K → V → List (A × E))
    (h : (k : K) (v : V) → AllKeys P (part k v)) (es : List (K × V)) → AllKeys P (spread part es)
all_keys-spread P part h [] = tt
all_keys-spread P part h (e ∷ es) = all_keys-append P (part e.0 e.1) (spread part es) (h e.0 e.1) (all_keys-spread P part h es)

abbrev IsAtName : ℕ → List ℕ → List ℕ → PathParts → Type 0
IsAtName rank folder name q = q ≡ record { rank = rank; folder = folder; name = name }

abbrev pub IsInFolder : ℕ → List ℕ → PathParts → Type 0
IsInFolder rank folder q = (q.rank ≡ rank) × (q.folder ≡ folder)

abbrev pub IsInRank : ℕ → PathParts → Type 0
IsInRank rank q = q.rank ≡ rank

of_name : (rank : ℕ) (folder name : List ℕ) (v : Versioned Content) → AllKeys (IsAtName rank folder name) (at_name rank folder name v)
of_name rank folder name Never = tt
of_name rank folder name (At x) = (refl, tt)

pub of_folder : (rank : ℕ) (folder : List ℕ) (names : NameMap) → AllKeys (IsInFolder rank folder) (in_folder rank folder names)
of_folder rank folder names =
    all_keys-spread (IsInFolder rank folder) (at_name rank folder)
    (λ k v. all_keys_weaker (IsAtName rank folder k) (IsInFolder rank folder) (λ q is. (ap (λ (p : PathParts). p.rank) is, ap (λ (p : PathParts). p.folder) is)) (at_name rank folder k v) (of_name rank folder k v))
    names

pub of_rank : (rank : ℕ) (folders : FolderMap) → AllKeys (IsInRank rank) (in_rank rank folders)
of_rank rank folders =
    all_keys-spread (IsInRank rank) (in_folder rank)
    (λ k v. all_keys_weaker (IsInFolder rank k) (IsInRank rank) (λ q is. is.0) (in_folder rank k v) (of_folder rank k v)) folders

-- ---- their keys are in ascending order

one_sorted : (rank : ℕ) (folder name : List ℕ) (v : Versioned Content) → Unit {0} → IsTrue (is_sorted path_cmp (at_name rank folder name v))
one_sorted rank folder name Never h = refl
one_sorted rank folder name (At x) h = refl

by_name : (rank : ℕ) (folder : List ℕ) (k l : List ℕ) (a b : PathParts) → bytes_cmp k l ≡ Less
    → IsAtName rank folder k a → IsAtName rank folder l b → path_cmp a b ≡ Less
by_name rank folder k l a b less p q =
    (λ i. path_cmp (p i) (q i))
    ∙ ap (λ r. ordering_then r (ordering_then (bytes_cmp folder folder) (bytes_cmp k l))) (tied_itself nat_cmp_total rank)
    ∙ ap (λ r. ordering_then r (bytes_cmp k l)) (tied_itself nat_list_cmp_total folder) ∙ less

by_folder : (rank : ℕ) (k l : List ℕ) (a b : PathParts) → bytes_cmp k l ≡ Less → IsInFolder rank k a
    → IsInFolder rank l b → path_cmp a b ≡ Less
by_folder rank k l a b less p q =
    (λ i. ordering_then (nat_cmp (p.0 i) (q.0 i)) (ordering_then (bytes_cmp (p.1 i) (q.1 i)) (bytes_cmp a.name b.name)))
    ∙ ap (λ r. ordering_then r (ordering_then (bytes_cmp k l) (bytes_cmp a.name b.name))) (tied_itself nat_cmp_total rank)
    ∙ ap (λ r. ordering_then r (bytes_cmp a.name b.name)) less

by_rank : (k l : ℕ) (a b : PathParts) → nat_cmp k l ≡ Less → IsInRank k a → IsInRank l b → path_cmp a b ≡ Less
by_rank k l a b less p q =
    (λ i. ordering_then (nat_cmp (p i) (q i)) (ordering_then (bytes_cmp a.folder b.folder) (bytes_cmp a.name b.name)))
    ∙ ap (λ r. ordering_then r (ordering_then (bytes_cmp a.folder b.folder) (bytes_cmp a.name b.name))) less

pub all_well_formed : {K V : Type 0} (below : V → V → Type 0) (valid : V → Type 0) (es : List (K × V))
    → AllHeld below valid es → AllValues valid es
all_well_formed below valid [] h = tt
all_well_formed below valid (e ∷ es) h = (h.0.well_formed, all_well_formed below valid es h.1)

names_sorted : (rank : ℕ) (folder : List ℕ) (names : NameMap) → AreNames names → IsTrue (is_sorted path_cmp (in_folder rank folder names))
names_sorted rank folder names m =
    sorted-spread bytes_cmp path_cmp (IsAtName rank folder) (at_name rank folder) (of_name rank folder) (λ _. Unit {0}) (by_name rank folder) (one_sorted rank folder) names m.sorted
    (all_well_formed (IsUpTo content_cmp) (λ _. Unit {0}) names m.held)

folders_sorted : (rank : ℕ) (folders : FolderMap) → AreFolders folders → IsTrue (is_sorted path_cmp (in_rank rank folders))
folders_sorted rank folders m =
    sorted-spread bytes_cmp path_cmp (IsInFolder rank) (in_folder rank) (of_folder rank) AreNames (by_folder rank) (names_sorted rank) folders m.sorted
    (all_well_formed NamesBelow AreNames folders m.held)

pub listed_sorted : (m : RankMap) → AreRanks m → IsTrue (is_sorted path_cmp (listed m))
listed_sorted m is =
    sorted-spread nat_cmp path_cmp IsInRank in_rank of_rank AreFolders by_rank folders_sorted m is.sorted (all_well_formed FoldersBelow AreFolders m is.held)

-- The entries of the map, in path order.
pub entries-flat : (m : RankMap) → AreRanks m → finmap.entries (flat m) ≡ listed m
entries-flat m is = finmap.entries-from_sorted path_cmp (listed m) (to_T _ (listed_sorted m is))

-- ---- what is found there

pub found_well_formed : {K V : Type 0} (R : K → K → Ordering) (below : V → V → Type 0) (valid : V → Type 0) (k : K)
    (es : List (K × V)) → AllHeld below valid es → (v : V) → find R k es ≡ Some v → valid v
found_well_formed R below valid k [] h v e = cc (e)
found_well_formed R below valid k (x ∷ es) h v e =
    elim (eq_by_cmp R k x.0) as (λ b. cond b (Some x.1) (find R k es) ≡ Some v → valid v) [
      | true ↦ λ e. subst valid (some_one e) h.0.well_formed
      | false ↦ λ e. found_well_formed R below valid k es h.1 v e
    ] e
  where
    some_one : {A : Type 0} {x y : A} → Some x ≡ Some y → x ≡ y
    some_one e = cc

same_path : (q : PathParts) → eq_by_cmp path_cmp q q ≡ true
same_path q =
    ap is_eq
    (ap (λ r. ordering_then r (ordering_then (bytes_cmp q.folder q.folder) (bytes_cmp q.name q.name))) (tied_itself nat_cmp_total q.rank)
    ∙ ap (λ r. ordering_then r (bytes_cmp q.name q.name)) (tied_itself nat_list_cmp_total q.folder) ∙ tied_itself nat_list_cmp_total q.name)

find-at_name : (q : PathParts) (v : Versioned Content) → find path_cmp q (at_name q.rank q.folder q.name v) ≡ written v
find-at_name q Never = refl
find-at_name q (At x) = ap (λ b. cond b (Some x) None) (same_path q)

find-in_folder : (q : PathParts) (names : NameMap) → IsTrue (is_sorted bytes_cmp names)
    → find path_cmp q (in_folder q.rank q.folder names) ≡ written_at (find bytes_cmp q.name names)
find-in_folder q names s =
    find-spread bytes_cmp path_cmp (IsAtName q.rank q.folder) (at_name q.rank q.folder) (of_name q.rank q.folder) nat_list_cmp_total bytes_same path_cmp-IsAntisymmetric q q.name (λ l is. ap (λ (p : PathParts). p.name) (sym is)) names s
    ∙ by (find bytes_cmp q.name names)
  where
    by : (x : Option (Versioned Content)) → option_and_then (λ v. find path_cmp q (at_name q.rank q.folder q.name v)) x ≡ written_at x
    by None = refl
    by (Some v) = find-at_name q v

find-in_rank : (q : PathParts) (folders : FolderMap) → AreFolders folders → find path_cmp q (in_rank q.rank folders)
    ≡ written_at (find bytes_cmp q.name (or_empty (find bytes_cmp q.folder folders)))
find-in_rank q folders m =
    find-spread bytes_cmp path_cmp (IsInFolder q.rank) (in_folder q.rank) (of_folder q.rank) nat_list_cmp_total bytes_same path_cmp-IsAntisymmetric q q.folder (λ l is. sym is.1) folders m.sorted
    ∙ by (find bytes_cmp q.folder folders) refl
  where
    by : (x : Option NameMap) → find bytes_cmp q.folder folders ≡ x
        → option_and_then (λ v. find path_cmp q (in_folder q.rank q.folder v)) x
        ≡ written_at (find bytes_cmp q.name (or_empty x))
    by None e = refl
    by (Some names) e = find-in_folder q names (found_well_formed bytes_cmp NamesBelow AreNames q.folder folders m.held names e).sorted

pub find-listed : (m : RankMap) → AreRanks m → (q : PathParts) → find path_cmp q (listed m) ≡ look_up m q
find-listed m is q =
    find-spread nat_cmp path_cmp IsInRank in_rank of_rank nat_cmp_total nat_cmp-IsAntisymmetric path_cmp-IsAntisymmetric q q.rank (λ l at. sym at) m is.sorted
    ∙ by (find nat_cmp q.rank m) refl
  where
    by : (x : Option FolderMap) → find nat_cmp q.rank m ≡ x
        → option_and_then (λ v. find path_cmp q (in_rank q.rank v)) x
        ≡ written_at (find bytes_cmp q.name (or_empty (find bytes_cmp q.folder (or_empty x))))
    by None e = refl
    by (Some folders) e = find-in_rank q folders (found_well_formed nat_cmp FoldersBelow AreFolders q.rank m is.held folders e)

-- The map holds at a path what three look-ups find.
pub get-flat : (m : RankMap) → AreRanks m → (q : PathParts) → finmap.get (flat m) q ≡ look_up m q
get-flat m is q = finmap.get-from_sorted path_cmp (listed m) q (to_T _ (listed_sorted m is)) ∙ find-listed m is q

-- ---- joins, and what lies between

leaf_itself : (x : Versioned Content) → IsUpTo content_cmp x x
leaf_itself = up_to_itself content_cmp content_cmp_total

leaf_chain : (x y z : Versioned Content) → IsUpTo content_cmp x y → IsUpTo content_cmp y z → IsUpTo content_cmp x z
leaf_chain = up_to_chain content_cmp content_cmp_total

pub names_itself : (x : NameMap) → NamesBelow x x
names_itself = map_itself (IsUpTo content_cmp) leaf_itself leaf_chain bytes_cmp

pub names_chain : (x y z : NameMap) → NamesBelow x y → NamesBelow y z → NamesBelow x z
names_chain = map_chain (IsUpTo content_cmp) leaf_itself leaf_chain bytes_cmp

abbrev leaf_union : Versioned Content → Versioned Content → Versioned Content
leaf_union = versioned_max content_cmp

leaf_joins : (x y : Versioned Content) → IsJoin (IsUpTo content_cmp) x y (leaf_union x y)
leaf_joins = max_joins content_cmp content_cmp_total

abbrev pub names_union : NameMap → NameMap → NameMap
names_union = map_union bytes_cmp leaf_union

pub names_joins : (x y : NameMap) → IsJoin NamesBelow x y (names_union x y)
names_joins = union_joins bytes_cmp nat_list_cmp_total (IsUpTo content_cmp) leaf_union leaf_joins

pub folders_itself : (x : FolderMap) → FoldersBelow x x
folders_itself = map_itself NamesBelow names_itself names_chain bytes_cmp

pub folders_chain : (x y z : FolderMap) → FoldersBelow x y → FoldersBelow y z → FoldersBelow x z
folders_chain = map_chain NamesBelow names_itself names_chain bytes_cmp

abbrev pub folders_union : FolderMap → FolderMap → FolderMap
folders_union = map_union bytes_cmp names_union

pub folders_joins : (x y : FolderMap) → IsJoin FoldersBelow x y (folders_union x y)
folders_joins = union_joins bytes_cmp nat_list_cmp_total NamesBelow names_union names_joins

names_keep : (x y : NameMap) → AreNames x → AreNames y → AreNames (names_union x y)
names_keep x y a b =
    union_keeps bytes_cmp nat_list_cmp_total (IsUpTo content_cmp) (λ _. Unit {0}) leaf_union leaf_joins leaf_chain leaf_itself (λ _ _ _ _. tt) x y a b.held

pub folders_keep : (x y : FolderMap) → AreFolders x → AreFolders y → AreFolders (folders_union x y)
folders_keep x y a b =
    union_keeps bytes_cmp nat_list_cmp_total NamesBelow AreNames names_union names_joins names_chain names_itself names_keep x y a b.held

names_one : (x y : NameMap) → AreNames x → AreNames y → NamesBelow x y × NamesBelow y x → x ≡ y
names_one =
    maps_one bytes_cmp (IsUpTo content_cmp) nat_list_cmp_total (λ _. Unit {0}) bytes_same
    (λ x y _ _ both. both_up content_cmp content_cmp_total content_cmp-IsAntisymmetric x y both.0 both.1)

pub folders_one : (x y : FolderMap) → AreFolders x → AreFolders y → FoldersBelow x y × FoldersBelow y x → x ≡ y
folders_one = maps_one bytes_cmp NamesBelow nat_list_cmp_total AreNames bytes_same names_one

-- If one map is below another, what the first holds at a path is at most what the second holds there.
pub look_up_below : (a b : RankMap) → RanksBelow a b → (q : PathParts) → IsBelow (look_up a q) (look_up b q)
look_up_below a b h q =
    leaf_below content_cmp content_cmp_total content_cmp-IsAntisymmetric bytes_cmp nat_list_cmp_total q.name _ _
    (level_below bytes_cmp nat_list_cmp_total bytes_cmp nat_list_cmp_total (IsUpTo content_cmp) leaf_itself leaf_chain q.folder _ _
    (level_below nat_cmp nat_cmp_total bytes_cmp nat_list_cmp_total NamesBelow names_itself names_chain q.rank a b h))

pub look_up_join : (a b c : RankMap) → IsJoin RanksBelow a b c → (q : PathParts) → look_up c q ≡ larger (look_up a q) (look_up b q)
look_up_join a b c j q =
    leaf_join content_cmp content_cmp_total content_cmp-IsAntisymmetric bytes_cmp nat_list_cmp_total q.name _ _ _
    (level_join bytes_cmp nat_list_cmp_total bytes_cmp nat_list_cmp_total (IsUpTo content_cmp) leaf_itself leaf_chain q.folder _ _ _
    (level_join nat_cmp nat_cmp_total bytes_cmp nat_list_cmp_total NamesBelow names_itself names_chain q.rank a b c j))

pub look_up_between : (a b v : RankMap) → IsBetween RanksBelow a b v → (q : PathParts)
    → IsBelow (look_up v q) (larger (look_up a q) (look_up b q))
look_up_between a b v j q =
    leaf_between content_cmp content_cmp_total content_cmp-IsAntisymmetric bytes_cmp nat_list_cmp_total q.name _ _ _
    (level_between bytes_cmp nat_list_cmp_total bytes_cmp nat_list_cmp_total (IsUpTo content_cmp) leaf_itself leaf_chain q.folder leaf_union leaf_joins _ _ _
    (level_between nat_cmp nat_cmp_total bytes_cmp nat_list_cmp_total NamesBelow names_itself names_chain q.rank names_union names_joins a b v j))

pub look_up_bounds : (a b v r : RankMap)
    → ((z : RankMap) → (RanksBelow v z × RanksBelow r z) ↔ (RanksBelow a z × RanksBelow b z)) → (q : PathParts)
    → larger (look_up v q) (look_up r q) ≡ larger (look_up a q) (look_up b q)
look_up_bounds a b v r h q =
    leaf_bounds content_cmp content_cmp_total content_cmp-IsAntisymmetric bytes_cmp nat_list_cmp_total q.name _ _ _ _
    (level_bounds bytes_cmp nat_list_cmp_total bytes_cmp nat_list_cmp_total (IsUpTo content_cmp) leaf_itself leaf_chain q.folder leaf_union leaf_joins _ _ _ _
    (level_bounds nat_cmp nat_cmp_total bytes_cmp nat_list_cmp_total NamesBelow names_itself names_chain q.rank names_union names_joins a b v r h))
