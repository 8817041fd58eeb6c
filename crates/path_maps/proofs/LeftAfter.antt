-- Keys of lists that are joined; what is held has an entry.
use Rattle.std.proofs.Common.{◌++◌, ◌∷◌, ◌≢◌}
use Rattle.path_maps.proofs.Prelude.{[], AllKeys, AreFolders, AreNames, AreRanks, At, at_name, Content, content_cmp, Entry, FolderMap, FoldersBelow, in_folder, in_rank, in_scope, IsLeast, IsUpTo, List, listed, NameMap, NamesBelow, Never, never_least, PathParts, placed, RankMap, RanksBelow, refl, Scope, Versioned, ℕ}
use Rattle.path_maps.proofs.Sames.{no_folders, no_names, no_ranks}

pub prefix_keys : {A E : Type 0} (P : A → Type 0) (xs ys : List (A × E)) → AllKeys P (xs ++ ys) → AllKeys P xs
prefix_keys P [] ys h = tt
prefix_keys P (x ∷ xs) ys h = (h.0, prefix_keys P xs ys h.1)

pub back_keys : {A E : Type 0} (P : A → Type 0) (xs ys : List (A × E)) → AllKeys P (xs ++ ys) → AllKeys P ys
back_keys P [] ys h = h
back_keys P (x ∷ xs) ys h = back_keys P xs ys h.1

some_prefix : {A : Type 0} (xs ys : List A) → xs ≢ [] → xs ++ ys ≢ []
some_prefix [] ys h = absurd (h refl)
some_prefix (x ∷ xs) ys h = λ e. cc (e)

pub at_name_some : (rank : ℕ) (folder name : List ℕ) (v : Versioned Content) → ¬ IsLeast (IsUpTo content_cmp) v → at_name rank folder name v ≢ []
at_name_some rank folder name Never h = absurd (h (never_least content_cmp))
at_name_some rank folder name (At x) h = λ e. cc (e)

-- A folder that is held has a name.
pub in_folder_some : (rank : ℕ) (folder : List ℕ) (names : NameMap) → ¬ IsLeast NamesBelow names → AreNames names → in_folder rank folder names ≢ []
in_folder_some rank folder [] h is = absurd (h no_names)
in_folder_some rank folder (n ∷ ns) h is = some_prefix (at_name rank folder n.0 n.1) (in_folder rank folder ns) (at_name_some rank folder n.0 n.1 is.held.0.not_least)

-- A rank that is held has a folder.
pub in_rank_some : (rank : ℕ) (folders : FolderMap) → ¬ IsLeast FoldersBelow folders → AreFolders folders → in_rank rank folders ≢ []
in_rank_some rank [] h is = absurd (h no_folders)
in_rank_some rank (f ∷ fs) h is = some_prefix (in_folder rank f.0 f.1) (in_rank rank fs) (in_folder_some rank f.0 f.1 is.held.0.not_least is.held.0.well_formed)

-- A scope that is held has a rank.
listed_some : (ranks : RankMap) → ¬ IsLeast RanksBelow ranks → AreRanks ranks → listed ranks ≢ []
listed_some [] h is = absurd (h no_ranks)
listed_some (r ∷ rs) h is = some_prefix (in_rank r.0 r.1) (listed rs) (in_rank_some r.0 r.1 is.held.0.not_least is.held.0.well_formed)

placed_some : (scope : Scope) (es : List (PathParts × Entry)) → es ≢ [] → placed scope es ≢ []
placed_some scope [] h = absurd (h refl)
placed_some scope (e ∷ es) h = λ w. cc (w)

pub in_scope_some : (scope : Scope) (ranks : RankMap) → ¬ IsLeast RanksBelow ranks → AreRanks ranks → in_scope scope ranks ≢ []
in_scope_some scope ranks h is = placed_some scope (listed ranks) (listed_some ranks h is)
