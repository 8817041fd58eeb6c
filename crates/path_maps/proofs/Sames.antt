-- Nested maps that hold the same are equal.
use Rattle.std.proofs.Common.{◌≡◌}
use Rattle.path_maps.proofs.Prelude.{[], all_held, ap, AreFolders, AreRanks, AreScopes, At, below_refl, bytes_cmp, Content, content_cmp, EntryMap, find, FolderMap, folders_chain, folders_itself, folders_one, FoldersBelow, get-held, IsBelow, IsUpTo, List, look_up, look_up_place, map_chain, maps_one, NameMap, names_chain, NamesBelow, nat_cmp, nat_cmp-IsAntisymmetric, nat_cmp_total, Never, never_least, None, Option, OptionBelow, or_empty, PathParts, PlaceParts, RankMap, RanksBelow, scope_cmp, scope_cmp-IsAntisymmetric, scope_cmp_total, ScopeMap, ScopesBelow, Some, subst, sym, Versioned, within, written_at, ℕ, ◌∙◌}
use Rattle.std.specs.FinMap as finmap

pub no_names : (z : NameMap) → NamesBelow [] z
no_names z = record { at = λ q. tt }

pub no_folders : (z : FolderMap) → FoldersBelow [] z
no_folders z = record { at = λ q. tt }

-- ---- maps that hold at most the same everywhere are below

names_from : (a b : NameMap) → ((n : List ℕ) → IsBelow (written_at (find bytes_cmp n a)) (written_at (find bytes_cmp n b))) → NamesBelow a b
names_from a b h = record { at = λ n. by (find bytes_cmp n a) (find bytes_cmp n b) (h n) }
  where
    by : (x y : Option (Versioned Content)) → IsBelow (written_at x) (written_at y) → OptionBelow (IsUpTo content_cmp) x y
    by None y h = tt
    by (Some Never) None h = never_least content_cmp
    by (Some (At x)) None h = absurd h
    by (Some x) (Some y) h = h

folders_from : (a b : FolderMap) → ((f n : List ℕ) → IsBelow (written_at (find bytes_cmp n (or_empty (find bytes_cmp f a)))) (written_at (find bytes_cmp n (or_empty (find bytes_cmp f b))))) → FoldersBelow a b
folders_from a b h = record { at = λ f. by (find bytes_cmp f a) (find bytes_cmp f b) (h f) }
  where
    by : (x y : Option NameMap) → ((n : List ℕ) → IsBelow (written_at (find bytes_cmp n (or_empty x))) (written_at (find bytes_cmp n (or_empty y)))) → OptionBelow NamesBelow x y
    by None y h = tt
    by (Some x) None h = λ z. names_chain x [] z (names_from x [] h) (no_names z)
    by (Some x) (Some y) h = names_from x y h

ranks_from : (a b : RankMap) → ((q : PathParts) → IsBelow (look_up a q) (look_up b q)) → RanksBelow a b
ranks_from a b h = record { at = λ r. by (find nat_cmp r a) (find nat_cmp r b) (λ f n. h (record { rank = r; folder = f; name = n })) }
  where
    by : (x y : Option FolderMap) → ((f n : List ℕ) → IsBelow (written_at (find bytes_cmp n (or_empty (find bytes_cmp f (or_empty x))))) (written_at (find bytes_cmp n (or_empty (find bytes_cmp f (or_empty y)))))) → OptionBelow FoldersBelow x y
    by None y h = tt
    by (Some x) None h = λ z. folders_chain x [] z (folders_from x [] h) (no_folders z)
    by (Some x) (Some y) h = folders_from x y h

-- ---- so maps that hold the same are equal

ranks_one : (x y : RankMap) → AreRanks x → AreRanks y → RanksBelow x y × RanksBelow y x → x ≡ y
ranks_one = maps_one nat_cmp FoldersBelow nat_cmp_total AreFolders nat_cmp-IsAntisymmetric folders_one

-- ---- the same for places

ranks_chain : (x y z : RankMap) → RanksBelow x y → RanksBelow y z → RanksBelow x z
ranks_chain = map_chain FoldersBelow folders_itself folders_chain nat_cmp

pub no_ranks : (z : RankMap) → RanksBelow [] z
no_ranks z = record { at = λ q. tt }

scopes_from : (a b : ScopeMap) → ((q : PlaceParts) → IsBelow (look_up_place a q) (look_up_place b q)) → ScopesBelow a b
scopes_from a b h = record { at = λ s. by (find scope_cmp s a) (find scope_cmp s b) (λ p. h (within s p)) }
  where
    by : (x y : Option RankMap) → ((p : PathParts) → IsBelow (look_up (or_empty x) p) (look_up (or_empty y) p)) → OptionBelow RanksBelow x y
    by None y h = tt
    by (Some x) None h = λ z. ranks_chain x [] z (ranks_from x [] h) (no_ranks z)
    by (Some x) (Some y) h = ranks_from x y h

scopes_one : (x y : ScopeMap) → AreScopes x → AreScopes y → ScopesBelow x y × ScopesBelow y x → x ≡ y
scopes_one = maps_one scope_cmp RanksBelow scope_cmp_total AreRanks scope_cmp-IsAntisymmetric ranks_one

pub held_one : (a b : ScopeMap) → AreScopes a → AreScopes b → all_held a ≡ all_held b → a ≡ b
held_one a b is_a is_b e =
    let alike : (q : PlaceParts) → look_up_place a q ≡ look_up_place b q = λ q. sym (get-held a is_a q) ∙ ap (λ (s : EntryMap). finmap.get s q) e ∙ get-held b is_b q in
    scopes_one a b is_a is_b (
      scopes_from a b (λ q. subst (λ x. IsBelow (look_up_place a q) x) (alike q) (below_refl (look_up_place a q))),
      scopes_from b a (λ q. subst (λ x. IsBelow (look_up_place b q) x) (sym (alike q)) (below_refl (look_up_place b q))),
    )
