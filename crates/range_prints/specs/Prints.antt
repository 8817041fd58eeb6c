-- Prints of versions.
-- Source: sums of hashes of a set's members, after Bellare and Micciancio 1997; ranges that are compared by them, after
-- Meyer 2023. Which hash it is, and what it is fed, is this project's own.
use Rattle.std.proofs.Common.{◌%◌, ◌++◌, ◌+◌, ◌^◌, ◌∷◌}
use Rattle.std.specs.declared.hash.FoldHasher.{FoldHasher}
use Rattle.std.specs.Hash.FoldHasher as folding
use Rattle.range_prints.specs.Prelude.{[], fold, List, PlaceParts, Scope, scope_bytes, scope_sort, u32, u64, u8, Version, ℕ}

-- a hash that is fed these words one after another
abbrev pub hashed : FoldHasher → List (List ℕ) → FoldHasher
hashed h words = fold folding.write h words

-- what a hash is fed for a scope: its sort, and the name of a host
abbrev pub scope_words : Scope → List (List ℕ)
scope_words s = (scope_sort s ∷ []) ∷ scope_bytes s ∷ []

-- what a hash is fed for a version at a place: the seed, the version, and the parts of the place
abbrev pub print_words : ℕ → PlaceParts × Version → List (List ℕ)
print_words seed v =
    u64 seed ++ u64 v.1.counter ++ u32 v.1.writer ++ scope_words v.0.scope ++ u8 v.0.path.rank ++ v.0.path.folder ∷ v.0.path.name ∷ []

-- the print of a version at a place
unfoldable pub version_print : ℕ → PlaceParts × Version → ℕ
version_print seed v = folding.finish (hashed folding.initial (print_words seed v))

-- the print of some versions: the sum of theirs, of 64 bits
abbrev pub print : ℕ → List (PlaceParts × Version) → ℕ
print seed vs = fold (λ sum v. (sum + version_print seed v) % 2 ^ 64) 0 vs
