-- How lists of keys and values are written, by how keys and values are.
-- Source: this project's own; the checksum is SHA-256 of FIPS 180-4.
use Rattle.std.specs.Prelude.{ℕ, ◌<◌, ◌^◌, List, [], ◌∷◌, ◌++◌, length, codes, IsTrue}
use Rattle.std.specs.List.{flat_map, AllByRecursion}
use Rattle.std.specs.FinMap.Entries.{is_sorted}
use Rattle.std.specs.declared.cmp.Ordering.{Ordering}
use Rattle.sha2.specs.Sha256.{sha256}
use Rattle.byte_fields.specs.Spelling.{number}

abbrev pub pair : {K V : Type 0} → (K → List ℕ) → (V → List ℕ) → K × V → List ℕ
pair s t p = s p.0 ++ t p.1

-- how many there are, and each
abbrev pub pairs : {K V : Type 0} → (K → List ℕ) → (V → List ℕ) → List (K × V) → List ℕ
pairs s t ps = number (length ps) ++ flat_map (pair s t) ps

-- four letters, the version of the format, and the kind of the value
abbrev pub head : ℕ → List ℕ
head kind = codes "UCRS" ++ 1 ∷ kind ∷ []

abbrev pub covered : {K V : Type 0} → (K → List ℕ) → (V → List ℕ) → ℕ → List (K × V) → List ℕ
covered s t kind ps = head kind ++ pairs s t ps

-- behind all that stands its checksum
abbrev pub spelling : {K V : Type 0} → (K → List ℕ) → (V → List ℕ) → ℕ → List (K × V) → List ℕ
spelling s t kind ps = covered s t kind ps ++ sha256 (covered s t kind ps)

-- pairs in ascending order of their keys; keys and values have a spelling
pub record ArePairs {K V : Type 0} (cmp : K → K → Ordering) (P : K → Type 0) (Q : V → Type 0) (ps : List (K × V)) : Type 0 where
  pub count : length ps < 2 ^ 64
  pub each : AllByRecursion (λ p. P p.0 × Q p.1) ps
  pub ascending : IsTrue (is_sorted cmp ps)

-- the same, and there are some
pub record AreGroup {K V : Type 0} (cmp : K → K → Ordering) (P : K → Type 0) (Q : V → Type 0) (ps : List (K × V)) : Type 0 where
  pub pairs : ArePairs cmp P Q ps
  pub some : 0 < length ps
