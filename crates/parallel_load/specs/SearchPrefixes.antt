-- Prefixes of names: a component of a footprint begins as one of the unit's names does. Definitions for private
-- clauses.
-- Source: systemd.unit(5), "Description": a name's folders are those of the name, and of the name with its prefix cut
-- after a dash, and their templates; so a component that is one of these with an ending begins as the name does, as far
-- as its own first dot or at sign.
use Rattle.std.proofs.Common.{◌++◌, ◌<◌, ◌==◌, ◌||◌, ◌∷◌, ◌≡◌, ◌≢◌, ◌≤◌, ◌⊎◌}
use Rattle.parallel_load.specs.Prelude.{[], Bool, codes, eqb, false, Greater, is_dot, length, List, list_any, Name, name_cmp, slice_index_or, starts_with, true, ℕ}

-- a dot or an at sign
abbrev pub is_stop : ℕ → Bool
is_stop b = b == 46 || b == 64

abbrev pub HasNoStop : List ℕ → Type 0
HasNoStop bytes = list_any is_stop bytes ≡ false

-- the bytes end in a dash
pub record EndsInDash (bytes : List ℕ) : Type 0 where
  pub start : List ℕ
  pub is : bytes ≡ start ++ 45 ∷ []

-- The prefix of a component: the bytes up to and with its first stop, or without the stop where a dash stands before
-- it.
pub record IsSearchPrefixOf (part search_prefix : List ℕ) : Type 0 where
  pub before : List ℕ
  pub stop : ℕ
  pub rest : List ℕ
  pub is : part ≡ before ++ stop ∷ rest
  pub plain : HasNoStop before
  pub stopped : is_stop stop ≡ true
  pub search_prefix_is : ((search_prefix ≡ before) × EndsInDash before) ⊎ ((search_prefix ≡ before ++ stop ∷ []) × ¬ EndsInDash before)

-- the name begins with these bytes
pub record BeginsWith (search_prefix : List ℕ) (name : Name) : Type 0 where
  pub rest : List ℕ
  pub is : name ≡ search_prefix ++ rest

-- the same as a test
abbrev pub begins_so : List ℕ → Name → Bool
begins_so search_prefix name = starts_with eqb name search_prefix

-- the component is no type's drop-in folder: a type's word has no dot
abbrev pub IsOfNoType : List ℕ → Type 0
IsOfNoType part = (word : List ℕ) → part ≡ word ++ codes ".d" → list_any is_dot word ≡ true

-- if this word is a type's, the component is its drop-in folder
pub record IsOfType (part word : List ℕ) : Type 0 where
  pub is : part ≡ word ++ codes ".d"
  pub dotless : list_any is_dot word ≡ false

-- the name ends with these bytes
pub record EndsWith (ending : List ℕ) (name : Name) : Type 0 where
  pub start : List ℕ
  pub is : name ≡ start ++ ending

-- the names of the pairs are in ascending order; equal names may occur
abbrev pub IsNonDecreasing : {V : Type 0} → List (Name × V) → Type 0
IsNonDecreasing {V} pairs = (i j : ℕ) (d : Name × V) → i ≤ j → j < length pairs → name_cmp (slice_index_or pairs i d).0 (slice_index_or pairs j d).0 ≢ Greater

-- all names that begin with these bytes are from the first place up to, but not at, the second
abbrev pub AreWithin : {V : Type 0} → List ℕ → List (Name × V) → ℕ → ℕ → Type 0
AreWithin {V} search_prefix pairs from to = (i : ℕ) (d : Name × V) → i < length pairs → BeginsWith search_prefix (slice_index_or pairs i d).0 → (from ≤ i) × (i < to)
