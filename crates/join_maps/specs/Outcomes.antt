-- The result of joining many pairs, after success and after failure.
-- Source: this project's own.
use Rattle.std.proofs.Common.{◌+◌, ◌++◌, ◌<◌, ◌∷◌, ◌≡◌, ◌≢◌, ◌≤◌, ◌⊎◌, ◌↔◌}
use Rattle.chunked_pairs.specs.Chunks.{AllKeys, FallsTo, run_at}
use Rattle.sorted_pairs.specs.Places.{IsAt, IsGap}
use Rattle.std.specs.Prelude.{IfErr, IfOk, IsOk, IsSome, IsTrue}
use Rattle.join_law.specs.declared.joins.Rest.{Rest}
use Rattle.std.specs.FinMap.{find}
use Rattle.join_law.specs.{Maps.{IsMap, IsSinglePair, MapBelow}, Order.{IsBetween, IsJoin, IsLeast, IsPartialJoin}}
use Rattle.join_maps.specs.Prelude.{[], Bool, length, List, None, OnErr, OnFalse, OnOk, OnTrue, Ordering, Result, ℕ}

module _ {K V : Type 0} (R : K → K → Ordering) (below : V → V → Type 0) (valid is_single : V → Type 0) where
  -- Copies are joined: all of them, or else the new state lies between; if a single pair failed, nothing changed.
  pub record AreCopiesJoined {T E : Type 0} (outcome : Result T E) (first other now : List (K × V)) : Type 0 where
    pub map : IsMap R below valid now
    pub ok : OnOk outcome (IsJoin (MapBelow R below) first other now)
    pub refused : OnErr outcome (IsBetween (MapBelow R below) first other now)
    pub single : OnErr outcome (IsSinglePair is_single other → now ≡ first)

  -- One pair is joined. Its key is added exactly if it was absent and the value isn't least. Else the rest, with the same key, completes the
  -- join; if the value is single, nothing changed. Where values join in place, that fails for absent keys alone.
  pub record IsPairJoined (joins_in_place : Type 0) (outcome : Result Bool (Rest (K × V))) (k : K) (v : V)
      (first now : List (K × V)) : Type 0 where
    pub ok : OnOk outcome (IsJoin (MapBelow R below) first ((k, v) ∷ []) now)
    pub added : IfOk outcome (λ added. IsTrue added ↔ ((find R k first ≡ None) × ¬ IsLeast below v))
    pub key : IfErr outcome (λ fault. fault.rest.0 ≡ k)
    pub refused : IfErr outcome (λ fault. IsPartialJoin (MapBelow R below) first ((k, v) ∷ []) now (fault.rest ∷ []))
    pub left : IfErr outcome (λ fault. ¬ IsLeast below fault.rest.1)
    pub rest_valid : IfErr outcome (λ fault. valid fault.rest.1)
    pub single : IfErr outcome (λ _. is_single v → now ≡ first)
    pub in_place : joins_in_place → IsSome (find R k first) → IsOk outcome

  -- Owned pairs are joined: all of them, or else the rest completes the join; if a single pair failed, nothing changed.
  pub record ArePairsJoined (all : Bool) (first other now rest : List (K × V)) : Type 0 where
    pub map : IsMap R below valid now
    pub other_map : IsMap R below valid rest
    pub ok : OnTrue all (IsJoin (MapBelow R below) first other now)
    pub refused : OnFalse all (IsPartialJoin (MapBelow R below) first other now rest)
    pub single : OnFalse all (IsSinglePair is_single other → now ≡ first)

module _ {K V : Type 0} (R : K → K → Ordering) where
  -- a run has room for some pairs, or has all their keys
  abbrev pub IsRoomFor : List (K × V) → List (K × V) → Type 0
  IsRoomFor run pairs = (length run + length pairs ≤ 128) ⊎ AllKeys (λ q. find R q run ≢ None) pairs

  -- where a key stands in a run, or would be inserted in one that has room
  pub record IsPosition (k : K) (c : List (K × V) × List (K × List (K × V))) (at : ℕ) (index : Result ℕ ℕ) : Type 0 where
    pub within : at ≤ length c.1
    pub falls : FallsTo R k c.1 at
    pub found : IfOk index (IsAt R k (run_at c.0 c.1 at))
    pub absent : IfErr index (IsGap R k (run_at c.0 c.1 at))
    pub at_within : IfOk index (λ i. i < length (run_at c.0 c.1 at))
    pub gap_within : IfErr index (λ i. i ≤ length (run_at c.0 c.1 at))
    pub room : find R k (run_at c.0 c.1 at) ≡ None → length (run_at c.0 c.1 at) < 128

  module _ (below : V → V → Type 0) where
    -- the last of some pairs is joined, and what is left are the others
    pub record IsLastJoined (first other now left : List (K × V)) : Type 0 where
      pub key : K
      pub value : V
      pub parts : other ≡ left ++ (key, value) ∷ []
      pub joined : IsJoin (MapBelow R below) first ((key, value) ∷ []) now

    -- the last of some pairs is joined in part, and what is left of it stands in its place
    pub record IsLastStopped (valid is_single : V → Type 0) (first other now left : List (K × V)) : Type 0 where
      pub others : List (K × V)
      pub key : K
      pub value : V
      pub rest : V
      pub parts : other ≡ others ++ (key, value) ∷ []
      pub left_parts : left ≡ others ++ (key, rest) ∷ []
      pub partly : IsPartialJoin (MapBelow R below) first ((key, value) ∷ []) now ((key, rest) ∷ [])
      pub not_least : ¬ IsLeast below rest
      pub well_formed : valid rest
      pub single : is_single value → now ≡ first
