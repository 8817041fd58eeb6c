-- What a map holds.
-- Source: this project's own.
use Rattle.std.proofs.Common.{◌∷◌, ◌≡◌}
use Rattle.std.specs.Prelude.{zero}
use Rattle.chunked_pairs.specs.Chunks.{all_pairs, AreChunks}
use Rattle.sorted_pairs.specs.Places.{IsAt}
use Rattle.join_maps.specs.declared.held.Held.{Held, TheVariants.{Alone, Runs}}
use Rattle.join_maps.specs.Prelude.{[], Equal, length, List, Ordering}
use Rattle.join_law.specs.Maps.{IsMap}

-- runs of pairs that stand side by side, all of which together are a map
pub record AreMapped {K V : Type 0} (R : K → K → Ordering) (below : V → V → Type 0) (valid : V → Type 0)
    (c : List (K × V) × List (K × List (K × V))) : Type 0 where
  pub chunks : AreChunks R c
  pub map : IsMap R below valid (all_pairs c)

module _ {K V : Type 0} where
  -- all pairs, in order
  abbrev pub held_pairs : Held K V → List (K × V)
  held_pairs (Alone a pairs) = pairs
  held_pairs (Runs c) = all_pairs c

  -- no pair stands alone
  abbrev pub AreRuns : Held K V → Type 0
  AreRuns (Alone a pairs) = ⊥
  AreRuns (Runs c) = Unit {0}

  module _ (R : K → K → Ordering) where
    -- a key has a seat, where its value can be joined: the pair that stands alone has that key, or there are runs
    abbrev pub HasSeat : K → Held K V → Type 0
    HasSeat k (Alone a pairs) = IsAt R k pairs zero
    HasSeat k (Runs c) = Unit {0}

    -- one pair, with a key
    abbrev pub IsForOne : List (K × V) → K → Type 0
    IsForOne [] k = ⊥
    IsForOne (e ∷ []) k = R e.0 k ≡ Equal
    IsForOne (e ∷ f ∷ es) k = ⊥

    -- the keys of some pairs have seats: it is one pair, with the key of the pair that stands alone, or there are runs
    abbrev pub HaveSeats : List (K × V) → Held K V → Type 0
    HaveSeats es (Alone a []) = ⊥
    HaveSeats es (Alone a (p ∷ ps)) = IsForOne es p.0
    HaveSeats es (Runs c) = Unit {0}

    -- the pairs are a map, and only one stands alone
    abbrev pub IsHeldMap : (V → V → Type 0) → (V → Type 0) → Held K V → Type 0
    IsHeldMap below valid (Alone a pairs) = IsMap R below valid pairs × (length pairs ≡ 1)
    IsHeldMap below valid (Runs c) = AreMapped R below valid c
