-- Reading from left to right, with the first fault that is met.
use Rattle.std.specs.Prelude.{ℕ, zero, suc, ◌-◌, ◌==◌, Bool, true, not, nat_lt, if◌then◌else◌, List, [], ◌∷◌, length, take, drop, codes, slice_index, Option, Some, None, Result, Ok, Err}
use Rattle.std.specs.Str.{bytes_eq}
use Rattle.std.specs.Ordering.{is_lt}
use Rattle.std.specs.declared.cmp.Ordering.{Ordering}
use Rattle.sha2.specs.Sha256.{sha256}
use Rattle.byte_fields.specs.Reading.{◌>>=◌, number_at}
use Rattle.byte_fields.specs.declared.faults.SpellingFault.{SpellingFault}
use Rattle.byte_fields.specs.declared.faults.SpellingFault.TheVariants as fault

abbrev pub Reader : Type 0 → Type 0
Reader A = List ℕ → Result (A × List ℕ) SpellingFault

-- whether a key is above the one before it, if there is one
abbrev pub is_above : {K : Type 0} → (K → K → Ordering) → Option K → K → Bool
is_above cmp None k = true
is_above cmp (Some j) k = is_lt (cmp j k)

-- a key that is above the one before it
unfoldable pub key_above_at : {K : Type 0} → (K → K → Ordering) → Reader K → Option K → Reader K
key_above_at cmp f last bytes = f bytes >>= λ key. if is_above cmp last key.0 then Ok key else Err fault.Order

-- a pair whose key is above the one before it
unfoldable pub pair_above_at : {K V : Type 0} → (K → K → Ordering) → Reader K → Reader V → Option K → Reader (K × V)
pair_above_at cmp f g last bytes = do
  key ← key_above_at cmp f last bytes
  value ← g key.1
  Ok ((key.0, value.0), value.1)

-- so many pairs, whose keys are in ascending order
unfoldable pub pairs_above_at : {K V : Type 0} → (K → K → Ordering) → Reader K → Reader V → ℕ → Option K → Reader (List (K × V))
pairs_above_at cmp f g zero last bytes = Ok ([], bytes)
pairs_above_at cmp f g (suc n) last bytes = do
  first ← pair_above_at cmp f g last bytes
  others ← pairs_above_at cmp f g n (Some first.0.0) first.1
  Ok (first.0 ∷ others.0, others.1)

-- a list that bytes may follow
unfoldable pub list_at : {K V : Type 0} → (K → K → Ordering) → Reader K → Reader V → Reader (List (K × V))
list_at cmp f g bytes = number_at bytes >>= λ count. pairs_above_at cmp f g count.0 None count.1

-- a list that isn't empty, and that bytes may follow
unfoldable pub group_at : {K V : Type 0} → (K → K → Ordering) → Reader K → Reader V → Reader (List (K × V))
group_at cmp f g bytes = list_at cmp f g bytes >>= λ ps. if nat_lt 0 (length ps.0) then Ok ps else Err fault.Number

unfoldable pub pairs_of : {K V : Type 0} → (K → K → Ordering) → Reader K → Reader V → List ℕ → Result (List (K × V)) SpellingFault
pairs_of cmp f g bytes = do
  count ← number_at bytes
  ps ← pairs_above_at cmp f g count.0 None count.1
  if length ps.1 == 0 then Ok ps.0 else Err fault.Trailing

-- what stands between the head and the checksum, if both are as they must be
unfoldable pub opened : ℕ → List ℕ → Result (List ℕ) SpellingFault
opened kind bytes =
    if nat_lt (length bytes) 38 then Err fault.Truncated
    else if not (bytes_eq (take 4 bytes) (codes "UCRS")) then Err fault.Magic
    else if not (slice_index bytes 4 == 1) then Err fault.Format
    else if not (slice_index bytes 5 == kind) then Err fault.Kind
    else if not (bytes_eq (sha256 (take (length bytes - 32) bytes)) (drop (length bytes - 32) bytes)) then Err fault.Checksum
    else Ok (drop 6 (take (length bytes - 32) bytes))

unfoldable pub all_of : {K V : Type 0} → (K → K → Ordering) → Reader K → Reader V → ℕ → List ℕ → Result (List (K × V)) SpellingFault
all_of cmp f g kind bytes = opened kind bytes >>= pairs_of cmp f g
