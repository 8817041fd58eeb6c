-- Lists of which each item is written, and read, after what the item before it told.
-- Source: this project's own.
use Rattle.std.specs.Prelude.{ℕ, zero, suc, ◌<◌, ◌^◌, List, [], ◌∷◌, ◌++◌, length, Ok}
use Rattle.byte_fields.specs.Reading.{◌>>=◌, number_at}
use Rattle.byte_fields.specs.Spelling.{number}
use Rattle.store_bytes.specs.ListReading.{Reader}

-- the items one after another, where this was told before the first
abbrev pub chain : {S A : Type 0} → (S → A → List ℕ) → (A → S) → S → List A → List ℕ
chain text told s [] = []
chain text told s (x ∷ xs) = text s x ++ chain text told (told x) xs

-- how many there are, and each
abbrev pub chained : {S A : Type 0} → (S → A → List ℕ) → (A → S) → S → List A → List ℕ
chained text told s xs = number (length xs) ++ chain text told s xs

-- so many items
unfoldable pub chain_at : {S A : Type 0} → (S → Reader A) → (A → S) → ℕ → S → Reader (List A)
chain_at at told zero s bytes = Ok ([], bytes)
chain_at at told (suc n) s bytes = do
  first ← at s bytes
  others ← chain_at at told n (told first.0) first.1
  Ok (first.0 ∷ others.0, others.1)

-- how many there are, and each
unfoldable pub chained_at : {S A : Type 0} → (S → Reader A) → (A → S) → S → Reader (List A)
chained_at at told s bytes = number_at bytes >>= λ count. chain_at at told count.0 s count.1

-- each item has a spelling after what the one before it told
abbrev pub IsChain : {S A : Type 0} → (S → A → Type 0) → (A → S) → S → List A → Type 0
IsChain Fits told s [] = Unit {0}
IsChain Fits told s (x ∷ xs) = Fits s x × IsChain Fits told (told x) xs

pub record AreChained {S A : Type 0} (Fits : S → A → Type 0) (told : A → S) (s : S) (xs : List A) : Type 0 where
  pub count : length xs < 2 ^ 64
  pub each : IsChain Fits told s xs
