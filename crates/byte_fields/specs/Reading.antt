-- Reading from left to right, with the first fault that is met.
use Rattle.std.specs.Prelude.{◌≡◌, ℕ, zero, suc, ◌+◌, ◌-◌, ◌*◌, ◌^◌, ◌==◌, ◌||◌, nat_lt, nat_le, if◌then◌else◌, List, [], ◌∷◌, length, take, drop, Result, Ok, Err}
use Rattle.byte_fields.specs.declared.faults.SpellingFault.{SpellingFault}
use Rattle.byte_fields.specs.declared.faults.SpellingFault.TheVariants.{Truncated, Number}
use Rattle.byte_fields.specs.declared.faults.DecodeFault.{DecodeFault}
use Rattle.byte_fields.specs.declared.faults.DecodeFault.TheVariants as decode

infixl 10 ◌>>=◌
abbrev pub ◌>>=◌ : {A B : Type 0} → Result A SpellingFault → (A → Result B SpellingFault) → Result B SpellingFault
(Ok x) >>= f = f x
(Err e) >>= f = Err e

-- reading ends with this fault; out of memory it may be anything
abbrev pub Fails : {Y : Type 0} → DecodeFault → Result Y SpellingFault → Type 0
Fails decode.Memory read = Unit {0}
Fails (decode.Fault f) read = read ≡ Err f

-- what a function returned, seen by view, is what reading gives, unless memory ran out
abbrev pub Gives : {X Y : Type 0} → (X → Y) → Result X DecodeFault → Result Y SpellingFault → Type 0
Gives view (Ok x) read = read ≡ Ok (view x)
Gives view (Err e) read = Fails e read

-- a field that is read, and the bytes behind it
abbrev pub byte_at : List ℕ → Result (ℕ × List ℕ) SpellingFault
byte_at [] = Err Truncated
byte_at (byte ∷ rest) = Ok (byte, rest)

-- low seven bits, and the rest of the number, which isn't 0
abbrev pub with_high : ℕ → ℕ × List ℕ → Result (ℕ × List ℕ) SpellingFault
with_high low high = if high.0 == 0 || nat_le (2 ^ 57) high.0 then Err Number else Ok (low - 128 + 128 * high.0, high.1)

-- a byte below 128 is the number; behind one from 128 on the rest of it follows
abbrev pub from_low : (List ℕ → Result (ℕ × List ℕ) SpellingFault) → ℕ × List ℕ → Result (ℕ × List ℕ) SpellingFault
from_low more low = if nat_lt low.0 128 then Ok low else more low.1 >>= with_high low.0

-- a number in at most so many bytes, in its shortest form, below 2 ^ 64
unfoldable pub number_at_most : ℕ → List ℕ → Result (ℕ × List ℕ) SpellingFault
number_at_most zero bytes = Err Number
number_at_most (suc most) bytes = byte_at bytes >>= from_low (number_at_most most)

abbrev pub number_at : List ℕ → Result (ℕ × List ℕ) SpellingFault
number_at bytes = number_at_most 10 bytes

-- so many bytes, and the bytes behind them
abbrev pub cut_at : ℕ → List ℕ → Result (List ℕ × List ℕ) SpellingFault
cut_at len bytes = if nat_lt (length bytes) len then Err Truncated else Ok (take len bytes, drop len bytes)

unfoldable pub short_string_at : List ℕ → Result (List ℕ × List ℕ) SpellingFault
short_string_at bytes = do
  len ← byte_at bytes
  cut_at len.0 len.1

unfoldable pub long_string_at : List ℕ → Result (List ℕ × List ℕ) SpellingFault
long_string_at bytes = do
  len ← number_at bytes
  cut_at len.0 len.1
