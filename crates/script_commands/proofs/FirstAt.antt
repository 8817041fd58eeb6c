-- The host of a word, by the index of the word's first at sign.
use Rattle.std.proofs.Common.{◌+◌, ◌||◌, ◌∷◌, ◌≡◌}
use Rattle.script_commands.proofs.Prelude.{[], arith, Bool, cond, drop, false, host_in, is_at, length, List, list_any, nat_lt, nat_tests, None, not, position, position_or_len, refl, Some, suc, true, ℕ, ◌∙◌}

first_lt : (n : ℕ) → true ≡ nat_lt 0 (suc n)
first_lt n = grind (arith, nat_tests)

next_lt : (n m : ℕ) → nat_lt n m ≡ nat_lt (1 + n) (suc m)
next_lt n m = grind (arith, nat_tests)

-- a word has an at sign exactly if the first index is less than the length
has_at : (word : List ℕ) → list_any is_at word ≡ nat_lt (position_or_len is_at word) (length word)
has_at [] = refl
has_at (b ∷ word) = by (is_at b) (has_at word)
  where
    by : (t : Bool) → list_any is_at word ≡ nat_lt (position_or_len is_at word) (length word)
        → (t || list_any is_at word) ≡ nat_lt (cond (not t) (1 + position_or_len is_at word) 0) (length (b ∷ word))
    by true rest = first_lt (length word)
    by false rest = rest ∙ next_lt (position_or_len is_at word) (length word)

pub without_host : (word : List ℕ) → None ≡ position is_at word → None ≡ host_in word
without_host word none = grind (arith, has_at word)

pub with_host : (word : List ℕ) (at : ℕ) → Some at ≡ position is_at word → Some (drop (at + 1) word) ≡ host_in word
with_host word at some = grind (arith, has_at word)
