-- Sums modulo a number.
use Rattle.std.proofs.Common.{◌%◌, ◌++◌, ◌+◌, ◌<◌, ◌^◌, ◌∷◌, ◌≡◌}
use Rattle.range_prints.proofs.Prelude.{[], add-mod-mod, ap, arith, fold, fold-append, List, mod-add-mod, mod-eq_of_lt, mod-lt, PlaceParts, sym, Version, ℕ, ◌∙◌}
use Rattle.range_prints.specs.Prints.{print, version_print}

module _ {X : Type 0} (f : X → ℕ) (m : ℕ) (some : 0 < m) where
  -- the sum of what is added to a
  abbrev from : ℕ → List X → ℕ
  from a xs = fold (λ sum x. (sum + f x) % m) a xs

  sum_below : (a : ℕ) (xs : List X) → a < m → from a xs < m
  sum_below a [] lt = lt
  sum_below a (x ∷ xs) lt = sum_below ((a + f x) % m) xs (mod-lt (a + f x) some)

  from_any : (a : ℕ) (xs : List X) → a < m → from a xs ≡ (a + from 0 xs) % m
  from_any a [] lt = sym (let none : a + 0 ≡ a = omega arith in ap (λ n. n % m) none ∙ mod-eq_of_lt lt)
  from_any a (x ∷ xs) lt =
      let rest : ℕ = from 0 xs in
      let y : ℕ = f x in
      let here : from ((a + y) % m) xs ≡ ((a + y) % m + rest) % m = from_any ((a + y) % m) xs (mod-lt (a + y) some) in
      let there : from ((0 + y) % m) xs ≡ ((0 + y) % m + rest) % m = from_any ((0 + y) % m) xs (mod-lt (0 + y) some) in
      let one : (a + y) + rest ≡ (0 + y) + (a + rest) = omega arith in
      let two : (0 + y) % m + (a + rest) ≡ a + ((0 + y) % m + rest) = omega arith in
      here ∙ mod-add-mod (a + y) m rest ∙ ap (λ n. n % m) one ∙ sym (mod-add-mod (0 + y) m (a + rest)) ∙ ap (λ n. n % m) two ∙ sym (add-mod-mod a ((0 + y) % m + rest) m) ∙ sym (ap (λ n. (a + n) % m) there)

  pub sum-append : (xs ys : List X) → from 0 (xs ++ ys) ≡ (from 0 xs + from 0 ys) % m
  sum-append xs ys = fold-append (λ sum x. (sum + f x) % m) 0 xs ys ∙ from_any (from 0 xs) ys (sum_below 0 xs some)

  pub sum_bits : (xs : List X) → from 0 xs < m
  sum_bits xs = sum_below 0 xs some

pub print-append : (seed : ℕ) (vs ws : List (PlaceParts × Version)) → print seed (vs ++ ws) ≡ (print seed vs + print seed ws) % 2 ^ 64
print-append seed vs ws = sum-append (version_print seed) (2 ^ 64) (omega arith) vs ws

pub print_bits : (seed : ℕ) (vs : List (PlaceParts × Version)) → print seed vs < 2 ^ 64
print_bits seed vs = sum_bits (version_print seed) (2 ^ 64) (omega arith) vs
