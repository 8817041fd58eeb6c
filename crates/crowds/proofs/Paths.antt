-- The text of a worker's path is read as that path.
use Rattle.std.proofs.Common.{◌++◌, ◌<◌, ◌^◌, ◌∷◌, ◌≡◌}
use Rattle.load_path.specs.Paths.{text_of}
use Rattle.crowds.proofs.Prelude.{[], and_from, and_parts, ap, are_their_texts, arith, codes, decimal, digits_decimal, is_ascii_digit, is_component, is_component_byte, IsDigitsTest, IsPath, le-leb, length, length-append, length-decimal-le, List, list_all, lt-ltb, nat_le, nat_tests, numerals_by_value, Ok, path_of, refl, rules, true, ℕ, ◌∙◌}
use Rattle.crowds.specs.Crowds.{crowd_path}

abbrev AreDigits : List ℕ → Type 0
AreDigits digits = list_all is_ascii_digit digits ≡ true

tells_digits : IsDigitsTest AreDigits
tells_digits = search rules

digit_in_component : (b : ℕ) → is_ascii_digit b ≡ true → is_component_byte b ≡ true
digit_in_component b is = grind (arith, nat_tests)

-- digits, and then bytes of a component
all_in_component : (digits rest : List ℕ) → list_all is_ascii_digit digits ≡ true → list_all is_component_byte rest ≡ true → list_all is_component_byte (digits ++ rest) ≡ true
all_in_component [] rest are more = more
all_in_component (d ∷ digits) rest are more =
    let parts = and_parts (is_ascii_digit d) (list_all is_ascii_digit digits) are in
    and_from _ _ (digit_in_component d parts.0) (all_in_component digits rest parts.1 more)

is_component_name : (worker : ℕ) → worker < 2 ^ 64 → is_component (codes "crowd-" ++ decimal worker ++ codes ".service") ≡ true
is_component_name worker small =
    let digits = all_in_component (decimal worker) (codes ".service") (digits_decimal (numerals_by_value _ tells_digits) worker (omega arith)) refl in
    let short = length-decimal-le 20 worker (omega arith) (omega arith) (omega arith) in
    let long = length-append (decimal worker) (codes ".service") in
    let tail : List ℕ = decimal worker ++ codes ".service" in
    let fits : nat_le (length (codes "crowd-" ++ tail)) 255 ≡ true = le-leb _ _ (simp (length-append) (omega (arith, short, long))) in
    and_from _ _ (and_from _ _ (and_from _ _ (lt-ltb 0 (length (codes "crowd-" ++ tail)) (omega arith)) fits) digits) refl

pub crowd_text_is_path : (worker : ℕ) (text : List ℕ) → worker < 2 ^ 64 → text ≡ codes "/etc/systemd/system/crowd-" ++ (decimal worker ++ codes ".service") → path_of text ≡ Ok (crowd_path worker)
unfolding crowd_path text_of
crowd_text_is_path worker text small is =
    let well_formed : IsPath (crowd_path worker) = record { directory = omega arith; folder = refl; name = is_component_name worker small } in
    let written : text ≡ text_of (crowd_path worker) = is in
    ap path_of written ∙ are_their_texts.read_back (crowd_path worker) well_formed
