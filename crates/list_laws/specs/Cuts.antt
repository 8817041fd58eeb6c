-- A list of bytes split at an index.
-- Source: this project's own.
use Rattle.std.proofs.Common.{◌++◌, ◌+◌, ◌<◌, ◌∷◌, ◌≡◌, ◌≤◌}
use Rattle.list_laws.specs.Prelude.{All, All-from_get_or, ap, arith, drop, drop_more, get_or, get_or-take, length, length-take-le, List, sym, take, take-append-drop, ℕ, ◌∙◌}

-- a property of every byte before `end` is a property of every element of the prefix
pub All-take_before : (P : ℕ → Type 0) (bytes : List ℕ) (end : ℕ) → end ≤ length bytes
    → ((k : ℕ) → k < end → P (get_or bytes k 0)) → All P (take end bytes)
All-take_before P bytes end le before =
    All-from_get_or P (take end bytes) 0
    (λ k h. let lt : k < end = omega (arith, h, length-take-le end bytes le) in rw get_or-take (before k lt))

-- a list is the elements before an index, the element there, and the elements after it
pub cut_around : (bytes : List ℕ) (at b : ℕ) → at < length bytes → get_or bytes at 0 ≡ b → bytes ≡ take at bytes ++ b ∷ drop (at + 1) bytes
cut_around bytes at b lt is =
    sym (take-append-drop at bytes) ∙ ap (λ v. take at bytes ++ v) (drop_more bytes at 0 lt ∙ ap (λ v. v ∷ drop (at + 1) bytes) is)
