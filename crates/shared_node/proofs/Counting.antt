-- The counts of each seat's takes.
use Rattle.std.proofs.Common.{◌++◌, ◌+◌, ◌<◌, ◌==◌, ◌∷◌, ◌≡◌, ◌≢◌}
use mathlib.Core.Logic.{dite}
use Rattle.shared_node.proofs.Prelude.{[], ap, arith, cond, eq-eqb, get_or-set_other, get_or-set_same, HistoryEvent, is_take_of, length, length-set, List, ne_eqb, refl, slice_index, slice_set, sym, takes_of, takes_of-snoc, ℕ, ℕ_discrete, ◌∙◌}

pub counted : (counts : List ℕ) (h : List HistoryEvent) (x : HistoryEvent) (seat : ℕ) → ((s : ℕ) → is_take_of s x ≡ (seat == s)) → seat < length counts → ((s : ℕ) → s < length counts → slice_index counts s ≡ takes_of s h)
    → (s : ℕ) → s < length (slice_set counts seat (slice_index counts seat + 1)) → slice_index (slice_set counts seat (slice_index counts seat + 1)) s ≡ takes_of s (h ++ x ∷ [])
counted counts h x seat own here all s below =
    let n : ℕ = slice_index counts seat + 1 in
    let less : s < length counts = omega (arith, length-set counts seat n) in
    let now = all s less in
    let more = takes_of-snoc s h x in
    dite (ℕ_discrete s seat)
    (λ (e : s ≡ seat).
    let yes : ℕ = 1 in
    let one : cond (is_take_of s x) 1 0 ≡ yes = rw (own s, eq-eqb seat s (sym e)) refl in
    let at : slice_index (slice_set counts seat n) seat ≡ n = get_or-set_same counts seat n 0 here in
    let there : slice_index (slice_set counts seat n) s ≡ n = ap (λ (k : ℕ). slice_index (slice_set counts seat n) k) e ∙ at in
    let before : slice_index counts seat ≡ takes_of s h = ap (λ (k : ℕ). slice_index counts k) (sym e) ∙ now in
    omega (arith, there, before, one, more))
    (λ (ne : s ≢ seat).
    let no : ℕ = 0 in
    let none : cond (is_take_of s x) 1 0 ≡ no = rw (own s, ne_eqb seat s (λ e. ne (sym e))) refl in
    let there : slice_index (slice_set counts seat n) s ≡ slice_index counts s = get_or-set_other counts seat s n 0 ne in
    omega (arith, there, now, none, more))
