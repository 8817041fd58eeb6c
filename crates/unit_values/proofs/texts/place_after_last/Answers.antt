use Rattle.std.proofs.Common.{◌-◌, ◌<◌, ◌==◌, ◌≡◌, ◌≤◌}
use Rattle.unit_values.proofs.Prelude.{ap, arith, eq-eqb, false, get_or, length, List, not, suffix_len, suffix_len_is, sym, true, ℕ, ◌∙◌}
use Rattle.unit_values.proofs.texts.place_after_last.Goals as goal

-- the end, if no byte from there on is the mark and the one before is
ended : (xs : List ℕ) (m n : ℕ) → n ≤ length xs → ((k : ℕ) → n ≤ k → k < length xs → (get_or xs k 0 == m) ≡ false) → (0 < n → (get_or xs (n - 1) 0 == m) ≡ true) → n ≡ length xs - suffix_len (λ b. not (b == m)) xs
ended xs m n h all last =
    let s = suffix_len_is (λ b. not (b == m)) xs n 0 h (λ k a b. ap not (all k a b)) (λ p. ap not (last p)) in
    let e : n ≡ length xs - (length xs - n) = omega arith in
    e ∙ ap (λ x. length xs - x) (sym s)

pub returns-else-bytes-end-clause-place : goal.returns-else-bytes-end-clause-place
returns-else-bytes-end-clause-place c = ended c.args.bytes.now c.args.mark c.loop-end.end c.loop-end.invariant.0 c.loop-end.invariant.1 (λ _. eq-eqb _ _ c.if-bytes-end.false)

pub returns-after-loop-end-clause-place : goal.returns-after-loop-end-clause-place
returns-after-loop-end-clause-place c = ended c.args.bytes.now c.args.mark c.loop-end.end c.loop-end.invariant.0 c.loop-end.invariant.1 (λ (h : 0 < c.loop-end.end). absurd (omega arith))
