use Rattle.std.proofs.Common.{◌-◌, ◌<◌, ◌≡◌, ◌≤◌}
use Rattle.host_trees.proofs.Prelude.{ap, arith, eq-eqb, false, get_or, is_slash, length, List, not, suffix_len, suffix_len_is, sym, true, ℕ, ◌∙◌}
use Rattle.host_trees.proofs.links.after_slash.Goals as goal

ended : (xs : List ℕ) (n : ℕ) → n ≤ length xs → ((k : ℕ) → n ≤ k → k < length xs → is_slash (get_or xs k 0) ≡ false) → (0 < n → is_slash (get_or xs (n - 1) 0) ≡ true) → n ≡ length xs - suffix_len (λ b. not (is_slash b)) xs
ended xs n h all last =
    let s = suffix_len_is (λ b. not (is_slash b)) xs n 0 h (λ k a b. ap not (all k a b)) (λ p. ap not (last p)) in
    let e : n ≡ length xs - (length xs - n) = omega arith in
    e ∙ ap (λ x. length xs - x) (sym s)

pub returns-else-target-end-ne47-clause-place : goal.returns-else-target-end-ne47-clause-place
returns-else-target-end-ne47-clause-place c = ended c.args.target.now c.loop-end.end c.loop-end.invariant.0 c.loop-end.invariant.1 (λ _. eq-eqb _ _ c.if-target-end-ne47.false)

pub returns-after-loop-end-clause-place : goal.returns-after-loop-end-clause-place
returns-after-loop-end-clause-place c = ended c.args.target.now c.loop-end.end c.loop-end.invariant.0 c.loop-end.invariant.1 (λ (h : 0 < c.loop-end.end). absurd (omega arith))
