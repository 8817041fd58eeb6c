-- Nodes are cut into chunks from the end: what is left before each cut, and what a chunk gets.
use Rattle.std.proofs.Common.{◌++◌, ◌+◌, ◌-◌, ◌/◌, ◌<◌, ◌∷◌, ◌≡◌, ◌≤◌}
use Rattle.worker_rounds.proofs.Prelude.{[], add-one, ap, append_assoc, arith, drop, le-div_iff_mul-le, le-mul_of_pos_right, length, List, mul-div-le, range_with_len, subst, suc, suc-mul, sym, take, take-append-drop, zero, ℕ, ◌∙◌}

-- where no more chunks are still to be cut than nodes are left, the next chunk isn't empty
pub some_in_chunk : (nodes left : ℕ) → 0 < left → left ≤ nodes → 0 < nodes / left
some_in_chunk nodes left pos le = let one = (le-div_iff_mul-le {k = left} {x = 1} {y = nodes} pos).1 (omega (arith, le)) in omega (arith, one)

-- and then enough nodes are left for the others
pub enough_left : (nodes left : ℕ) → 0 < left → left ≤ nodes → left - 1 ≤ nodes - nodes / left
enough_left nodes zero pos le = absurd (omega arith)
enough_left nodes (suc k) pos le =
    let some = some_in_chunk nodes (suc k) pos le in
    let all = mul-div-le nodes (suc k) in
    let others = le-mul_of_pos_right {m = nodes / suc k} k some in
    let parts = suc-mul k (nodes / suc k) in
    omega arith

-- the chunks' numbers go down to 0 as they are cut
pub number_more : (count done : ℕ) → done < count → (count - done - 1) ∷ range_with_len (count - done) done ≡ range_with_len (count - (done + 1)) (done + 1)
number_more count done l =
    let this : count - done - 1 ≡ count - suc done = omega arith in
    let next : count - done ≡ count - suc done + 1 = omega arith in
    rw add-one (ap (λ v. v ∷ range_with_len (count - done) done) this ∙ ap (λ v. (count - suc done) ∷ range_with_len v done) next)

-- the last of the remaining nodes go before the chunks
pub whole_more : {N : Type 0} (at : ℕ) (rest rest' last chunks nodes : List N) → rest' ≡ take at rest → last ≡ drop at rest → rest ++ chunks ≡ nodes → rest' ++ (last ++ chunks) ≡ nodes
whole_more at rest rest' last chunks nodes kept cut whole =
    sym (append_assoc rest' last chunks) ∙ ap (λ v. v ++ chunks) (ap (λ v. v ++ last) kept ∙ ap (λ v. take at rest ++ v) cut ∙ take-append-drop at rest) ∙ whole

-- where nothing is left, the chunks are everything
pub whole_at_end : {N : Type 0} (rest chunks nodes : List N) → length rest ≡ 0 → rest ++ chunks ≡ nodes → chunks ≡ nodes
whole_at_end [] chunks nodes e whole = whole
whole_at_end (x ∷ xs) chunks nodes e whole = absurd (omega arith)

-- the last chunk takes all
pub all_in_last : (nodes left : ℕ) → 0 < left → left ≤ 1 → nodes / left ≡ nodes
all_in_last nodes left pos le = let one : 1 ≡ left = omega arith in subst (λ v. nodes / v ≡ nodes) one (omega arith)
