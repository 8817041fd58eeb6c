use Rattle.std.proofs.Common.{◌++◌, ◌+◌, ◌≡◌}
use borrow.Rule.Slice.PartMut.{put_mid}
use Rattle.plain_values.proofs.Prelude.{ap, arith, length, length-append, List, take, take-append-le, take-put_mid, take_all, ℕ, ◌∙◌}
use Rattle.plain_values.proofs.short.ShortBytes.joined.Goals as goal

-- `front` is written first, and `back` after it
following : (prefix back head tail rest : List ℕ) (k : ℕ) → head ≡ prefix → tail ≡ back
    → take (length prefix + length back) (put_mid (length prefix) k (head ++ rest) tail) ≡ prefix ++ back
following prefix back head tail rest k is_head is_tail =
    let head_len : length head ≡ length prefix = ap length is_head in
    let tail_len : length tail ≡ length back = ap length is_tail in
    take-put_mid (length prefix) k (head ++ rest) tail _ (omega (arith, tail_len)) (omega (arith, head_len, length-append head rest))
    ∙ ap (λ xs. xs ++ tail) (take-append-le (length prefix) head rest (omega (arith, head_len)) ∙ take_all (length prefix) head (omega (arith, head_len)) ∙ is_head)
    ∙ ap (λ ys. prefix ++ ys) is_tail

pub returns : goal.returns
returns g c = record { joined = following _ _ _ _ _ _ c.copy_from_slice.ensures.after c.copy_from_slice-2.ensures.after }
