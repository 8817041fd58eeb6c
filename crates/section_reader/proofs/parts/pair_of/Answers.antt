use Rattle.std.proofs.Common.{◌+◌, ◌<◌}
use Rattle.section_reader.proofs.{PartLemmas.{pair_of-both, pair_of-keyless, pair_of-plain}, Prelude.{ap, arith, drop, eqb-true, length, nat_tests, Some, sym, take_rest, trimmed, ◌∙◌}}
use Rattle.section_reader.proofs.parts.pair_of.Goals as goal

pub returns-in_err-at : goal.returns-in_err-at
returns-in_err-at c = rw c.from_residual.ensures (record { pair = pair_of-plain c.args.text.now (λ k h. c.in_err-at.ensures.place k (omega arith) h) })

pub returns-then-is_empty : goal.returns-then-is_empty
returns-then-is_empty c =
    let first = c.in_ok-at.ensures.place in
    let empty = ap length (sym c.trim-key.ensures.part) ∙ eqb-true _ _ (sym c.if-is_empty.ensures) in
    record { pair = pair_of-keyless c.args.text.now c.in_ok-at.at first.0.high first.1 (λ k h. first.0.before k (omega arith) h) empty }

pub returns-else-is_empty : goal.returns-else-is_empty
returns-else-is_empty c =
    let first = c.in_ok-at.ensures.place in
    let test = c.if-is_empty.ensures in
    let key = c.trim-key.ensures.part in
    let some : 0 < length c.trim-key.result.now = grind (arith, nat_tests, test) in
    let pair = pair_of-both c.args.text.now c.in_ok-at.at first.0.high first.1 (λ k h. first.0.before k (omega arith) h) (rw key at some) in
    record { pair = pair ∙ ap (λ k. Some (k, trimmed (drop (c.in_ok-at.at + 1) c.args.text.now))) (sym key) ∙ ap (λ v. Some (c.trim-key.result.now, v)) (sym (c.trim.ensures.part ∙ ap trimmed (take_rest c.args.text.now _))) }
