use Rattle.std.proofs.Common.{◌++◌, ◌≡◌}
use Rattle.chunked_pairs.proofs.{Lasts.{back_chunks, back_without, nothing_taken}, Prelude.{all_pairs, ap, arith, given_back, length, option_to_list, vec_len, run_at, sym, with_run, ◌∙◌}}
use Rattle.chunked_pairs.proofs.chunks.Chunks.pop_last.Goals as goal

pub returns-clause-pairs : goal.returns-clause-pairs
returns-clause-pairs g c =
    let run = c.args.self.now.0 in
    let ms = c.args.self.now.1 in
    let last = c.last_run-last.ensures.last in
    let parts = ap (run_at run ms) (sym last) ∙ sym c.take-run.ensures.run ∙ c.pop-pair.ensures.items in
    back_without run ms _ (option_to_list c.pop-pair.result) parts
    ∙ ap (λ v. all_pairs (given_back v.0 v.1 c.pop-pair.new.self.items) ++ option_to_list c.pop-pair.result) (ap (λ n. with_run run ms n _) (sym last) ∙ sym c.take-run.ensures.left)
    ∙ ap (λ v. all_pairs v ++ option_to_list c.pop-pair.result) (sym c.give_back.ensures.back)

pub returns-clause-chunks : goal.returns-clause-chunks
returns-clause-chunks g c =
    let run = c.args.self.now.0 in
    let ms = c.args.self.now.1 in
    let last = c.last_run-last.ensures.last in
    let parts = ap (run_at run ms) (sym last) ∙ sym c.take-run.ensures.run ∙ c.pop-pair.ensures.items in
    rw (c.give_back.ensures.back, c.take-run.ensures.left, last) (back_chunks g.K.Ord.cmp g.met.K.Ord.total run ms c.pop-pair.new.self.items (option_to_list c.pop-pair.result) c.requires.chunks parts)

pub returns-clause-none : goal.returns-clause-none
returns-clause-none g c =
    let run = c.args.self.now.0 in
    let ms = c.args.self.now.1 in
    let count : length c.take-run.result.items ≡ vec_len c.take-run.result = omega arith in
    let is = ap length (c.take-run.ensures.run ∙ ap (run_at run ms) c.last_run-last.ensures.last) in
    nothing_taken g.K.Ord.cmp g.met.K.Ord.total c.args.self.now c.pop-pair.result (vec_len c.take-run.result) c.requires.chunks (omega (arith, count, is)) c.pop-pair.ensures.variant.1
