use Rattle.std.proofs.Common.{◌<◌}
use Rattle.script_words.proofs.{Prelude.{arith, eqb-true, length, nat_tests, sym}, WordLemmas.{after_word-cut, shorter-cut, words_of-cut, words_of-spaces}}
use Rattle.script_words.proofs.words.cut_word.Goals as goal

pub returns-then-is_empty-clause-words : goal.returns-then-is_empty-clause-words
returns-then-is_empty-clause-words c =
    words_of-spaces c.args.line.now (rw c.without_spaces-body.ensures.line at (eqb-true _ _ (sym c.if-is_empty.ensures)))

pub returns-clause-words : goal.returns-clause-words
returns-clause-words c =
    let test = c.if-is_empty.ensures in
    let some : 0 < length c.without_spaces-body.result.now = grind (arith, nat_tests, test) in
    words_of-cut _ _ _ _ _ c.without_spaces-body.ensures.line some c.count_to_space.ensures.count c.split_at.ensures.front c.split_at.ensures.back

pub returns-clause-rest : goal.returns-clause-rest
returns-clause-rest c = after_word-cut _ _ _ _ c.without_spaces-body.ensures.line c.count_to_space.ensures.count c.split_at.ensures.back

pub returns-clause-shorter : goal.returns-clause-shorter
returns-clause-shorter c =
    let test = c.if-is_empty.ensures in
    let some : 0 < length c.without_spaces-body.result.now = grind (arith, nat_tests, test) in
    shorter-cut _ _ _ _ c.without_spaces-body.ensures.line some c.count_to_space.ensures.count c.split_at.ensures.back
