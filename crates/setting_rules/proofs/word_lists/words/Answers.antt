use Rattle.setting_rules.{proofs.Prelude.{has_bytes, is_white, map_from_collect, rules, tests, YieldsList-at, YieldsList-from_filter, YieldsList-from_slice_split}, specs.Words.{words_of}}
use Rattle.setting_rules.proofs.word_lists.words.Goals as goal

pub returns : goal.returns
unfolding words_of
returns c = record {
  words = map_from_collect _ c.collect.ensures.ran
      (YieldsList-from_filter _ has_bytes
      (YieldsList-at c.filter.ensures.source (YieldsList-from_slice_split _ is_white c.args.value.now c.split.ensures.rest c.split.ensures.done c.split.ensures.closure (λ x r q k. search (rules, tests))))
      c.filter.ensures.closure (λ x r q k. search (rules, tests)));
}
