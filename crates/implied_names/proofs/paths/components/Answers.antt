use Rattle.implied_names.proofs.Prelude.{counts, is_slash, map_from_collect, rules, tests, YieldsList-at, YieldsList-from_filter, YieldsList-from_slice_split}
use Rattle.implied_names.proofs.paths.components.Goals as goal

pub returns : goal.returns
returns c = record {
  components = map_from_collect _ c.collect.ensures.ran
      (YieldsList-from_filter _ counts
      (YieldsList-at c.filter.ensures.source (YieldsList-from_slice_split _ is_slash c.args.text.now c.split.ensures.rest c.split.ensures.done c.split.ensures.closure (λ x r q k. search (rules, tests))))
      c.filter.ensures.closure (λ x r q k. search (rules, tests)));
}
