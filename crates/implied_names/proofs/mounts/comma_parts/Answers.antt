use Rattle.implied_names.proofs.Prelude.{is_comma, map_from_collect, rules, tests, YieldsList-from_slice_split}
use Rattle.implied_names.proofs.mounts.comma_parts.Goals as goal

pub returns : goal.returns
returns c = record { parts = map_from_collect _ c.collect.ensures.ran (YieldsList-from_slice_split _ is_comma c.args.text.now c.split.ensures.rest c.split.ensures.done c.split.ensures.closure (λ x r q k. search (rules, tests))) }
