use Rattle.unit_values.proofs.Prelude.{is_dash, map_from_collect, rules, tests, YieldsList-from_slice_split}
use Rattle.unit_values.proofs.built_in.dash_parts.Goals as goal

pub returns : goal.returns
returns c = record { parts = map_from_collect _ c.collect.ensures.ran (YieldsList-from_slice_split _ is_dash c.args.name.now c.split.ensures.rest c.split.ensures.done c.split.ensures.closure (λ x r q k. search (rules, tests))) }
