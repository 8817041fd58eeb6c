use Rattle.section_reader.proofs.Prelude.{ap, drop, take_rest, ◌∙◌}
use Rattle.section_reader.proofs.parts.trim_start.Goals as goal

pub returns : goal.returns
returns c = record { part = take_rest c.args.bytes.now c.white_at_start.result ∙ ap (λ n. drop n c.args.bytes.now) c.white_at_start.ensures.count }
