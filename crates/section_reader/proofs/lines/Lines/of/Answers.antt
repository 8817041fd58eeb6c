use Rattle.section_reader.{proofs.Prelude.{ap, lines, numbered}, specs.Lines.{physical_lines}}
use Rattle.section_reader.proofs.lines.Lines.of.Goals as goal

pub returns : goal.returns
unfolding physical_lines
returns c = record { lines = ap (λ v. numbered 1 (lines v)) c.without_mark.ensures.rest }
