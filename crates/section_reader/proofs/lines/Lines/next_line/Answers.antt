use Rattle.std.proofs.Common.{◌+◌}
use Rattle.section_reader.{proofs.Prelude.{ap, eqb-true, lines, nil_from_length, sym, ◌∙◌}, specs.Lines.{numbered}}
use Rattle.section_reader.proofs.lines.Lines.next_line.Goals as goal

pub returns-then-is_empty-clause-next : goal.returns-then-is_empty-clause-next
unfolding numbered
returns-then-is_empty-clause-next c =
    sym c.self.view_is ∙ ap (λ v. numbered (c.self.inside.read + 1) (lines v)) (nil_from_length _ (eqb-true _ _ (sym c.if-is_empty.ensures)))

pub returns-then-is_empty-clause-end : goal.returns-then-is_empty-clause-end
unfolding numbered
returns-then-is_empty-clause-end c =
    sym c.self.view_is ∙ ap (λ v. numbered (c.self.inside.read + 1) (lines v)) (nil_from_length _ (eqb-true _ _ (sym c.if-is_empty.ensures)))

pub returns-clause-next : goal.returns-clause-next
unfolding numbered
returns-clause-next c = sym c.self.view_is ∙ ap (λ v. numbered (c.self.inside.read + 1) v) c.cut_line.ensures.lines
