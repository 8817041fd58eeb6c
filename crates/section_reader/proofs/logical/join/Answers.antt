use Rattle.std.proofs.Common.{◌++◌}
use Rattle.section_reader.proofs.Prelude.{ap, append_assoc, Blank, Comment, Continued, continued_some, going_on, going_on-line, joined_lines, lines_following, lines_following-line, none_joined, spaced, sym, Whole, ◌∙◌}
use Rattle.section_reader.proofs.JoinLemmas.{fewer, following, recorded, recorded_end, recorded_none}
use Rattle.section_reader.proofs.logical.join.Goals as goal

pub returns-in-Blank-clause-text : goal.returns-in-Blank-clause-text
returns-in-Blank-clause-text c =
    recorded_end _ _ (recorded _ _ _ _ _ _ c.loop-line.invariant.0 c.in-Some.ensures.next (going_on-line Blank _ c.next_line.new.self (sym c.in-Blank.ensures.form)))

pub returns-in-Blank-clause-following : goal.returns-in-Blank-clause-following
returns-in-Blank-clause-following c = following _ _ _ _ _ c.loop-line.invariant.1 c.in-Some.ensures.next (lines_following-line Blank _ c.next_line.new.self (sym c.in-Blank.ensures.form))

pub loop-line-preserved-in-Comment : goal.loop-line-preserved-in-Comment
loop-line-preserved-in-Comment c =
    let is = sym c.in-Comment.ensures.form in (
      recorded _ _ _ _ _ _ c.loop-line.invariant.0 c.in-Some.ensures.next (going_on-line Comment _ c.next_line.new.self is),
      sym (following _ _ _ _ _ c.loop-line.invariant.1 c.in-Some.ensures.next (lines_following-line Comment _ c.next_line.new.self is)),
      fewer _ _ _ _ c.in-Some.ensures.next c.loop-line.invariant.2,
    )

pub push_spaced-requires-in-Continued : goal.push_spaced-requires-in-Continued
push_spaced-requires-in-Continued c = record { some = continued_some _ (sym c.in-Continued.ensures.form) }

pub loop-line-preserved : goal.loop-line-preserved
loop-line-preserved c =
    let is = sym c.in-Continued.ensures.form in
    let more = recorded _ _ _ _ _ _ c.loop-line.invariant.0 c.in-Some.ensures.next (going_on-line Continued _ c.next_line.new.self is) in (
      ap (λ v. v ++ going_on c.next_line.new.self) c.in_ok-push_spaced-in-Continued.ensures.text ∙ append_assoc c.loop-line.text.items (spaced c.in-Some.line.text.now) (going_on c.next_line.new.self) ∙ more,
      sym (following _ _ _ _ _ c.loop-line.invariant.1 c.in-Some.ensures.next (lines_following-line Continued _ c.next_line.new.self is)),
      fewer _ _ _ _ c.in-Some.ensures.next c.loop-line.invariant.2,
    )

pub returns-in-Whole-clause-text : goal.returns-in-Whole-clause-text
returns-in-Whole-clause-text c =
    c.in_ok-extend_from_slice-in-Whole.ensures.items
    ∙ recorded _ _ _ _ _ _ c.loop-line.invariant.0 c.in-Some.ensures.next (going_on-line Whole _ c.next_line.new.self (sym c.in-Whole.ensures.form))

pub returns-in-Whole-clause-following : goal.returns-in-Whole-clause-following
returns-in-Whole-clause-following c = following _ _ _ _ _ c.loop-line.invariant.1 c.in-Some.ensures.next (lines_following-line Whole _ c.next_line.new.self (sym c.in-Whole.ensures.form))

pub returns-clause-text : goal.returns-clause-text
returns-clause-text c = recorded_none _ _ _ c.loop-line.invariant.0 c.in_default.ensures.next

pub returns-clause-following : goal.returns-clause-following
returns-clause-following c =
    sym c.loop-line.invariant.1 ∙ ap lines_following c.in_default.ensures.next ∙ none_joined.1 ∙ sym (ap joined_lines c.in_default.ensures.end ∙ none_joined.0)
