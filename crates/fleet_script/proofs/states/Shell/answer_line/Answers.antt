use Rattle.fleet_script.proofs.{Lines.{answered_line}, Prelude.{Err, IfOk-weaker, kept_in, Ok, refl, sym}}
use Rattle.fleet_script.proofs.states.Shell.answer_line.Goals as goal

pub returns-in-Ok : goal.returns-in-Ok
returns-in-Ok g c = record { answered = answered_line (kept_in c.args.self.now) (kept_in c.execute.new.self) c.args.line.now c.in-Ok.text.items (Ok c.in-Ok.text.items) c.if-line-gt-LINE_LIMIT.false (sym c.if-is_passed_over.ensures.value) refl c.in-Ok.ensures.done }

pub returns-in-Err-Refused : goal.returns-in-Err-Refused
returns-in-Err-Refused g c = record {
  answered = IfOk-weaker c.refused-in-Err-Refused.result _ _
      (λ answer is. answered_line (kept_in c.args.self.now) (kept_in c.execute.new.self) c.args.line.now answer.items (Err c.in-Err-Refused.refusal) c.if-line-gt-LINE_LIMIT.false (sym c.if-is_passed_over.ensures.value) is (rw c.in-Err-Refused.field-0-is at c.in-Err-Refused.ensures.done))
      c.refused-in-Err-Refused.ensures.line;
}
