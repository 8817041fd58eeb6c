-- A question has one answer, which is never that counters are spent.
use Rattle.std.proofs.Common.{◌≡◌}
use Rattle.script_answers.specs.Prelude.{[], Answer, ap, EntryMap, Err, false, is_spent, LineRefusal, LinkedUnit, List, NameFault, Ok, one_answer, Option, Outcome, PlanRefusal, Question, Result, subst, sym, Viewer, viewer_asked, ℕ, ◌∙◌}
use Rattle.script_answers.specs.{FileLaws.{name_refused_once, name_unspent}, HostLaws.{for_host_once, for_host_unspent}, Plans.{fault_of_plan, RefusesPlan}, Renders.{AreWritten, IsOutcomeOf, RendersFor, RendersQuestion, RendersWords}, TreeTextLaws.{tree_text_once}}
use Rattle.script_answers.specs.declared.asking.Form.{Form}
use Rattle.script_answers.specs.declared.asking.Form.TheVariants as form
use Rattle.script_commands.specs.declared.commands.Fault.TheVariants as fault
use Rattle.start_plan.specs.declared.requests.Refusal.TheVariants as plan
use Rattle.fleet_answers.specs.declared.questions.Answer.TheVariants as answer

-- the question that words make has one answer, or one refusal
abbrev pub QuestionsAreRenderedOnce : Type 0
QuestionsAreRenderedOnce = (form : Form) (asks_for : Option (List ℕ) → Result Question NameFault) (asked : Option (List ℕ)) (s : EntryMap) (a b : Outcome)
    → RendersFor form asks_for asked s a → RendersFor form asks_for asked s b → a ≡ b

-- ---- refusals of plans

same_refusal : (x r : LineRefusal) → fault.Refused x ≡ fault.Refused r → x ≡ r
same_refusal x r e = cc

memory_is_not_rendered : (r : LineRefusal) → fault.Memory ≡ fault.Refused r → ⊥
memory_is_not_rendered r e = cc

rendered_alike : (cause : PlanRefusal) (a b : Outcome) → RefusesPlan cause a → RefusesPlan cause b → a ≡ b
rendered_alike cause a b one other =
    one.outcome_is
    ∙ ap (λ (r : LineRefusal). Err r) (same_refusal one.refusal other.refusal (sym one.rendered ∙ other.rendered))
    ∙ sym other.outcome_is

refusal_unspent : (cause : PlanRefusal) (r : LineRefusal) → fault_of_plan cause ≡ fault.Refused r → is_spent (Err r) ≡ false
refusal_unspent plan.Template r e = ap (λ (x : LineRefusal). is_spent (Err x)) (sym (same_refusal _ r e))
refusal_unspent (plan.NotFound u) r e = ap (λ (x : LineRefusal). is_spent (Err x)) (sym (same_refusal _ r e))
refusal_unspent (plan.Masked u) r e = ap (λ (x : LineRefusal). is_spent (Err x)) (sym (same_refusal _ r e))
refusal_unspent (plan.Bad u) r e = ap (λ (x : LineRefusal). is_spent (Err x)) (sym (same_refusal _ r e))
refusal_unspent plan.ManualStart r e = ap (λ (x : LineRefusal). is_spent (Err x)) (sym (same_refusal _ r e))
refusal_unspent (plan.Requisite u v) r e = ap (λ (x : LineRefusal). is_spent (Err x)) (sym (same_refusal _ r e))
refusal_unspent (plan.Conflict u v) r e = ap (λ (x : LineRefusal). is_spent (Err x)) (sym (same_refusal _ r e))
refusal_unspent (plan.Cycle units) r e = ap (λ (x : LineRefusal). is_spent (Err x)) (sym (same_refusal _ r e))
refusal_unspent plan.Memory r e = absurd (memory_is_not_rendered r e)

-- ---- one outcome

written_once : (form : Form) (s : EntryMap) (viewer : Viewer) (all : List LinkedUnit) (a b : List ℕ)
    → AreWritten form s viewer all a → AreWritten form s viewer all b → a ≡ b
written_once form.Units s viewer all a b p q = p ∙ sym q
written_once form.Tree s viewer all a b p q = tree_text_once s viewer all a b p q

one_outcome : (form : Form) (s : EntryMap) (viewer : Viewer) (rendered : Answer) (a b : Outcome)
    → IsOutcomeOf form s viewer rendered a → IsOutcomeOf form s viewer rendered b → a ≡ b
one_outcome form s viewer answer.Template a b p q = p ∙ sym q
one_outcome form s viewer answer.TooManyUnits a b p q = p ∙ sym q
one_outcome form s viewer (answer.Unit linked) a b p q = p ∙ sym q
one_outcome form s viewer (answer.Pulled pairs) a b p q = p ∙ sym q
one_outcome form s viewer (answer.Planned plan) a b p q = p ∙ sym q
one_outcome form s viewer (answer.Refused cause) a b p q = rendered_alike cause a b p q
one_outcome form s viewer (answer.Units all) a b p q = p.2 ∙ ap (λ (text : List ℕ). Ok text) (written_once form s viewer all p.0 q.0 p.1 q.1) ∙ sym q.2

question_rendered_once : (form : Form) (question : Question) (s : EntryMap) (a b : Outcome)
    → RendersQuestion form question s a → RendersQuestion form question s b → a ≡ b
question_rendered_once form question s a b p q =
    one_outcome form s (viewer_asked question) q.0 a b
    (subst (λ (rendered : Answer). IsOutcomeOf form s (viewer_asked question) rendered a) (one_answer s [] question p.0 q.0 p.1 q.1) p.2) q.2

words_rendered_once : (form : Form) (read : Result Question NameFault) (s : EntryMap) (a b : Outcome)
    → RendersWords form read s a → RendersWords form read s b → a ≡ b
words_rendered_once form (Ok question) s a b p q = question_rendered_once form question s a b p q
words_rendered_once form (Err fault) s a b p q = name_refused_once a b fault p q

pub questions_are_rendered_once : QuestionsAreRenderedOnce
questions_are_rendered_once form asks_for asked s =
    for_host_once (λ host. RendersWords form (asks_for host)) asked s (λ host. words_rendered_once form (asks_for host) s)

-- ---- and it is never that counters are spent

outcome_unspent : (form : Form) (s : EntryMap) (viewer : Viewer) (rendered : Answer) (outcome : Outcome)
    → IsOutcomeOf form s viewer rendered outcome → is_spent outcome ≡ false
outcome_unspent form s viewer answer.Template outcome p = ap is_spent p
outcome_unspent form s viewer answer.TooManyUnits outcome p = ap is_spent p
outcome_unspent form s viewer (answer.Unit linked) outcome p = ap is_spent p
outcome_unspent form s viewer (answer.Pulled pairs) outcome p = ap is_spent p
outcome_unspent form s viewer (answer.Planned plan) outcome p = ap is_spent p
outcome_unspent form s viewer (answer.Units all) outcome p = ap is_spent p.2
outcome_unspent form s viewer (answer.Refused cause) outcome p = ap is_spent p.outcome_is ∙ refusal_unspent cause p.refusal p.rendered

words_unspent : (form : Form) (read : Result Question NameFault) (s : EntryMap) (outcome : Outcome)
    → RendersWords form read s outcome → is_spent outcome ≡ false
words_unspent form (Ok question) s outcome t = outcome_unspent form s (viewer_asked question) t.0 outcome t.2
words_unspent form (Err fault) s outcome t = name_unspent outcome fault t

pub questions_spend_nothing : (form : Form) (asks_for : Option (List ℕ) → Result Question NameFault)
    (asked : Option (List ℕ)) (s : EntryMap) (outcome : Outcome)
    → RendersFor form asks_for asked s outcome → is_spent outcome ≡ false
questions_spend_nothing form asks_for asked s =
    for_host_unspent (λ host. RendersWords form (asks_for host)) asked s (λ host. words_unspent form (asks_for host) s)
