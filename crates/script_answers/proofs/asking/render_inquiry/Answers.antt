use Rattle.script_answers.proofs.{Prelude.{ap, EntryMap, Form, form_of, get_or, get_or_default, IsOutcomeOf, List, Option, question_by, RendersWords, Replicated, subst, Viewer, viewer_asked, ℕ, ◌∙◌}, Rendered.{answer_rendered, for_host, IsRendered, question_rendered}}
use Rattle.script_answers.proofs.asking.render_inquiry.Goals as goal

pub returns-in-Ok-clause-rendered : goal.returns-in-Ok-clause-rendered
returns-in-Ok-clause-rendered g c = λ d.
    let s = (get_or c.args.nodes.now c.args.node d).store in
    let form = form_of c.args.inquiry in
    let asked = question_by c.args.profile c.args.inquiry in
    let question = c.in_ok-question.question in
    let text = c.answer_text.result in
    let node = c.index-nodes-node.result in
    let same =
    ap (λ (ns : List Replicated). get_or ns c.args.node node) c.in-Ok.ensures.same
    ∙ get_or_default c.args.nodes.now c.args.node node d c.requires.within in
    let store = c.store.ensures.store ∙ ap (λ (r : Replicated). r.store) same in
    let said =
    subst (λ (f : Form). IsRendered text (IsOutcomeOf f s (viewer_asked question) c.in-Ok.answer)) c.of-form.ensures.form
    (subst (λ (t : EntryMap). IsRendered text (IsOutcomeOf c.of-form.result t (viewer_asked question) c.in-Ok.answer)) store
    (subst (λ (h : Viewer). IsRendered text (IsOutcomeOf c.of-form.result c.store.result.now h c.in-Ok.answer)) c.viewer.ensures.viewer c.answer_text.ensures.rendered)) in
    let rendered = answer_rendered form s question c.in-Ok.answer (c.in-Ok.ensures.answer d) text said in
    for_host c.args.host (λ (host : Option (List ℕ)). RendersWords form (asked host)) s c.in_ok-host.host c.in_ok-host.ensures.read text
    (question_rendered form (asked c.in_ok-host.host) s question c.in_ok-question.ensures.read text rendered)
