use mathlib.Core.List.{IsPrefix}
use Rattle.shared_node.proofs.{Prelude.{ap, HistoryEvent, List, subst, sym, ◌∙◌}, Seeing.{shows_on}}
use Rattle.shared_node.proofs.post.publish.Goals as goal

pub publish_as-requires : goal.publish_as-requires
publish_as-requires g c next is =
    let w = c.args.writer in
    shows_on w.desk.place.id _ w.desk.shown.value next
    (ap (λ s. s.book) is ∙ c.requires.book)
    (subst (λ (l : List HistoryEvent). IsPrefix w.desk.shown.value.seen.log l) (sym (ap (λ s. s.log) is)) c.requires.goes_on)
