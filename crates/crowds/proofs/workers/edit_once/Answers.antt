use Rattle.std.proofs.Common.{◌+◌, ◌≤◌}
use Rattle.crowds.proofs.{Own.{own_more}, Prelude.{ap, crowd_place, HistoryEvent, List, own_edits, subst, sym, ◌∙◌}}
use Rattle.crowds.proofs.workers.edit_once.Goals as goal

pub returns-in-Ok-clause-own : goal.returns-in-Ok-clause-own
returns-in-Ok-clause-own g c =
    let worker = c.args.seat.now.number in
    let at = c.in_ok-place.ensures.place ∙ ap crowd_place c.number.ensures.number in
    subst (λ (h : List HistoryEvent). own_edits worker c.args.seat.now.seen + 1 ≤ own_edits worker h) (sym c.in-Ok.ensures.token.1)
    (own_more worker c.args.seat.now.seen _ _ at c.in-Ok.ensures.taken)
