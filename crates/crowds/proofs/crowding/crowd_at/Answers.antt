use Rattle.crowds.proofs.{Held.{crowd_places_held, crowd_takes}, Prelude.{ap, Replicated, sym, ◌∙◌}}
use Rattle.std.specs.FinMap as finmap
use Rattle.crowds.proofs.crowding.crowd_at.Goals as goal

pub returns-in_ok-closed-in-Ok-clause-takes : goal.returns-in_ok-closed-in-Ok-clause-takes
returns-in_ok-closed-in-Ok-clause-takes g c = c.in_ok-closed-in-Ok.ensures.sum ∙ crowd_takes c.args.seats c.args.edits c.in-Ok.seats.items c.in-Ok.ensures.count c.in-Ok.ensures.worked

pub returns-in_ok-closed-in-Ok-clause-paths : goal.returns-in_ok-closed-in-Ok-clause-paths
returns-in_ok-closed-in-Ok-clause-paths g c =
    let closed = c.in_ok-closed-in-Ok in
    let held =
    crowd_places_held c.args.seats c.args.edits c.in-Ok.seats.items c.in-Ok.ensures.count c.in-Ok.ensures.worked _ _ closed.ensures.agree (sym closed.ensures.takes ∙ closed.ensures.sum) closed.ensures.legal in
    c.len.ensures.len ∙ ap finmap.len (c.store.ensures.store ∙ ap (λ (r : Replicated). r.store) closed.ensures.replica) ∙ held
