use Rattle.std.proofs.Common.{◌+◌}
use Rattle.shared_node.proofs.{Prelude.{ap, calls_of, SeatNow, Step, sym, ◌∙◌}, Taken.{changing_seen, ends_seen, taken_calls, taken_number, taken_seen}}
use Rattle.shared_node.proofs.serving.do_message.Goals as goal

pub returns-in-Edit-clause-calls : goal.returns-in-Edit-clause-calls
returns-in-Edit-clause-calls g c =
    let s : SeatNow = c.args.seat.now in
    let taken = c.edit in
    taken_calls g.N.NodeName.opening taken.result s taken.new.seat taken.ensures.counted taken.ensures.fault
    ∙ ap (λ (x : Step). s.calls + calls_of x) (sym c.step_of.ensures)

pub returns-in-Edit-clause-seen : goal.returns-in-Edit-clause-seen
returns-in-Edit-clause-seen g c =
    let s : SeatNow = c.args.seat.now in
    let taken = c.edit in
    let t : SeatNow = taken.new.seat in
    taken_seen g.N.NodeName.opening taken.result s t _ _ (λ x p q. ends_seen s.seen x.1 t.seen _ p q.1) taken.ensures.taken taken.ensures.token taken.ensures.fault

pub returns-in-Edit-clause-number : goal.returns-in-Edit-clause-number
returns-in-Edit-clause-number g c =
    let taken = c.edit in
    taken_number g.N.NodeName.opening taken.result c.args.seat.now taken.new.seat taken.ensures.counted taken.ensures.fault

pub returns-in-Absorb-clause-calls : goal.returns-in-Absorb-clause-calls
returns-in-Absorb-clause-calls g c =
    let s : SeatNow = c.args.seat.now in
    let taken = c.absorb in
    taken_calls g.N.NodeName.opening taken.result s taken.new.seat taken.ensures.counted taken.ensures.fault
    ∙ ap (λ (x : Step). s.calls + calls_of x) (sym c.step_of-in-Absorb.ensures)

pub returns-in-Absorb-clause-seen : goal.returns-in-Absorb-clause-seen
returns-in-Absorb-clause-seen g c =
    let s : SeatNow = c.args.seat.now in
    let taken = c.absorb in
    let t : SeatNow = taken.new.seat in
    taken_seen g.N.NodeName.opening taken.result s t _ _ (λ x p q. changing_seen s.seen x.1 t.seen _ _ p q.1) taken.ensures.taken taken.ensures.token taken.ensures.fault

pub returns-in-Absorb-clause-number : goal.returns-in-Absorb-clause-number
returns-in-Absorb-clause-number g c =
    let taken = c.absorb in
    taken_number g.N.NodeName.opening taken.result c.args.seat.now taken.new.seat taken.ensures.counted taken.ensures.fault
