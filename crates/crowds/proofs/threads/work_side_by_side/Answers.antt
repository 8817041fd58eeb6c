use Rattle.crowds.proofs.{Prelude.{AreGathered, HaveWorked, IfOk-weaker, rules}, Seated.{all_worked, none_taken}}
use Rattle.crowds.proofs.threads.work_side_by_side.Goals as goal

pub work_all-requires-clause-fresh : goal.work_all-requires-clause-fresh
work_all-requires-clause-fresh g c = (let fresh = none_taken c.in_ok-seats.seats.items c.in_ok-seats.ensures.fresh in search rules)

pub returns-clause-worked : goal.returns-clause-worked
returns-clause-worked g c =
    let came = c.in_ok-done.done.items in
    IfOk-weaker c.gather.result (λ seats. AreGathered came seats.items) (λ seats. HaveWorked c.args.edits seats.items)
    (λ seats. all_worked c.args.edits c.in_ok-seats.seats.items seats.items came c.in_ok-seats.ensures.fresh c.in_ok-done.ensures.count c.in_ok-done.ensures.each)
    c.gather.ensures.gathered
