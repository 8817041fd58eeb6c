use Rattle.std.proofs.Common.{◌+◌, ◌<◌, ◌≡◌, ◌≤◌}
use Rattle.shared_node.proofs.{Auditing.{all_more, get_below, sum_all, sum_more}, Prelude.{Agrees, arith, get_or, length, rules, SeatNow, sum_by, take}}
use Rattle.shared_node.proofs.audit.takes_of_others.Goals as goal

pub loop-seat-preserved : goal.loop-seat-preserved
loop-seat-preserved g c =
    let xs = c.args.seats.now.items in
    let i = c.loop-seat.seat-index in
    let s : SeatNow = c.seat-item.result in
    let e : s ≡ get_or xs i s = search rules in
    let less : i < length xs = search rules in
    let more : sum_by (λ (t : SeatNow). t.calls) (take (i + 1) xs) ≡ sum_by (λ (t : SeatNow). t.calls) (take i xs) + s.calls = sum_more (λ (t : SeatNow). t.calls) xs i s less e in
    let fewer : c.in-Some.fewer + s.calls ≡ c.loop-seat.others = search rules in
    let agrees : Agrees c.args.account.now.takes s = search rules in
    (omega (arith, fewer, more, c.loop-seat.invariant.0), all_more (Agrees c.args.account.now.takes) xs i s e agrees c.loop-seat.invariant.1)

pub returns-clause-sum : goal.returns-clause-sum
returns-clause-sum g c =
    let xs = c.args.seats.now.items in
    let i = c.loop-seat.seat-index in
    let all : length xs ≤ i = search rules in
    let whole = sum_all (λ (t : SeatNow). t.calls) xs i all in
    omega (arith, c.loop-seat.invariant.0, whole)

pub returns-clause-agree : goal.returns-clause-agree
returns-clause-agree g c = λ k s h.
    let xs = c.args.seats.now.items in
    let all : length xs ≤ c.loop-seat.seat-index = search rules in
    let less = get_below xs k s h in
    c.loop-seat.invariant.1 k s (omega arith) h
