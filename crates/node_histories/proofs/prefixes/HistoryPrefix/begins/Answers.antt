use Rattle.std.proofs.Common.{◌≤◌}
use mathlib.Core.List.{IsPrefix}
use Rattle.node_histories.proofs.Prelude.{ap, arith, HistoryEvent, legal_filled, length, List, prefix_shorter, subst, takes_in}
use Rattle.node_histories.proofs.prefixes.HistoryPrefix.begins.Goals as goal

pub returns : goal.returns
returns g c =
    let both = c.learn.new.self.log in
    let one = c.self.inside.seen.log in
    let two = c.other.inside.seen.log in
    let this : IsPrefix one both = subst (λ (l : List HistoryEvent). IsPrefix l both) (ap (λ s. s.log) c.again-both.ensures) c.learn.ensures.2 in
    let fewer : takes_in one ≤ takes_in two = rw (c.self.view_is, c.other.view_is) c.requires.shorter in
    let first = legal_filled g.N.NodeName.opening one c.self.invariant.2 in
    let second = legal_filled g.N.NodeName.opening two c.other.invariant.2 in
    let less : length one ≤ length two = omega arith in
    record { begins = rw (← c.self.view_is, ← c.other.view_is) (prefix_shorter one two both this c.learn.ensures.3 less) }
