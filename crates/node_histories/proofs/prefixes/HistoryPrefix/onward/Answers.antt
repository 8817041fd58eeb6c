use Rattle.std.proofs.Common.{◌≤◌}
use mathlib.Core.List.{IsPrefix}
use Rattle.node_histories.proofs.Prelude.{ap, arith, HistoryEvent, legal_filled, length, List, opening_of, prefix_shorter, subst, sym}
use Rattle.node_histories.proofs.prefixes.HistoryPrefix.onward.Goals as goal

pub returns-clause-goes_on : goal.returns-clause-goes_on
returns-clause-goes_on g c =
    let both = c.learn.new.self.log in
    let one = c.self.inside.seen.log in
    let two = c.args.seen.now.log in
    let this : IsPrefix one both = subst (λ (l : List HistoryEvent). IsPrefix l both) (ap (λ s. s.log) c.again-both.ensures) c.learn.ensures.2 in
    let first = legal_filled g.N.NodeName.opening one c.self.invariant.2 in
    let second = legal_filled (opening_of two) two c.requires.legal in
    let less : length one ≤ length two = omega (arith, c.if-takes-self.false, c.self.invariant.0, c.requires.counted) in
    let on : IsPrefix one two = prefix_shorter one two both this c.learn.ensures.3 less in
    subst (λ (l : List HistoryEvent). IsPrefix c.args.self.now l) (sym c.of.ensures.log) (subst (λ (l : List HistoryEvent). IsPrefix l two) c.self.view_is on)
