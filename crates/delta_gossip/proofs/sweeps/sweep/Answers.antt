use Rattle.std.proofs.Common.{◌∷◌}
use Rattle.delta_gossip.proofs.{Joins.{on_err}, Prelude.{on_err_weaker}, Rounds.{swept_again, swept_below, swept_first, swept_second}}
use Rattle.delta_gossip.proofs.sweeps.sweep.Goals as goal

pub returns-in_err-gather-in-Some-clause-between : goal.returns-in_err-gather-in-Some-clause-between
returns-in_err-gather-in-Some-clause-between c =
    on_err _
    (swept_first c.args.replicas.now c.in-Some.first.now c.in-Some.rest.now c.gather.new.first c.in-Some.ensures.cases.0 c.in_err-gather-in-Some.ensures.between)

pub spread-requires : goal.spread-requires
spread-requires c =
    record { below = swept_below c.in-Some.first.now c.in-Some.rest.now c.gather.new.first c.in_ok-gather-in-Some.ensures.gathered }

pub returns-in_ok-gather-in-Some-clause-between : goal.returns-in_ok-gather-in-Some-clause-between
returns-in_ok-gather-in-Some-clause-between c =
    on_err_weaker _
    (swept_second c.args.replicas.now c.in-Some.first.now c.in-Some.rest.now c.gather.new.first c.spread.new.rest c.in-Some.ensures.cases.0
    c.in_ok-gather-in-Some.ensures.gathered)
    c.spread.ensures.between

pub returns-in_err-gather-in-Some-clause-again : goal.returns-in_err-gather-in-Some-clause-again
returns-in_err-gather-in-Some-clause-again c =
    on_err_weaker _ (swept_again c.args.replicas.now (c.gather.new.first ∷ c.in-Some.rest.now)) (returns-in_err-gather-in-Some-clause-between c)

pub returns-in_ok-gather-in-Some-clause-again : goal.returns-in_ok-gather-in-Some-clause-again
returns-in_ok-gather-in-Some-clause-again c =
    on_err_weaker _ (swept_again c.args.replicas.now (c.gather.new.first ∷ c.spread.new.rest)) (returns-in_ok-gather-in-Some-clause-between c)
