use Rattle.join_maps.proofs.Prelude.{entry_held}
use Rattle.join_maps.proofs.additions.AddAtAddition.into_value.Goals as goal

pub returns-in-Some-clause-held : goal.returns-in-Some-clause-held
returns-in-Some-clause-held g c =
    rw c.of_pair.ensures.pair
    (entry_held g.K.Ord.cmp g.A.Value.Join.below g.met.K.Ord.total c.args.self.key g.A.Value.Join.is_valid c.in-Some.value (rw c.in-Some.is at c.in_ok-value.ensures.held))
