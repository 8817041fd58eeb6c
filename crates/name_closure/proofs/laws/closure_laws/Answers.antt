use Rattle.name_closure.proofs.Prelude.{closure_stays, one_closure, over-closure, reached_closed, reached_least}
use Rattle.name_closure.proofs.laws.closure_laws.Goals as goal

pub returns : goal.returns
returns g c = record { closed = reached_closed g.S.NodeSet.holds g.E.EdgeSet.leads; least = reached_least g.S.NodeSet.holds g.E.EdgeSet.leads g.T.NodeSet.holds; one = one_closure g.S.NodeSet.holds g.E.EdgeSet.leads g.N.Ord.cmp g.met.N.Ord.total; over = over-closure g.N.Ord.cmp g.met.N.Ord.total g.S.NodeSet.holds g.E.EdgeSet.leads; stays = λ by. closure_stays g.S.NodeSet.holds g.O.EdgeSet.leads g.E.EdgeSet.leads by g.N.Ord.cmp }
