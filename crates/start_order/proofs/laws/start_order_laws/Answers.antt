use Rattle.start_order.proofs.Prelude.{cycle_stuck, IsStuck, one_cycle, one_start_list, stuck_out}
use Rattle.start_order.proofs.laws.start_order_laws.Goals as goal

pub returns : goal.returns
returns g c = record { list = λ exact xs ys p q. one_start_list g.C.NodeSet.holds g.B.EdgeSet.leads g.N.Ord.cmp g.met.N.Ord.total exact xs ys p q; ring = λ exact. one_cycle g.N.Ord.cmp (IsStuck g.C.NodeSet.holds g.B.EdgeSet.leads) g.B.EdgeSet.leads g.met.N.Ord.total exact; out = stuck_out g.C.NodeSet.holds g.B.EdgeSet.leads g.N.Ord.cmp; cycle = cycle_stuck g.N.Ord.cmp (IsStuck g.C.NodeSet.holds g.B.EdgeSet.leads) g.B.EdgeSet.leads }
