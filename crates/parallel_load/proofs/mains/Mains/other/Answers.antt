use Rattle.parallel_load.proofs.{Indexing.{index_none, other_is}, Prelude.{ap, false, List, Name, other_index, sym, true, ℕ, ◌∙◌}}
use Rattle.parallel_load.proofs.mains.Mains.other.Goals as goal

pub returns-then-eq-clause-index : goal.returns-then-eq-clause-index
returns-then-eq-clause-index c =
    sym (other_is c.self.inside.names.items c.self.invariant c.args.unit.now c.args.name.now c.in-Ok.at c.index.result.now c.index-in-Ok.result.now (rw c.deref.ensures.value at c.in-Ok.ensures.found)
    c.index.ensures c.index-in-Ok.ensures true (sym c.eq.ensures ∙ c.if-eq.true))
    ∙ ap (λ (ms : List (Name × ℕ)). other_index ms c.args.unit.now c.args.name.now) c.self.view_is

pub returns-else-eq-clause-index : goal.returns-else-eq-clause-index
returns-else-eq-clause-index c =
    sym (other_is c.self.inside.names.items c.self.invariant c.args.unit.now c.args.name.now c.in-Ok.at c.index.result.now c.index-in-Ok.result.now (rw c.deref.ensures.value at c.in-Ok.ensures.found)
    c.index.ensures c.index-in-Ok.ensures false (sym c.eq.ensures ∙ c.if-eq.false))
    ∙ ap (λ (ms : List (Name × ℕ)). other_index ms c.args.unit.now c.args.name.now) c.self.view_is

pub returns-in-Err-clause-index : goal.returns-in-Err-clause-index
returns-in-Err-clause-index c =
    sym (index_none c.self.inside.names.items c.args.unit.now c.args.name.now c.in-Err.field-0 c.self.invariant.sorted (rw c.deref.ensures.value at c.in-Err.ensures.absent))
    ∙ ap (λ (ms : List (Name × ℕ)). other_index ms c.args.unit.now c.args.name.now) c.self.view_is
