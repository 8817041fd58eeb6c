use Rattle.parallel_load.proofs.{Keeping.{lists_same}, Prelude.{ap, DependencyList, List, LoadedUnit, sym, ◌∙◌}}
use Rattle.parallel_load.proofs.mains.with_dependencies.Goals as goal

pub returns-then-eq : goal.returns-then-eq
returns-then-eq c = record {
  unit =
      ap (λ (ds : List DependencyList). let u : LoadedUnit = record c.args.unit { deps = ds } in u)
      (ap (λ (u : LoadedUnit). u.deps) (sym c.get.ensures.value) ∙ lists_same c.get.result.now.deps c.args.deps (sym c.eq.ensures ∙ c.if-eq.true));
}
