use Rattle.std.proofs.Common.{◌≡◌}
use Rattle.parallel_load.proofs.{Keeping.{lists_same}, Prelude.{ap, DependencyList, List, LoadedUnit, sym, ◌∙◌}}
use Rattle.parallel_load.proofs.mains.with_lists_apart.Goals as goal

pub returns-then-eq-clause-unit : goal.returns-then-eq-clause-unit
returns-then-eq-clause-unit c =
    let unit : LoadedUnit = c.args.unit in
    let same : unit.deps ≡ c.args.deps = lists_same unit.deps c.args.deps (sym c.eq.ensures ∙ c.if-eq.true) in
    c.in_ok-unit.ensures.value ∙ ap (λ (ds : List DependencyList). let u : LoadedUnit = record unit { deps = ds } in u) same
