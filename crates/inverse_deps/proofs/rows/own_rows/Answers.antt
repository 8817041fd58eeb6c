use Rattle.std.proofs.Common.{◌++◌, ◌≡◌}
use Rattle.inverse_deps.proofs.Prelude.{ap, AreRowsBy, Dependency, List, NamesUnit, own_rows, subst, sym, ◌∙◌}
use Rattle.inverse_deps.proofs.rows.own_rows.Goals as goal

pub returns : goal.returns
returns c =
    let load = c.args.loaded.now in
    let own : List (List Dependency) = c.dependencies.result.now in
    let rows : List (List Dependency) = c.append_copies.new.list.items in
    let same : rows ≡ own = c.in_ok-append_copies.ensures.appended ∙ ap (λ (old : List (List Dependency)). old ++ own) c.in_ok-rows.ensures.items in
    record {
      rows = subst (AreRowsBy load (NamesUnit load.names)) (sym same) (own_rows load (rw c.names.ensures.names at c.names.ensures.sorted) own c.dependencies.ensures.rows);
    }
