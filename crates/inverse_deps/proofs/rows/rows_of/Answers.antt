use Rattle.std.proofs.Common.{◌≡◌}
use Rattle.inverse_deps.proofs.Prelude.{ap, AreRowsBy, by_files_alone, DependsOn, Files, IfOk, IfOk-weaker, IsDependent, Manager, NamesUnit, Profile, subst, sym, ◌∙◌}
use Rattle.inverse_deps.proofs.Adding.{rows_along}
use Rattle.inverse_deps.proofs.rows.rows_of.Goals as goal

pub returns-in-Files : goal.returns-in-Files
returns-in-Files c =
    let load = c.args.loaded.now in
    let by_files : load.viewer.profile ≡ Files = ap (λ v. v.profile) (sym c.viewer.ensures.viewer) ∙ c.in-Files.is in
    record {
      rows = IfOk-weaker c.own_rows.result (λ rows. AreRowsBy load (NamesUnit load.names) rows.items) (λ rows. AreRowsBy load (DependsOn load) rows.items)
          (λ rows are. rows_along load (NamesUnit load.names) (DependsOn load) rows.items
          (λ dep u v. (let same = by_files_alone load.viewer.profile load.names dep u v by_files in (same.1, same.0))) are)
          c.own_rows.ensures.rows;
    }

pub returns-in_ok-given-in-Manager : goal.returns-in_ok-given-in-Manager
returns-in_ok-given-in-Manager c =
    let load = c.args.loaded.now in
    let by_manager : load.viewer.profile ≡ Manager = ap (λ v. v.profile) (sym c.viewer.ensures.viewer) ∙ c.in-Manager.is in
    record { rows = subst (λ (p : Profile). IfOk c.with_following.result (λ rows. AreRowsBy load (IsDependent p load.names) rows.items)) (sym by_manager) c.with_following.ensures.rows }
