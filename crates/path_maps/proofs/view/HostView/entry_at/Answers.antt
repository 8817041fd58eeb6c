use Rattle.std.proofs.Common.{◌/◌}
use Rattle.path_maps.proofs.Prelude.{ap, get-view, option_and_then, option_map, path_at, PathMap, sym, ◌∙◌}
use Rattle.std.specs.FinMap as finmap
use Rattle.path_maps.proofs.view.HostView.entry_at.Goals as goal

pub returns-in_err-held-clause-held : goal.returns-in_err-held-clause-held
returns-in_err-held-clause-held c =
    let after = path_at (c.args.level / 2) c.args.folder.now c.args.name.now in
    ap (option_map (λ entry. entry.1)) c.from_residual.ensures
    ∙ ap (option_and_then (λ (held : PathMap). finmap.get held after)) c.in_err-held.ensures.held
    ∙ sym (get-view (path_at c.args.level c.args.folder.now c.args.name.now) c.args.self.now)

pub returns-in_err-entry-clause-held : goal.returns-in_err-entry-clause-held
returns-in_err-entry-clause-held c =
    let after = path_at (c.args.level / 2) c.args.folder.now c.args.name.now in
    ap (option_map (λ entry. entry.1)) c.from_residual-in_err-entry.ensures
    ∙ c.in_err-entry.ensures.held
    ∙ ap (option_and_then (λ (held : PathMap). finmap.get held after)) c.in_ok-held.ensures.held
    ∙ sym (get-view (path_at c.args.level c.args.folder.now c.args.name.now) c.args.self.now)

pub returns : goal.returns
returns c =
    let after = path_at (c.args.level / 2) c.args.folder.now c.args.name.now in
    record {
      path = ap (λ p. path_at c.args.level p.folder p.name) c.in_ok-entry.ensures.path;
      held =
          c.in_ok-entry.ensures.held
          ∙ ap (option_and_then (λ (held : PathMap). finmap.get held after)) c.in_ok-held.ensures.held
          ∙ sym (get-view (path_at c.args.level c.args.folder.now c.args.name.now) c.args.self.now);
    }
