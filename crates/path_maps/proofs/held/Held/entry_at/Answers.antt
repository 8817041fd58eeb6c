use Rattle.path_maps.proofs.Prelude.{ap, IsPath, List, None, option_copied, option_map, or_empty, path_at, Some, subst, sym, ℕ, ◌∙◌}
use Rattle.path_maps.proofs.LookUps.{at_name_of, no_folder, no_name, viewed_is, well_formed_there}
use Rattle.path_maps.proofs.held.Held.entry_at.Goals as goal

pub returns-in_err-folder-clause-held : goal.returns-in_err-folder-clause-held
returns-in_err-folder-clause-held c =
    let q = path_at c.args.rank c.args.folder.now c.args.name.now in
    ap (option_map (λ entry. entry.1)) c.from_residual.ensures
    ∙ viewed_is (or_empty (option_copied c.self.inside.ranks)) c.self.invariant.ranks _ c.self.view_is q None (no_folder (or_empty (option_copied c.self.inside.ranks)) q c.in_err-folder.ensures.found)

pub returns-in_err-name-clause-held : goal.returns-in_err-name-clause-held
returns-in_err-name-clause-held c =
    let q = path_at c.args.rank c.args.folder.now c.args.name.now in
    let names = c.in_ok-folder.names.now in
    ap (option_map (λ entry. entry.1)) c.from_residual-in_err-name.ensures
    ∙ viewed_is (or_empty (option_copied c.self.inside.ranks)) c.self.invariant.ranks _ c.self.view_is q None (no_name (or_empty (option_copied c.self.inside.ranks)) q names c.in_ok-folder.ensures.found.1 c.in_err-name.ensures.found)

pub returns-in_err-entry-clause-held : goal.returns-in_err-entry-clause-held
returns-in_err-entry-clause-held c =
    let q = path_at c.args.rank c.args.folder.now c.args.name.now in
    let names = c.in_ok-folder.names.now in
    let value = c.in_ok-name.field-0.now.1 in
    ap (option_map (λ entry. entry.1)) c.from_residual-in_err-entry.ensures
    ∙ c.in_err-entry.ensures.entry
    ∙ viewed_is (or_empty (option_copied c.self.inside.ranks)) c.self.invariant.ranks _ c.self.view_is q _ (at_name_of (or_empty (option_copied c.self.inside.ranks)) q names c.in_ok-folder.ensures.found.1 value c.in_ok-name.ensures.found.1)

pub new-requires : goal.new-requires
new-requires c =
    let q = path_at c.args.rank c.args.folder.now c.args.name.now in
    let names = c.in_ok-folder.names.now in
    let value = c.in_ok-name.field-0.now.1 in
    let there = at_name_of (or_empty (option_copied c.self.inside.ranks)) q names c.in_ok-folder.ensures.found.1 value c.in_ok-name.ensures.found.1 ∙ sym c.in_ok-entry.ensures.entry in
    let well_formed = well_formed_there (or_empty (option_copied c.self.inside.ranks)) c.self.invariant q c.in_ok-entry.entry.now there in
    record { path = subst (λ (f : List ℕ). IsPath (path_at c.args.rank f c.in_ok-name.field-0.now.0)) (sym c.in_ok-folder.ensures.found.0) (subst (λ (n : List ℕ). IsPath (path_at c.args.rank c.args.folder.now n)) (sym c.in_ok-name.ensures.found.0) well_formed) }

pub returns : goal.returns
returns c =
    let q = path_at c.args.rank c.args.folder.now c.args.name.now in
    let names = c.in_ok-folder.names.now in
    let value = c.in_ok-name.field-0.now.1 in
    record {
      path = ap (λ p. p.0) c.new.ensures.placed ∙ ap (λ (f : List ℕ). path_at c.args.rank f c.in_ok-name.field-0.now.0) c.in_ok-folder.ensures.found.0 ∙ ap (path_at c.args.rank c.args.folder.now) c.in_ok-name.ensures.found.0;
      held =
          ap (λ p. Some p.1) c.new.ensures.placed ∙ c.in_ok-entry.ensures.entry
          ∙ viewed_is (or_empty (option_copied c.self.inside.ranks)) c.self.invariant.ranks _ c.self.view_is q _ (at_name_of (or_empty (option_copied c.self.inside.ranks)) q names c.in_ok-folder.ensures.found.1 value c.in_ok-name.ensures.found.1);
    }
