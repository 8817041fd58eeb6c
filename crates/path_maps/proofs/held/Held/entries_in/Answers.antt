use Rattle.path_maps.proofs.{LookUps.{folder_entries, folder_paths}, Prelude.{AllKeys, ap, in_folder, IsPath, List, NameMap, Option, option_copied, or_empty, subst, sym, ℕ, ◌∙◌}}
use Rattle.path_maps.proofs.held.Held.entries_in.Goals as goal

pub of_folder-requires : goal.of_folder-requires
of_folder-requires c =
    let ranks = or_empty (option_copied c.self.inside.ranks) in
    let names = ap (λ (f : List ℕ). in_folder c.args.rank f c.in-Some.names.now) c.in-Some.ensures.found.0 ∙ ap (λ (o : Option NameMap). in_folder c.args.rank c.args.folder.now (or_empty o)) (sym c.in-Some.ensures.found.1) in
    record { paths = subst (AllKeys IsPath) (sym names) (folder_paths ranks c.args.rank c.args.folder.now c.self.invariant) }

pub returns-in-Some : goal.returns-in-Some
returns-in-Some c =
    let ranks = or_empty (option_copied c.self.inside.ranks) in
    let names = ap (λ (f : List ℕ). in_folder c.args.rank f c.in-Some.names.now) c.in-Some.ensures.found.0 ∙ ap (λ (o : Option NameMap). in_folder c.args.rank c.args.folder.now (or_empty o)) (sym c.in-Some.ensures.found.1) in
    record { entries = c.of_folder.ensures.entries ∙ names ∙ folder_entries ranks c.args.rank c.args.folder.now c.args.self.now c.self.invariant.ranks c.self.view_is }

pub returns-in-None : goal.returns-in-None
returns-in-None c =
    let ranks = or_empty (option_copied c.self.inside.ranks) in
    let none = ap (λ (o : Option NameMap). in_folder c.args.rank c.args.folder.now (or_empty o)) (sym c.in-None.ensures.found) in
    record { entries = c.none.ensures.entries ∙ none ∙ folder_entries ranks c.args.rank c.args.folder.now c.args.self.now c.self.invariant.ranks c.self.view_is }
