use Rattle.std.proofs.Common.{◌++◌}
use Rattle.std.specs.Option.{option_copied}
use Rattle.manager_additions.specs.Additions.{has_defaults_by, mounts_by, with_implied}
use Rattle.unit_loads.specs.Units.{file_notes, files_with}
use Rattle.unit_loads.proofs.Prelude.{[], ap, borrowed_notes, items_with, lists_with, map, refuses, rows_of, setting_notes, settings_of, ◌∙◌}
use Rattle.unit_loads.specs.declared.units.UnitNote.TheVariants as note
use Rattle.unit_loads.proofs.found.UnitParts.of_files.Goals as goal

pub returns : goal.returns
returns c =
    let profile = c.profile.result in
    let by = c.profile.ensures.profile in
    let name = c.args.name.now in
    let links = c.args.links in
    let text = c.in_ok-text.ensures in
    let effective = c.in_ok-effective.ensures in
    let view = c.args.view.now in
    let fragment = option_copied c.args.fragment in
    let values = c.in_ok-effective.effective.values in
    let items = items_with view fragment c.args.dropins.now in
    let lines = c.in_ok-text.text.notes in
    record {
      found = record {
        dropins = c.from_vec.ensures.elements ∙ c.in_ok-dropins.ensures.places;
        values =
            effective.values ∙ ap (λ xs. rows_of profile (settings_of profile xs) name) text.items
            ∙ ap (λ p. rows_of p (settings_of p items) name) by;
        deps =
            effective.deps ∙ ap (λ xs. with_implied profile name values (lists_with profile (settings_of profile xs) name links)) text.items
            ∙ ap (λ p. with_implied p name values (lists_with p (settings_of p items) name links)) by;
        notes =
            effective.notes ∙ ap (λ xs. lines ++ map note.Setting (setting_notes profile xs name links)) text.items
            ∙ ap (λ ns. ns ++ map note.Setting (setting_notes profile items name links)) text.notes
            ∙ ap (λ p. (file_notes view (files_with fragment []) ++ borrowed_notes view c.args.dropins.now) ++ map note.Setting (setting_notes p items name links)) by;
        manual =
            effective.manual ∙ ap (λ xs. refuses (settings_of profile xs)) text.items ∙ ap (λ p. refuses (settings_of p items)) by;
        defaults = effective.defaults ∙ ap (λ p. has_defaults_by p name values) by;
        mounts = effective.mounts ∙ ap (λ p. mounts_by p name values) by;
      };
    }
