use Rattle.path_maps.proofs.{Prelude.{ap, in_folder, map, ◌∙◌}, Readings.{keys_with, names_zipped}}
use Rattle.path_maps.proofs.entries.PathEntries.of_folder.Goals as goal

pub returns : goal.returns
returns c =
    let read = c.names_of-names.ensures.names ∙ names_zipped (λ _ _ _. tt) c.args.rank c.args.folder.now c.args.names.now in
    record { entries = ap (map (λ p. p.0)) read ∙ keys_with (λ _. tt) (in_folder c.args.rank c.args.folder.now c.args.names.now) }
