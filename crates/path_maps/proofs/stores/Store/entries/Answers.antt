use Rattle.path_maps.proofs.{Listed.{all_entries, kept_well_formed}, Prelude.{◌∙◌}}
use Rattle.path_maps.proofs.stores.Store.entries.Goals as goal

pub of_scopes-requires : goal.of_scopes-requires
of_scopes-requires c = record { paths = kept_well_formed c.self.inside.scopes c.self.inside.len c.self.inside.high c.self.invariant }

pub returns : goal.returns
returns c = record { entries = c.of_scopes.ensures.entries ∙ all_entries c.self.inside.scopes c.args.self.now c.self.invariant.scopes c.self.view_is }
