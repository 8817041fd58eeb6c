use Rattle.std.proofs.Common.{◌≡◌}
use Rattle.path_maps.proofs.{Listed.{all_entries, kept_well_formed}, LookUps.{held_is}, Prelude.{ap, arith, look_up_place, PlaceParts, refl, zipped, ◌∙◌}}
use Rattle.std.specs.FinMap as finmap
use Rattle.path_maps.proofs.stores.Store.entries_zipped.Goals as goal

pub of_scopes-requires : goal.of_scopes-requires
of_scopes-requires c = record { paths = kept_well_formed c.self.inside.scopes c.self.inside.len c.self.inside.high c.self.invariant }

pub returns-clause-entries : goal.returns-clause-entries
returns-clause-entries c =
    let held : (q : PlaceParts) → look_up_place c.other.inside.scopes q ≡ finmap.get c.args.other.now q = λ q. held_is c.other.inside.scopes c.other.invariant.scopes c.args.other.now c.other.view_is q _ refl in
    let all = all_entries c.self.inside.scopes c.args.self.now c.self.invariant.scopes c.self.view_is in
    c.of_scopes.ensures.entries ∙ (λ i. zipped (λ q. held q i) (all i))

pub returns-clause-within : goal.returns-clause-within
returns-clause-within c =
    let len = c.self.invariant.counted.counted ∙ ap (λ s. finmap.len s) c.self.view_is in
    let fits = c.self.invariant.fits in
    omega (arith, len, fits)
