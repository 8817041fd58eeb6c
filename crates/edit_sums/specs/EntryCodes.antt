-- An injective encoding of entries, as maps of entries require.
use Rattle.edit_sums.specs.{declared.contents.Content.{Content}, Entries.{Entry}, Prelude.{code_by, Coded, coded×, refl, Version}}
use Rattle.join_law.specs.contracts.versions.Version as version
use Rattle.edit_sums.specs.contracts.contents.Content as content

abbrev pub coded_entry : Coded Entry
coded_entry = code_by (Version × Content) (coded× (version.the_row).coded (content.the_row).coded) (λ x. (x.version, x.content)) (λ p. record { version = p.0; content = p.1 }) (λ _. refl)
