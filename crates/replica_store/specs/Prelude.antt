-- What the definitions use of std and of the crates below.
pub use Rattle.edit_sums.specs.{declared.entries.Edit.{Edit}, Sums.{with_edit}}
pub use Rattle.join_law.specs.declared.versions.Version.{Version}
pub use Rattle.load_places.specs.PlaceLaws.{coded_place}
pub use Rattle.path_maps.specs.Prelude.{coded_entry, EntryMap, high_of}
pub use Rattle.std.{proofs.Common.{refl, ℕ}, specs.Coded.{code_by, Coded, coded_ℕ, coded×}}
