-- What the proofs use of std, of the crates below and of the definitions.
pub use Rattle.fleet_answers.specs.Prelude.{EntryMap, host_view_of, IsAmong, IsLoad, LoadMap, Name, one_viewer, PlaceParts, Viewer, visible_at}
pub use Rattle.parallel_load.specs.Refreshes.{IsBefore}
pub use Rattle.path_maps.specs.DifferenceLaws.{changed_or_same}
pub use Rattle.std.proofs.Common.{inl, inr, List, subst, sym, ◌∙◌}
