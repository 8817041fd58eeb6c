-- What the proofs use of std, of the crates below and of the definitions.
pub use Rattle.join_law.specs.{Order.{IsLeast}, VersionedLaws.{not_least}, VersionOrder.{IsUpTo}}
pub use Rattle.sorted_pairs.specs.PlaceLaws.{find_at, find_gap}
pub use Rattle.std.proofs.Common.{ap, arith, IsSome, length, refl, subst, sym, ◌∙◌}
