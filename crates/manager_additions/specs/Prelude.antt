-- What the definitions use of std and of the crates below.
pub use Rattle.profiles.specs.declared.profiles.Profile.{Profile, TheVariants.{Files, Manager}}
pub use Rattle.setting_rules.specs.{Dependencies.{in_byte_order}, Places.{place as place_of_kind}, declared.{dependency_lists.DependencyList.{DependencyList}, kinds.DepKind.{DepKind, TheVariants.{Before}}, rows.Row.{Row}}}
pub use Rattle.std.{proofs.Common.{Bool, List, Option, Some, [], false, map, true}, specs.{List.{flat_map}, Prelude.{nat_eq}}}
pub use Rattle.unit_name.specs.{Names.{Name, kind}, declared.kinds.Kind.{Kind, TheVariants.{Device}}}
