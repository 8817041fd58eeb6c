-- What the definitions use of std and of the crates below.
pub use Rattle.edit_sums.specs.{declared.contents.Content.{Content, TheVariants.{File, Gone, Link}}, Sums.{EntryMap, visible_at}}
pub use Rattle.load_places.specs.{Places.{PlaceParts}, Texts.{place_text}}
pub use Rattle.script_commands.specs.{declared.commands.LineRefusal.TheVariants.{Component, Depth, Directory, HostName, NotVisible}, Outcomes.{is_spent, Outcome}, Prelude.{place_of, PlaceFault}}
pub use Rattle.std.{proofs.Common.{[], ap, codes, Err, false, List, MatchOption, MatchResult, None, Ok, Option, Result, Some, sym, ℕ, ◌∙◌}, specs.{List.{ends_with}, Prelude.{nat_eq}}}
