-- Re-exports the words that most clauses on indexed nodes cite. Declares nothing.
pub use Rattle.std.specs.List.Sorted.{IsStrictlySortedBy}
pub use Rattle.std.specs.Ordering.{nat_cmp}
pub use Rattle.list_laws.specs.Members.{IsAmong}
