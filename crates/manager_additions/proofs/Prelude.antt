-- What the proofs use of std, of the crates below and of the definitions.
pub use Rattle.std.proofs.Common.{List, [], ap, arith, drop, get_or, length, map, refl, set, suc, sym, take, tests, zero, ℕ, ◌∙◌}
