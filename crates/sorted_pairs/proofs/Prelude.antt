-- What the proofs use of std, of the crates below and of the definitions.
pub use Rattle.sorted_pairs.specs.{PlaceLaws.{below_append, below_first}, Places.{AreBelow}, Prelude.{is_less}, SearchLaws.{after_last, last_has, search_finds}}
pub use Rattle.std.{proofs.{Common.{ap, get_or, rules, sym, vec_len, ◌∙◌}, lemmas.Fn.{always_returns_same}}, specs.{declared.cmp.Ordering.TheVariants.{Less}, Ordering.{is_lt}, Vec.{vec_capacity}, VecDeque.{deque_len}}}
