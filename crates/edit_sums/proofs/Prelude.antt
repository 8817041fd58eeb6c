-- What the proofs use of std, of the crates below and of the definitions.
pub use Rattle.edit_sums.specs.{CounterLaws.{high_of-sum_of}, SumLaws.{join-least, join-left, join-right, join_assoc, join_comm, join_idem, store_below_antisym, store_below_refl, store_below_trans, sum_of-append, sum_of-IsSum, sum_of-least, sum_of-same_edits}, WinnerLaws.{counters_decide, sorts_decide, writers_decide}}
