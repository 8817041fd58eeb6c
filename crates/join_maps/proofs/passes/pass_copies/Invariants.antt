use Rattle.std.proofs.Common.{◌++◌, ◌+◌, ◌-◌, ◌<◌, ◌≤◌}
use Rattle.join_maps.proofs.{CopyWalks.{IsCopied}, Prelude.{AreBelow, deque_len, get_or, length, vec_capacity, vec_len, ℕ}}
use Rattle.join_maps.proofs.passes.pass_copies.Given as goal

abbrev pub invariant-loop-pair : goal.invariant-loop-pair
invariant-loop-pair g l = record {
  copied : IsCopied g.K.Ord.cmp g.met.K.Ord.total g.V.Join.below g.met.V.Join.reflexive g.met.V.Join.transitive g.V.Join.is_valid l.fn.ahead.items (l.passed.items ++ l.ahead.items) l.other l.pair-index;
  before : (j : ℕ) (d : g.row.K.Denot × g.row.V.Denot) → l.pair-index ≤ j → j < length l.other → AreBelow g.K.Ord.cmp (get_or l.other j d).0 l.passed.items;
  room : vec_len l.passed + deque_len l.ahead + (length l.other - l.pair-index) ≤ vec_capacity l.passed;
}
