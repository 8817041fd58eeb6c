use Rattle.std.proofs.Common.{◌<◌, ◌↔◌, ◌≡◌}
use Rattle.plan_choice.proofs.Prelude.{case_of, IsAmong, IsMember, length, LosesTo, nat_cmp, ℕ}
use Rattle.plan_choice.proofs.case_sets.conflict_losers.Given as goal

abbrev pub invariant-loop-unit : goal.invariant-loop-unit
invariant-loop-unit l = record {
  bits : length l.named.items ≡ length l.extra;
  clean : (v : ℕ) → ¬ IsMember l.named.items v;
  listed : (v : ℕ) → IsAmong v l.units.items ↔ ((v < l.unit) × ((w : ℕ) × LosesTo nat_cmp (case_of l.case) v w));
}
