use Rattle.world_law.proofs.{Prelude.{honest_are_told_apart, whole_answer}, Theorem.{each_store_is_its_sum, each_store_is_least, same_took_same_store}, TookLemmas.{holds_the_sum, took_by_events}}
use Rattle.world_law.proofs.laws.converges.Goals as goal

pub returns : goal.returns
returns c = record { sums = each_store_is_its_sum; least = each_store_is_least; by_events = holds_the_sum; same = same_took_same_store; took = took_by_events; whole = whole_answer; honest = honest_are_told_apart }
