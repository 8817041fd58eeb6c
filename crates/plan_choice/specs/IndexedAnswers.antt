-- What answers over indices say.
use Rattle.plan_choice.specs.Prelude.{IfErr, IfOk, IsAmong, nat_cmp, Result, ℕ}
use Rattle.plan_choice.specs.{Answers.{IsPlan, IsRefusal, Refusal}, Case.{Case}, declared.answers.IndexedPlan.{IndexedPlan}, Sets.{Starts}}

-- The plan, in which everything starts that is to start, or the refusal whose cause is the first that holds. Only
-- private clauses cite this.
pub record IsAnswer (c : Case ℕ) (answer : Result IndexedPlan (Refusal ℕ)) : Type 0 where
  pub plan : IfOk answer (λ plan. IsPlan nat_cmp c plan.stops.items plan.starts.items)
  pub all : IfOk answer (λ plan. (u : ℕ) → Starts nat_cmp c u → IsAmong u plan.starts.items)
  pub refusal : IfErr answer (IsRefusal nat_cmp c)
