use Rattle.start_plan.proofs.Prelude.{AllocError, Case, case_of, case_of_indexed, count_of, EdgeMap, Err, IfErr, IfOk, IndexedPlan, IsIndexedPlan, IsIndexedRefusal, IsNamedCase, IsPlan, IsRefusal, LoadMap, name_at, nat_cmp, Ok, Request, Result, Why, ℕ}
use Rattle.start_plan.proofs.planning.indexed_answer.Goals as goal

module _ (load : LoadMap) (edges : EdgeMap) (request : Request) (case : Case ℕ)
    (named : IsNamedCase (count_of load) (name_at load) case (case_of load edges request)) where
  plan_indexed : (r : Result (Result IndexedPlan (Why ℕ)) AllocError) → IfOk r (λ answer. IfOk answer (λ plan. IsPlan nat_cmp case plan.stops.items plan.starts.items))
      → IfOk r (λ answer. IfOk answer (λ plan. IsIndexedPlan load edges request plan.stops.items plan.starts.items))
  plan_indexed (Ok (Ok plan)) p = record { case = case; named = named; planned = p }
  plan_indexed (Ok (Err refusal)) p = p
  plan_indexed (Err fault) p = p

  refusal_indexed : (r : Result (Result IndexedPlan (Why ℕ)) AllocError) → IfOk r (λ answer. IfErr answer (IsRefusal nat_cmp case))
      → IfOk r (λ answer. IfErr answer (IsIndexedRefusal load edges request))
  refusal_indexed (Ok (Ok plan)) p = p
  refusal_indexed (Ok (Err refusal)) p = record { case = case; named = named; refused = p }
  refusal_indexed (Err fault) p = p

in_order : (r : Result (Result IndexedPlan (Why ℕ)) AllocError) (P : Type 0) → P → IfOk r (λ _. P)
in_order (Ok answer) P p = p
in_order (Err fault) P p = tt

pub returns-clause-order : goal.returns-clause-order
returns-clause-order c = in_order c.indexed_plan.result _ c.in_ok-case.ensures.order

pub returns-clause-plan : goal.returns-clause-plan
returns-clause-plan c =
    plan_indexed c.args.graph.now.load c.args.graph.now.edges c.args.request.now (case_of_indexed c.in_ok-case.case) c.in_ok-case.ensures.case
    c.indexed_plan.result c.indexed_plan.ensures.plan

pub returns-clause-refusal : goal.returns-clause-refusal
returns-clause-refusal c =
    refusal_indexed c.args.graph.now.load c.args.graph.now.edges c.args.request.now (case_of_indexed c.in_ok-case.case) c.in_ok-case.ensures.case
    c.indexed_plan.result c.indexed_plan.ensures.refusal
