use Rattle.std.proofs.Common.{◌<◌, ◌≡◌}
use Rattle.start_plan.proofs.Prelude.{All, ap, case_of, count_of, IfErr, IfOk, IndexedPlan, IsIndexedPlan, IsIndexedRefusal, IsPlan, IsReturnable, IsReturnedBy, List, LoadMap, map, Name, name_at, name_cmp, nat_list_cmp_total, plan_named, Result, subst, sym, Why, ℕ, ◌∙◌}
use Rattle.start_plan.proofs.{Answering.{returnable, returned, starts_below, stops_below}, Casing.{target_known}}
use Rattle.start_plan.proofs.planning.named_answer.Goals as goal

pub named_plan-requires : goal.named_plan-requires
named_plan-requires c =
    let load = c.args.graph.now.load in
    let P : Result IndexedPlan (Why ℕ) → Type 0 = λ o. IfOk o (λ plan. IsIndexedPlan load c.args.graph.now.edges c.args.request.now plan.stops.items plan.starts.items) in
    let p = subst P c.in-Ok.is c.in_ok-plan.ensures.plan in
    let L : List ℕ → LoadMap → Type 0 = λ indices m. All (λ i. i < count_of m) indices in
    record {
      stops = subst (L c.in-Ok.plan.stops.items) (sym c.loaded.ensures.load)
          (stops_below load c.args.graph.now.edges c.args.request.now c.in_ok-plan.ensures.order p.case p.named _ c.in-Ok.plan.starts.items p.planned);
      starts = subst (L c.in-Ok.plan.starts.items) (sym c.loaded.ensures.load)
          (starts_below load c.args.graph.now.edges c.args.request.now c.in_ok-plan.ensures.order p.case p.named c.in-Ok.plan.stops.items _ p.planned);
    }

pub returns-in_ok-named_plan-in-Ok-clause-plan : goal.returns-in_ok-named_plan-in-Ok-clause-plan
returns-in_ok-named_plan-in-Ok-clause-plan c =
    let load = c.args.graph.now.load in
    let names = case_of load c.args.graph.now.edges c.args.request.now in
    let P : Result IndexedPlan (Why ℕ) → Type 0 = λ o. IfOk o (λ plan. IsIndexedPlan load c.args.graph.now.edges c.args.request.now plan.stops.items plan.starts.items) in
    let p = subst P c.in-Ok.is c.in_ok-plan.ensures.plan in
    let named = c.in_ok-named_plan-in-Ok.ensures in
    let stop : c.in_ok-named_plan-in-Ok.field-0.stop ≡ map (name_at load) c.in-Ok.plan.stops.items = named.stop ∙ ap (λ m. map (name_at m) c.in-Ok.plan.stops.items) c.loaded.ensures.load in
    let start : c.in_ok-named_plan-in-Ok.field-0.start ≡ map (name_at load) c.in-Ok.plan.starts.items = named.start ∙ ap (λ m. map (name_at m) c.in-Ok.plan.starts.items) c.loaded.ensures.load in
    let A : List Name → Type 0 = λ xs. IsPlan name_cmp names xs c.in_ok-named_plan-in-Ok.field-0.start in
    let B : List Name → Type 0 = λ ys. IsPlan name_cmp names (map (name_at load) c.in-Ok.plan.stops.items) ys in
    record {
      no_template = c.requires.whole;
      planned = subst A (sym stop) (subst B (sym start)
          (plan_named (count_of load) (name_at load) name_cmp nat_list_cmp_total c.in_ok-plan.ensures.order p.case names p.named _ _ p.planned));
    }

pub named_refusal-requires : goal.named_refusal-requires
named_refusal-requires c =
    let load = c.args.graph.now.load in
    let P : Result IndexedPlan (Why ℕ) → Type 0 = λ o. IfErr o (IsIndexedRefusal load c.args.graph.now.edges c.args.request.now) in
    let r = subst P c.in-Err.is c.in_ok-plan.ensures.refusal in
    let L : LoadMap → Type 0 = λ m. IsReturnable m c.in-Err.refusal in
    record {
      indices = subst L (sym c.loaded-in-Err.ensures.load)
          (returnable load c.args.graph.now.edges c.args.request.now c.in_ok-plan.ensures.order r.case r.named (target_known load c.args.request.now c.requires.names c.requires.whole)
          c.loaded-in-Err.ensures.units c.in-Err.refusal r.refused);
    }

pub returns-in_ok-named_refusal-in-Err-clause-refusal : goal.returns-in_ok-named_refusal-in-Err-clause-refusal
returns-in_ok-named_refusal-in-Err-clause-refusal c =
    let load = c.args.graph.now.load in
    let P : Result IndexedPlan (Why ℕ) → Type 0 = λ o. IfErr o (IsIndexedRefusal load c.args.graph.now.edges c.args.request.now) in
    let r = subst P c.in-Err.is c.in_ok-plan.ensures.refusal in
    let L : LoadMap → Type 0 = λ m. IsReturnedBy m c.in-Err.refusal c.in_ok-named_refusal-in-Err.field-0 in
    returned load c.args.graph.now.edges c.args.request.now c.in_ok-plan.ensures.order r.case r.named c.requires.whole c.in-Err.refusal r.refused
    c.in_ok-named_refusal-in-Err.field-0 (subst L c.loaded-in-Err.ensures.load c.in_ok-named_refusal-in-Err.ensures.returned)
