-- The answer to a request, by the indices of its units: words for private clauses.
-- Source: this project's own.
use Rattle.start_plan.specs.{declared.requests.Request.{Request}, Prelude.{Case, count_of, EdgeMap, IsNamedCase, IsPlan, IsRefusal, List, LoadMap, name_at, nat_cmp, Why, ℕ}, Requests.{case_of}}

module _ (load : LoadMap) (edges : EdgeMap) (request : Request) where
  -- the plan of a case whose indices stand for the request's names
  pub record IsIndexedPlan (stops starts : List ℕ) : Type 0 where
    pub case : Case ℕ
    pub named : IsNamedCase (count_of load) (name_at load) case (case_of load edges request)
    pub planned : IsPlan nat_cmp case stops starts

  -- the first cause that holds in such a case
  pub record IsIndexedRefusal (why : Why ℕ) : Type 0 where
    pub case : Case ℕ
    pub named : IsNamedCase (count_of load) (name_at load) case (case_of load edges request)
    pub refused : IsRefusal nat_cmp case why
