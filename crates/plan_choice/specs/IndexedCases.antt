-- The case that bit sets and adjacency lists give.
use Rattle.plan_choice.specs.{Case.{Case}, declared.cases.IndexedCase.{IndexedCase}, Prelude.{false, length, neighbors, slice_index_or, successors_from, ℕ}}

abbrev pub case_of : IndexedCase → Case ℕ
case_of adjacency = record {
  profile = adjacency.profile;
  target = adjacency.target;
  is_loaded = λ unit. slice_index_or adjacency.loaded.items unit false;
  refuses_manual_start = λ unit. slice_index_or adjacency.refuses_manual_start.items unit false;
  is_running = λ unit. slice_index_or adjacency.running.items unit false;
  is_perpetual = λ unit. slice_index_or adjacency.perpetual.items unit false;
  needs = successors_from adjacency.needs;
  wants = successors_from adjacency.wants;
  requisites = successors_from adjacency.requisites;
  conflicts = neighbors adjacency.conflicts.now;
  predecessors = neighbors adjacency.predecessors.now;
  stops_with = successors_from adjacency.stops_with;
}

-- how many units there are
abbrev pub count_of : IndexedCase → ℕ
count_of adjacency = length adjacency.loaded.items
