-- What a question of a store is answered: a unit with its edges, what a unit pulls, the plan of a request, or the first refusal.
-- Source: this project's own.
use Rattle.std.proofs.Common.{◌++◌, ◌∷◌, ◌≡◌, ◌≢◌, ◌⊎◌}
use Rattle.fleet_answers.specs.Prelude.{[], All, AreDepths, AreEdges, AreEdgesOf, EdgeMap, EntryMap, GraphMap, HasTemplate, host_view_of, HostViewMap, IsAmong, IsKnown, IsLoad, IsPlanned, IsRefusalOf, IsTooLarge, List, LoadMap, main_in, map, Memory, Name, of_fleet, PlanMap, Refusal, Request, Some, unit_in, units_in, Viewer, ℕ}
use Rattle.fleet_answers.specs.declared.questions.{Answer.{Answer}, LinkedUnit.{LinkedUnit}, Question.{Question, TheVariants.{Plan as OfPlan, Pulled as OfPulled, Unit as OfUnit, Units as OfUnits}}}
use Rattle.fleet_answers.specs.declared.questions.Answer.TheVariants as answer

-- ---- names

-- the names of a question
abbrev pub names_asked : Question → List Name
names_asked (OfUnit viewer name) = name ∷ []
names_asked (OfPulled viewer name) = name ∷ []
names_asked (OfPlan request) = request.target ∷ request.running
names_asked (OfUnits viewer) = []

-- who asks it
abbrev pub viewer_asked : Question → Viewer
viewer_asked (OfUnit viewer name) = viewer
viewer_asked (OfPulled viewer name) = viewer
viewer_asked (OfPlan request) = request.viewer
viewer_asked (OfUnits viewer) = viewer

-- the same question, asked without a host and by the same rules
abbrev pub without_host : Question → Question
without_host (OfUnit viewer name) = OfUnit (of_fleet viewer.profile) name
without_host (OfPulled viewer name) = OfPulled (of_fleet viewer.profile) name
without_host (OfPlan request) = OfPlan (record request { viewer = of_fleet request.viewer.profile })
without_host (OfUnits viewer) = OfUnits (of_fleet viewer.profile)

-- all names that are asked for
abbrev pub asked : List Name → Question → List Name
asked extra question = extra ++ names_asked question

-- each of the names stands for a unit of the load
abbrev pub AreKnown : LoadMap → List Name → Type 0
AreKnown load names = (n : Name) → IsAmong n names → IsKnown load n

-- ---- what a load answers

-- a load with its edges
abbrev pub graph_of : LoadMap → EdgeMap → GraphMap
graph_of load edges = record { load = load; edges = edges }

module _ (load : LoadMap) where
  -- this is the unit for which a name stands, with its edges
  pub record IsLinkedUnit (name : Name) (returned : LinkedUnit) : Type 0 where
    pub main : Name
    pub main_is : main_in load name ≡ Some main
    pub unit_is : unit_in load main ≡ Some returned.unit
    pub edges_are : AreEdgesOf load main returned.edges

  -- this is the unit of a main name, with its edges
  pub record IsUnitWithEdges (main : Name) (returned : LinkedUnit) : Type 0 where
    pub unit_is : unit_in load main ≡ Some returned.unit
    pub edges_are : AreEdgesOf load main returned.edges

  -- these are all units of the load, in byte order of their names, each with its edges
  pub record AreLinkedUnits (returned : List LinkedUnit) : Type 0 where
    pub units_are : map (λ one. one.unit) returned ≡ units_in load
    pub edges_are : All (λ one. (main : Name) × IsUnitWithEdges main one) returned

  -- over the load's edges these are what the unit pulls for which a name stands, each with its least distance
  pub record ArePulled (name : Name) (pairs : List (ℕ × Name)) : Type 0 where
    pub edges : EdgeMap
    pub edges_are : AreEdges load edges
    pub depths_are : AreDepths (graph_of load edges) name pairs

  -- by these edges this is the plan of the request, or the first reason why there is none
  abbrev pub IsPlanBy : EdgeMap → Request → Answer → Type 0
  IsPlanBy edges request returned =
      ((plan : PlanMap) × IsPlanned load edges request plan × (returned ≡ answer.Planned plan))
      ⊎ ((refusal : Refusal) × IsRefusalOf load edges request refusal × (refusal ≢ Memory) × (returned ≡ answer.Refused refusal))

  -- the same by the load's edges
  pub record IsPlanReturned (request : Request) (returned : Answer) : Type 0 where
    pub edges : EdgeMap
    pub edges_are : AreEdges load edges
    pub plan_is : IsPlanBy edges request returned

  -- this is returned for a question whose names all resolve to units
  abbrev pub IsReturned : Question → Answer → Type 0
  IsReturned (OfUnit viewer name) returned = (unit : LinkedUnit) × IsLinkedUnit name unit × (returned ≡ answer.Unit unit)
  IsReturned (OfPulled viewer name) returned = (pairs : List (ℕ × Name)) × ArePulled name pairs × (returned ≡ answer.Pulled pairs)
  IsReturned (OfPlan request) returned = IsPlanReturned request returned
  IsReturned (OfUnits viewer) returned = (all : List LinkedUnit) × AreLinkedUnits all × (returned ≡ answer.Units all)

-- ---- what a store answers

-- this is the load of what is looked at of a store with these names asked for, where it isn't too large
pub record IsSnapshot (s : HostViewMap) (extra : List Name) (load : LoadMap) : Type 0 where
  pub within : ¬ IsTooLarge s extra
  pub is_load : IsLoad s extra load

-- the load is that of a store for its own viewer, with the names that were asked for
abbrev pub IsSnapshotOf : EntryMap → LoadMap → Type 0
IsSnapshotOf store load = IsSnapshot (host_view_of store load.viewer) load.extra load

-- this is returned from such a load of all names that are asked for
pub record IsReturnedFrom (s : HostViewMap) (names : List Name) (question : Question) (returned : Answer) : Type 0 where
  pub load : LoadMap
  pub snapshot : IsSnapshot s names load
  pub returned_is : IsReturned load question returned

-- the store is too large, or this is returned
abbrev pub IsWholeAnswer : HostViewMap → List Name → Question → Answer → Type 0
IsWholeAnswer s names question returned = (IsTooLarge s names × (returned ≡ answer.TooManyUnits)) ⊎ IsReturnedFrom s names question returned

-- This is the answer to a question from a store, as the question's host sees it or as it is seen without a host, where further
-- names are asked for. A template among the names is answered before the store is read.
abbrev pub IsAnswer : EntryMap → List Name → Question → Answer → Type 0
IsAnswer s extra question returned =
    (HasTemplate (asked extra question) × (returned ≡ answer.Template))
    ⊎ (¬ HasTemplate (asked extra question) × IsWholeAnswer (host_view_of s (viewer_asked question)) (asked extra question) question returned)
