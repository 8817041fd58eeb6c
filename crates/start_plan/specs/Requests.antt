-- What a request asks of a load, by name: the case of a plan.
-- Source: systemd.unit(5), "Wants=", "Requires=", "Requisite=", "BindsTo=", "PartOf=", "Upholds=", "Conflicts=",
-- "Before=, After=", "RefuseManualStart=".
use Rattle.std.proofs.Common.{◌||◌, ◌∷◌, ◌≡◌, ◌⊎◌}
use Rattle.start_plan.specs.Prelude.{[], After, BindsTo, Bool, Case, Conflicts, DepKind, EdgeMap, false, flat_map, is_loaded_by, is_perpetual, is_same, IsAmong, IsKnown, List, list_any, LoadedUnit, LoadMap, main_in, Manager, map, Name, names_in, None, Option, PartOf, Profile, Requires, Requisite, shape, Some, Template, unit_in, unwrap_or, Upholds, Wants}
use Rattle.start_plan.specs.declared.requests.Request.{Request}

-- ---- the names of a request

-- one of the names is a template
abbrev pub HasTemplate : List Name → Type 0
HasTemplate names = (n : Name) × IsAmong n names × (shape n ≡ Template)

-- the target or a running name is a template
abbrev pub AsksTemplate : Request → Type 0
AsksTemplate request = (shape request.target ≡ Template) ⊎ HasTemplate request.running

-- each name is a template or resolves to a unit of the load
abbrev pub IsOfGraph : LoadMap → Request → Type 0
IsOfGraph load request = (n : Name) → IsAmong n (request.target ∷ request.running) → (shape n ≡ Template) ⊎ IsKnown load n

-- ---- units

-- whether there is a unit, and it is loaded
abbrev pub is_loaded : Option LoadedUnit → Bool
is_loaded None = false
is_loaded (Some unit) = is_loaded_by unit.status

-- whether there is a unit, and it refuses to be started by hand
abbrev pub is_manual : Option LoadedUnit → Bool
is_manual None = false
is_manual (Some unit) = unit.manual

-- whether there is a unit, and it is one that for a manager always runs and never stops
abbrev pub is_perpetual_by : Profile → Option LoadedUnit → Bool
is_perpetual_by Manager (Some unit) = is_perpetual unit.name
is_perpetual_by profile other = false

-- the main name of a name
abbrev pub main_of : LoadMap → Name → Name
main_of load name = unwrap_or (main_in load name) name

-- ---- the case

-- the units to which edges of these kinds lead from a unit
abbrev pub edges_of : EdgeMap → List DepKind → Name → List Name
edges_of edges deps u = flat_map (λ dep. names_in edges dep u) deps

-- what a unit needs
abbrev pub needing : List DepKind
needing = Requires ∷ BindsTo ∷ []

-- what a unit wants: what it pulls only where that can start
abbrev pub weak : List DepKind
weak = Wants ∷ Upholds ∷ []

-- the kinds by which a unit stops along with another
abbrev pub tying : List DepKind
tying = Requires ∷ Requisite ∷ BindsTo ∷ PartOf ∷ []

-- The case of a plan: the request's names are replaced by main names, and the edges say what units ask of each other.
-- The units that are to start before a unit are those that it is `After`. For a manager perpetual units run, asked for or not.
abbrev pub case_of : LoadMap → EdgeMap → Request → Case Name
case_of load edges request = record {
  profile = load.viewer.profile;
  target = main_of load request.target;
  is_loaded = λ u. is_loaded (unit_in load u);
  refuses_manual_start = λ u. is_manual (unit_in load u);
  is_running = λ u. is_perpetual_by load.viewer.profile (unit_in load u) || list_any (is_same u) (map (main_of load) request.running);
  is_perpetual = λ u. is_perpetual_by load.viewer.profile (unit_in load u);
  needs = edges_of edges needing;
  wants = edges_of edges weak;
  requisites = edges_of edges (Requisite ∷ []);
  conflicts = edges_of edges (Conflicts ∷ []);
  predecessors = edges_of edges (After ∷ []);
  stops_with = edges_of edges tying;
}
