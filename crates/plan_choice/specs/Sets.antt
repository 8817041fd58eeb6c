-- The sets of units that a plan is defined by. Each closure is one of `name_closure`: what is reached from sources
-- along edges. A manager leaves running units as they are: it goes on from none of them but that at which it began.
-- Source: systemd.unit(5), "Wants=", "Requires=", "Requisite=", "BindsTo=", "PartOf=", "Conflicts=";
-- which weak dependencies are good, and which unit loses a conflict, is this project's own.
use Rattle.std.proofs.Common.{◌∷◌, ◌≡◌, ◌⊎◌}
use Rattle.plan_choice.specs.{Case.{Case}, Prelude.{[], false, Files, IsAmong, IsReached, IsTrue, Less, Listed, Manager, Ordering}}

module _ {N : Type 0} (c : Case N) where
  -- a running unit, where a manager plans
  abbrev pub IsLeftAlone : N → Type 0
  IsLeftAlone u = (c.profile ≡ Manager) × IsTrue (c.is_running u)

  -- from u, what began at this unit goes on: it is that unit, or isn't left alone
  abbrev pub GoesOn : N → N → Type 0
  GoesOn begin u = (begin ≡ u) ⊎ ¬ IsLeftAlone u

  -- what began at this unit goes on from u to v, which u needs
  abbrev pub NeedsNext : N → N → N → Type 0
  NeedsNext begin u v = GoesOn begin u × IsAmong v (c.needs u)

  -- v is u, or u needs v, directly or over what it needs
  abbrev pub Needs : N → N → Type 0
  Needs u v = IsReached (Listed (u ∷ [])) (NeedsNext u) v

  abbrev pub IsNeeded : N → Type 0
  IsNeeded = Needs c.target

  -- one of the two names the other
  abbrev pub AreInConflict : N → N → Type 0
  AreInConflict u v = IsAmong v (c.conflicts u) ⊎ IsAmong u (c.conflicts v)

  -- A unit that may be pulled over a weak dependency: all that it needs is loaded, conflicts with nothing that the
  -- target needs and, by files alone, has its requisites running. (A manager asks for requisites once it knows what is
  -- pulled.)
  pub record IsGood (u : N) : Type 0 where
    pub all_loaded : (v : N) → Needs u v → IsTrue (c.is_loaded v)
    pub requisites_run : c.profile ≡ Files → (v w : N) → Needs u v → IsAmong w (c.requisites v) → IsTrue (c.is_running w)
    pub at_peace : (v w : N) → Needs u v → IsNeeded w → ¬ AreInConflict v w

  -- u needs v, or wants v and v is good
  abbrev pub AsksFor : N → N → Type 0
  AsksFor u v = IsAmong v (c.needs u) ⊎ (IsAmong v (c.wants u) × IsGood v)

  -- what began at the target goes on from u to v, for which u asks
  abbrev pub Pulls : N → N → Type 0
  Pulls u v = GoesOn c.target u × AsksFor u v

  abbrev pub IsPulled : N → Type 0
  IsPulled = IsReached (Listed (c.target ∷ [])) Pulls

  -- pulled, and not needed by the target
  pub record IsExtra (u : N) : Type 0 where
    pub pulled : IsPulled u
    pub beyond : ¬ IsNeeded u

  -- u has the requisite v, which doesn't run; for a manager, which isn't pulled either
  pub record Lacks (u v : N) : Type 0 where
    pub asked : IsAmong v (c.requisites u)
    pub rests : c.is_running v ≡ false
    pub unpulled : c.profile ≡ Manager → ¬ IsPulled v

  -- v precedes u: u starts after it
  abbrev pub Precedes : N → N → Type 0
  Precedes v u = IsAmong v (c.predecessors u)

module _ {N : Type 0} (order : N → N → Ordering) (c : Case N) where
  -- Of two extra units in conflict the one that is named loses; where each names the other, the greater one.
  pub record LosesTo (loser winner : N) : Type 0 where
    pub extra : IsExtra c loser
    pub other_extra : IsExtra c winner
    pub is_named : IsAmong loser (c.conflicts winner)
    pub greater : IsAmong winner (c.conflicts loser) → order winner loser ≡ Less

  -- For a manager, an extra unit that doesn't run and lacks a requisite loses too.
  pub record MissesRequisite (loser : N) : Type 0 where
    pub manager : c.profile ≡ Manager
    pub extra : IsExtra c loser
    pub rests : c.is_running loser ≡ false
    pub requisite : N
    pub lacks : Lacks c loser requisite

  -- loses a conflict, or lacks a requisite
  abbrev pub IsLoser : N → Type 0
  IsLoser u = ((winner : N) × LosesTo u winner) ⊎ MissesRequisite u

  -- is pulled and loses, or is pulled and needs a unit that does
  pub record IsDropped (u : N) : Type 0 where
    pub pulled : IsPulled c u
    pub loser : N
    pub lost : IsLoser loser
    pub needed : Needs c u loser

  -- what began at the target goes on from u to v, which u needs or wants, and which is pulled and not dropped
  pub record Keeps (u v : N) : Type 0 where
    pub goes_on : GoesOn c c.target u
    pub asked : IsAmong v (c.needs u) ⊎ IsAmong v (c.wants u)
    pub pulled : IsPulled c v
    pub stays : ¬ IsDropped v

  -- what is reached from the target within what is pulled and not dropped
  abbrev pub IsChosen : N → Type 0
  IsChosen = IsReached (Listed (c.target ∷ [])) Keeps

  -- what the plan starts
  pub record Starts (u : N) : Type 0 where
    pub chosen : IsChosen u
    pub rests : ¬ IsTrue (c.is_running u)

  -- what the plan may stop
  pub record IsOutside (u : N) : Type 0 where
    pub runs : IsTrue (c.is_running u)
    pub unchosen : ¬ IsChosen u
    pub may_stop : c.is_perpetual u ≡ false

  -- stopped by a conflict: a unit outside the chosen ones conflicts with a chosen one, which isn't left alone or is the target
  pub record IsStoppedByConflict (u : N) : Type 0 where
    pub outside : IsOutside u
    pub conflicting_unit : N
    pub chosen : IsChosen conflicting_unit
    pub counts : GoesOn c c.target conflicting_unit
    pub conflict : AreInConflict c u conflicting_unit

  -- where v stops, the running unit u outside the chosen ones stops with it
  pub record TakesAlong (v u : N) : Type 0 where
    pub outside : IsOutside u
    pub tied : IsAmong v (c.stops_with u)
