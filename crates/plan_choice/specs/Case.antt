-- The input of a plan: the target, and what is known of each unit. Units are of any type, so they can be names or
-- indices.
-- Source: systemd.unit(5), "[Unit] Section Options".
use Rattle.plan_choice.specs.Prelude.{Bool, List, Profile}

pub record Case (N : Type 0) : Type 0 where
  -- by which rules it is planned
  pub profile : Profile
  pub target : N
  pub is_loaded : N → Bool
  pub refuses_manual_start : N → Bool
  pub is_running : N → Bool
  -- the unit always runs, and never stops
  pub is_perpetual : N → Bool
  -- what the unit requires or binds to
  pub needs : N → List N
  pub wants : N → List N
  pub requisites : N → List N
  -- what the unit's own settings conflict with
  pub conflicts : N → List N
  -- what is to start before the unit
  pub predecessors : N → List N
  -- what the unit stops with: what it requires, has as requisite, binds to or is part of
  pub stops_with : N → List N
