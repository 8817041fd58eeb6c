-- Results that are put together.
-- Source: this project's own.
use Rattle.std.proofs.Common.{◌≡◌}
use Rattle.worker_rounds.specs.Prelude.{flat_map, List, map, Ok, Result, Vec}

-- none of the parts is an error, and `all` is what they hold, concatenated
pub record IsJoined {X E : Type 0} (parts : List (Result (Vec X) E)) (all : List X) : Type 0 where
  pub loads : List (Vec X)
  pub each : parts ≡ map Ok loads
  pub whole : all ≡ flat_map (λ v. v.items) loads
