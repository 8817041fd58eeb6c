-- How many workers may load.
-- Source: this project's own.
use Rattle.std.proofs.Common.{◌<◌, ◌≤◌}
use Rattle.worker_rounds.specs.Prelude.{ℕ}

-- 1 to 64 workers
pub record IsWorkerCount (workers : ℕ) : Type 0 where
  pub some : 0 < workers
  pub within : workers ≤ 64
