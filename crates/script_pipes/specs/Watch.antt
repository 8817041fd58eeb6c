-- What contracts see of a watched reader or writer.
-- Source: this project's own.
use Rattle.script_pipes.specs.Prelude.{ℕ}

-- the reader or writer itself, the number of its reads, and the number of calls that failed or accepted no byte
pub record Watch (T : Type 0) : Type 0 where
  pub inner : T
  pub reads : ℕ
  pub failed : ℕ
