-- A database that is a log.
-- Source: this project's own.
use Rattle.std.specs.Prelude.{◌++◌, ◌≡◌, false, List, [], ◌∷◌, map, IsTrue, IsPermutation}
use Rattle.sqlite.specs.Schema.{Schema}
use Rattle.sqlite.specs.Tree.{Trees}
use Rattle.sqlite.specs.State.{State, HasCleanDisk}
use Rattle.edit_log.specs.declared.logs.LogHead.{LogHead}
use Rattle.edit_log.specs.declared.logs.LogPeer.{LogPeer}
use Rattle.edit_log.specs.declared.logs.LogRow.{LogRow}
use Rattle.sqlite_log.specs.Cells.{Cells, cells_in, head_in, peer_in, rows_in}
use Rattle.std.proofs.Common.{ap, subst, sym, ◌∙◌}
use Rattle.std.proofs.lemmas.List.Sorted.{IsPermutation-refl}
use Rattle.sqlite.specs.Store.{Ghosts}
use Rattle.sqlite.specs.Held.{Held, state}
use Rattle.sqlite_log.specs.Tables.{log_schema}

-- the cells of the edits of a database, in the order of their numbers
abbrev pub log_in : Trees → List Cells
log_in trees = map cells_in (trees 0)

abbrev pub heads_in : Trees → List LogHead
heads_in trees = map head_in (trees 1)

abbrev pub peers_in : Trees → List LogPeer
peers_in trees = map peer_in (trees 2)

-- those that are committed
abbrev pub log_of : State → List Cells
log_of s = log_in s.committed.trees

abbrev pub heads_of : State → List LogHead
heads_of s = heads_in s.committed.trees

abbrev pub peers_of : State → List LogPeer
peers_of s = peers_in s.committed.trees

-- the rows of a log
abbrev pub held_in : Trees → List LogRow
held_in trees = rows_in (log_in trees)

-- the database is open, has this schema, and no transaction is open
pub record HasSchema (schema : Schema) (s : State) : Type 0 where
  pub is_open : IsTrue s.is_open
  pub has : s.now.schema ≡ schema
  pub alone : s.in_transaction ≡ false
  pub settled : s.now ≡ s.committed

abbrev pub IsLog : State → Type 0
IsLog = HasSchema log_schema

-- unless a wrong answer of the disk was taken as true, the database is a log with this head
abbrev pub Stands : LogHead → State → Type 0
Stands head s = HasCleanDisk s → IsLog s × (heads_of s ≡ head ∷ [])

-- these rows more, wherever their numbers put them
abbrev pub Adds : List Cells → List Cells → List Cells → Type 0
Adds old new added = IsPermutation (old ++ added) new

-- the log with these rows more, and with the same head and peers
pub record Grows (old new : Trees) (added : List Cells) : Type 0 where
  pub rows : Adds (log_in old) (log_in new) added
  pub heads : heads_in new ≡ heads_in old
  pub peers : peers_in new ≡ peers_in old

-- the log with these peers more, wherever their numbers put them, and with the same head and rows
pub record Meets (old new : Trees) (met : List LogPeer) : Type 0 where
  pub peers : IsPermutation (peers_in old ++ met) (peers_in new)
  pub heads : heads_in new ≡ heads_in old
  pub rows : log_in new ≡ log_in old

-- a transaction over a log
pub record IsInside (s : State) : Type 0 where
  pub schema : s.now.schema ≡ log_schema
  pub inside : IsTrue s.in_transaction

-- after a failure the log is as it was, unless the connection is shut
abbrev pub StandsAs : State → State → Type 0
StandsAs old new = HasCleanDisk new → IsTrue new.is_open → IsLog new × (new.committed.trees ≡ old.committed.trees)

-- the rows that a crash at this moment may leave
abbrev pub MayLeave : State → List LogRow → Type 0
MayLeave s left = (trees : Trees) × s.may_leave trees × (left ≡ held_in trees)

-- while a log stands, a crash leaves its rows
pub log_lasts : {S : Type 0} (g : Ghosts S) (c : Held S)
    → ((s : S) (db : Trees) → IsTrue (g.view s).is_open → g.recovers s db → db ≡ (g.view s).committed)
    → (head : LogHead)
    → Stands head (state g c) → HasCleanDisk (state g c) → (left : List LogRow) → MayLeave (state g c) left
    → IsPermutation (held_in (state g c).committed.trees) left
log_lasts g c settled head stands clean left may =
    let same : may.0 ≡ (state g c).committed.trees = settled c.store may.0 (stands clean).0.is_open may.1 in
    subst (IsPermutation (held_in (state g c).committed.trees)) (sym (may.2 ∙ ap held_in same)) (IsPermutation-refl (held_in (state g c).committed.trees))
