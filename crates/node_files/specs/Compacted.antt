-- Two files of one node.
-- Source: this project's own.
use Rattle.std.specs.Prelude.{◌≡◌, ℕ, IsPermutation, List}
use Rattle.sqlite_disk.specs.declared.Disk.{Ghosts}
use Rattle.sqlite_disk.specs.declared.Files.{Files}
use Rattle.sqlite.specs.WalReads.{AreClean}
use Rattle.edit_sums.specs.Sums.{edits_of, sum_of}
use Rattle.durable_node.specs.Peers.{AreLatest}
use Rattle.edit_log.specs.declared.logs.LogHead.{LogHead}
use Rattle.edit_log.specs.declared.logs.LogPeer.{LogPeer}
use Rattle.edit_log.specs.declared.logs.LogRow.{LogRow}
use Rattle.edit_log.specs.Logs.{edits_in, stamped}
use Rattle.sqlite_log.specs.Closed.{HoldsLog}

-- Both database files hold a log of one head and one sum, also with nothing beside them. The new one has each place's entry
-- once, with this time, and each node that the old one knows once, as it was seen last.
pub record HasCompacted {D E : Type 0} (g : Ghosts D) (h : Ghosts E) (time : ℕ) (old : Files D) (fresh : Files E) : Type 0 where
  pub head : LogHead
  pub rows : List LogRow
  pub entries : List LogRow
  pub known : List LogPeer
  pub carried : List LogPeer
  pub latest : List LogPeer
  pub holds : HoldsLog g old head rows known
  pub takes_over : HoldsLog h fresh head entries carried
  pub same : sum_of (edits_in entries) ≡ sum_of (edits_in rows)
  pub once : IsPermutation (stamped time (edits_of (sum_of (edits_in rows)))) entries
  pub seen : AreLatest known latest
  pub peers : IsPermutation latest carried

-- unless a wrong answer of the disk was taken as true
abbrev pub Compacts : {D E : Type 0} → Ghosts D → Ghosts E → ℕ → Files D → Files E → Type 0
Compacts g h time old fresh = AreClean g old.log old.db → AreClean h fresh.log fresh.db → HasCompacted g h time old fresh
