-- What an open finds.
-- Source: this project's own.
use Rattle.std.specs.Prelude.{◌≡◌}
use Rattle.sqlite_disk.specs.declared.Disk.{Ghosts}
use Rattle.sqlite.specs.Recovery.{Image}
use Rattle.sqlite.specs.declared.FileStore.{FileStore}
use Rattle.sqlite.specs.Held.{Held}
use Rattle.sqlite.specs.Files.{file_state}
use Rattle.sqlite.specs.Start.{FindsIn}
use Rattle.sqlite.specs.Tree.{Trees}
use Rattle.sqlite_log.specs.States.{heads_in, heads_of, log_in, log_of, peers_in, peers_of}

-- the files held what is committed, and nothing was written since
pub record FindsLog {D : Type 0} {g : Ghosts D} (image : Image) (c : Held (FileStore D g)) : Type 0 where
  pub was : Held (FileStore D g)
  pub found : FindsIn image (file_state was)
  pub same : (file_state c).committed.trees ≡ (file_state was).committed.trees

-- the rows, heads and peers of the later log are those of one outcome of a crash
abbrev pub IsLeft : {D E : Type 0} {g : Ghosts D} {h : Ghosts E} → Held (FileStore D g) → Held (FileStore E h) → Type 0
IsLeft conn later =
    ∥ ((trees : Trees) × (file_state conn).may_leave trees × (log_in trees ≡ log_of (file_state later)) × (heads_in trees ≡ heads_of (file_state later)) × (peers_in trees ≡ peers_of (file_state later))) ∥₁
