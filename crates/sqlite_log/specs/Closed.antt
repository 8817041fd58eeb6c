-- What a close leaves of the files of a log.
-- Source: this project's own.
use Rattle.std.specs.Prelude.{◌≡◌, ◌⊎◌, [], ◌∷◌, List}
use Rattle.sqlite_disk.specs.declared.Disk.{Ghosts}
use Rattle.sqlite_disk.specs.declared.Files.{Files}
use Rattle.sqlite.specs.Recovery.{Image}
use Rattle.sqlite.specs.WalFiles.{outcomes}
use Rattle.sqlite.specs.Closing.{HoldsAlone}
use Rattle.sqlite.specs.declared.FileStore.{FileStore}
use Rattle.sqlite.specs.Files.{file_state, image_of}
use Rattle.sqlite.specs.Held.{Held}
use Rattle.sqlite.specs.Tree.{Trees}
use Rattle.edit_log.specs.declared.logs.LogHead.{LogHead}
use Rattle.edit_log.specs.declared.logs.LogPeer.{LogPeer}
use Rattle.edit_log.specs.declared.logs.LogRow.{LogRow}
use Rattle.sqlite_log.specs.States.{heads_in, heads_of, held_in, peers_in, peers_of}

-- The database file holds a log with this head, these rows and these peers, with the file beside it or without, as the two
-- read now and after a crash.
pub record HoldsLog {D : Type 0} (g : Ghosts D) (files : Files D) (head : LogHead) (rows : List LogRow)
    (peers : List LogPeer) : Type 0 where
  pub trees : Trees
  pub seen : HoldsAlone (image_of g files) trees
  pub left : (image : Image) → outcomes g files.log files.db image → HoldsAlone image trees
  pub heads : heads_in trees ≡ head ∷ []
  pub holds : held_in trees ≡ rows
  pub knows : peers_in trees ≡ peers

-- what the files hold now, or what a crash may leave of them
abbrev pub IsImageOf : {D : Type 0} → Ghosts D → Files D → Image → Type 0
IsImageOf g files image = (image ≡ image_of g files) ⊎ outcomes g files.log files.db image

-- the database is a log with this head, these rows and these peers
abbrev pub HasRows : {D : Type 0} {g : Ghosts D} → Held (FileStore D g) → LogHead → List LogRow → List LogPeer → Type 0
HasRows conn head rows peers = ∥ ((heads_of (file_state conn) ≡ head ∷ []) × (held_in (file_state conn).committed.trees ≡ rows) × (peers_of (file_state conn) ≡ peers)) ∥₁
