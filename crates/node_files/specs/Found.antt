-- What an open of a node finds.
-- Source: this project's own.
use Rattle.std.specs.Prelude.{◌≡◌}
use Rattle.sqlite_disk.specs.declared.Disk.{Ghosts}
use Rattle.sqlite.specs.Recovery.{Image}
use Rattle.sqlite.specs.declared.FileStore.{FileStore}
use Rattle.sqlite.specs.Held.{Held}
use Rattle.sqlite.specs.Files.{file_state}
use Rattle.sqlite.specs.Start.{FindsIn}
use Rattle.sqlite_log.specs.States.{held_in, peers_in}

-- the rows and peers of the log are those that the files held
pub record FindsHeld {D : Type 0} {g : Ghosts D} (image : Image) (c : Held (FileStore D g)) : Type 0 where
  pub was : Held (FileStore D g)
  pub found : FindsIn image (file_state was)
  pub same : held_in (file_state c).committed.trees ≡ held_in (file_state was).committed.trees
  pub knows : peers_in (file_state c).committed.trees ≡ peers_in (file_state was).committed.trees
