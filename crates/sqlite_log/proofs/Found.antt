-- What is found after a close.
use Rattle.std.proofs.Common.{[], ◌∷◌, ◌≡◌, ◌∙◌, ap, List, subst, sym, ⊎_elim}
use Rattle.std.proofs.Math.Logic.{∥∥₁_map}
use Rattle.sqlite_disk.specs.declared.Disk.{Ghosts}
use Rattle.sqlite_disk.specs.declared.Files.{Files}
use Rattle.sqlite.specs.Closing.{HoldsAlone}
use Rattle.sqlite.specs.declared.FileStore.{FileStore}
use Rattle.sqlite.specs.Files.{file_state, HoldsDatabase, image_of}
use Rattle.sqlite.specs.Held.{Held}
use Rattle.sqlite.specs.Recovery.{Image}
use Rattle.sqlite.specs.Tree.{Trees}
use Rattle.sqlite.specs.WalFiles.{outcomes}
use Rattle.edit_log.specs.declared.logs.LogHead.{LogHead}
use Rattle.edit_log.specs.declared.logs.LogPeer.{LogPeer}
use Rattle.edit_log.specs.declared.logs.LogRow.{LogRow}
use Rattle.sqlite_log.specs.Closed.{HasRows, HoldsLog, IsImageOf}
use Rattle.sqlite_log.specs.Found.{FindsLog}
use Rattle.sqlite_log.specs.States.{heads_in, held_in, peers_in}

-- an open of files that hold a database finds its head, rows and peers
pub found_rows : {E : Type 0} {h : Ghosts E} (image : Image) (c : Held (FileStore E h)) (trees : Trees) (head : LogHead) (rows : List LogRow) (peers : List LogPeer)
    → heads_in trees ≡ head ∷ [] → held_in trees ≡ rows → peers_in trees ≡ peers → ∥ HoldsDatabase image trees ∥₁ → FindsLog image c → HasRows c head rows peers
found_rows image c trees head rows peers heads holds knows database found =
    ∥∥₁_map database (λ db. let same : (file_state c).committed.trees ≡ trees = found.same ∙ found.found.holds trees db in (ap heads_in same ∙ heads, ap held_in same ∙ holds, ap peers_in same ∙ knows))

-- each image of closed files holds the database, with the file beside it or without
pub image_alone : {D : Type 0} (g : Ghosts D) (files : Files D) (head : LogHead) (rows : List LogRow) (peers : List LogPeer) (held : HoldsLog g files head rows peers) (image : Image)
    → IsImageOf g files image → HoldsAlone image held.trees
image_alone g files head rows peers held image is =
    ⊎_elim (λ (e : image ≡ image_of g files). subst (λ i. HoldsAlone i held.trees) (sym e) held.seen) (λ (left : outcomes g files.log files.db image). held.left image left) is
