use Rattle.std.proofs.Common.{◌↔◌}
use Rattle.path_maps.proofs.Prelude.{FolderMap, FoldersBelow, IsLeast, IsTrue, subst}
use Rattle.path_maps.proofs.folders.FolderMapJoin.is_bottom.Goals as goal

pub returns-clause-least : goal.returns-clause-least
returns-clause-least c =
    subst (λ (m : FolderMap). IsTrue c.is_bottom.result ↔ IsLeast FoldersBelow m) c.self.view_is c.is_bottom.ensures.least
