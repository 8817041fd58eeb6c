-- What an edit of a place's history put.
-- Source: this project's own.
use Rattle.std.specs.Prelude.{Bool, fold, if◌then◌else◌, List, None, Option, Some, ℕ}
use Rattle.std.specs.Ordering.{eq_by_cmp}
use Rattle.join_law.specs.declared.versions.Version.{Version}
use Rattle.join_law.specs.VersionOrder.{version_cmp}
use Rattle.edit_sums.specs.declared.contents.Content.{Content}
use Rattle.edit_sums.specs.declared.contents.Content.TheVariants.{File, Gone, Link}
use Rattle.durable_node.specs.declared.histories.Logged.{Logged}

-- the bytes of a file, or a link's target; none of a removal
abbrev pub bytes_of : Content → Option (List ℕ)
bytes_of Gone = None
bytes_of (Link target) = Some target
bytes_of (File bytes) = Some bytes

abbrev pub has_version : Version → Logged → Bool
has_version version l = eq_by_cmp version_cmp l.version version

-- The bytes that the edit with this version put, among edits in the order of versions. If a version was given to several edits,
-- the last counts: its content is the greatest, which decides in stores.
abbrev pub bytes_put : Version → List Logged → Option (List ℕ)
bytes_put version logged = fold (λ put l. if has_version version l then bytes_of l.content else put) None logged
