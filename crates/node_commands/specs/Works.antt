-- What pieces of work write, and what they leave of a node.
-- Source: this project's own.
use Rattle.std.specs.Prelude.{◌≡◌, IsPermutation, IsSorted, List, None, Option, Some, ℕ}
use Rattle.std.specs.declared.cmp.Ordering.{Ordering}
use Rattle.std.specs.Io.KnownBytes.{Appends}
use Rattle.edit_sums.specs.Sums.{changed_places, EntryMap, join, sum_of}
use Rattle.edit_log.specs.declared.logs.{LogHead.{LogHead}, LogPeer.{LogPeer}, LogRow.{LogRow}}
use Rattle.edit_log.specs.Logs.{edits_in, LeavesJust}
use Rattle.world_law.specs.Cuts.{cut, digest_of}
use Rattle.store_bytes.specs.Bytes.{digest_spelling, spelling_of}
use Rattle.replica_store.specs.Replicas.{Replicated}
use Rattle.durable_node.specs.declared.{histories.Logged.{Logged}, logs.LoggedAt.{LoggedAt}}
use Rattle.durable_node.specs.Histories.{logged_all, logged_at}
use Rattle.durable_node.specs.Peers.{AreLatest}
use Rattle.node_commands.specs.Puts.{bytes_put}
use Rattle.node_commands.specs.Texts.{changed_line, history_text, id_line, log_text, peers_text}
use Rattle.node_commands.specs.declared.works.Work.{Work}
use Rattle.node_commands.specs.declared.works.Work.TheVariants.{Content, Delta, Digest, History, Id, Log, Peers, Store, Take}

-- what stands in a log
pub record InLog : Type 0 where
  pub rows : List LogRow
  pub peers : List LogPeer
  pub head : LogHead

-- the work adds its answer to what was written: of a node that held one store and whose log held this, and that then holds the
-- other store. A history is in the order of versions, by which edits of a place are compared, and a log in the order of places.
abbrev pub Answers : (Logged → Logged → Ordering) → (LoggedAt → LoggedAt → Ordering) → Work → EntryMap → EntryMap
    → InLog → Option (List ℕ) → Option (List ℕ) → Type 0
Answers cmp by_place Digest was is held from to = Appends from to (digest_spelling (digest_of was))
Answers cmp by_place Store was is held from to = Appends from to (spelling_of 1 was)
Answers cmp by_place Id was is held from to = Appends from to (id_line was)
Answers cmp by_place (Delta asked) was is held from to = Appends from to (spelling_of 2 (cut was asked None))
Answers cmp by_place (Take piece) was is held from to = Appends from to (changed_line (changed_places was is))
Answers cmp by_place (History place) was is held from to =
    (logged : List Logged) × IsPermutation (logged_at place held.rows) logged × IsSorted cmp logged × Appends from to (history_text logged)
Answers cmp by_place Log was is held from to =
    (logged : List LoggedAt) × IsPermutation (logged_all held.rows) logged × IsSorted by_place logged × Appends from to (log_text logged)
Answers cmp by_place Peers was is held from to = (peers : List LogPeer) × AreLatest held.peers peers × Appends from to (peers_text held.head peers)
Answers cmp by_place (Content place version) was is held from to =
    (logged : List Logged) × IsPermutation (logged_at place held.rows) logged × IsSorted cmp logged
    × ((bytes : List ℕ) × (bytes_put version logged ≡ Some bytes) × Appends from to bytes)

-- the rows have no edit of the place with the version, or it is a removal
abbrev pub LacksEdit : (Logged → Logged → Ordering) → Work → List LogRow → Type 0
LacksEdit cmp (Content place version) rows =
    (logged : List Logged) × IsPermutation (logged_at place rows) logged × IsSorted cmp logged × (bytes_put version logged ≡ None)
LacksEdit cmp other rows = ⊥

-- the replica after the work: a piece is joined, and else it stays
abbrev pub replica_after : Work → Replicated → Replicated
replica_after (Take piece) r = record r { store = join r.store piece }
replica_after other r = r

-- a piece is committed: the log comes to the store, and a crash leaves just that
abbrev pub Commits : Work → List LogRow → (List LogRow → Type 0) → EntryMap → Type 0
Commits (Take piece) held leaves s = (sum_of (edits_in held) ≡ s) × LeavesJust held leaves
Commits other held leaves s = Unit {0}
