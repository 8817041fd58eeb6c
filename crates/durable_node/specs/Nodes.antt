-- A node and its log.
-- Source: this project's own.
use Rattle.std.specs.Prelude.{◌≡◌, ◌<◌, ◌^◌, Bool, false, List, refl}
use Rattle.std.specs.Coded.{code_by, Coded, coded×, coded_bool, coded_list}
use Rattle.edit_sums.specs.contracts.entries.Edit as edit
use Rattle.edit_sums.specs.declared.entries.Edit.{Edit}
use Rattle.edit_sums.specs.Sums.{high_among, join, sum_of}
use Rattle.replica_store.specs.Replicas.{coded_replicated, Replicated}
use Rattle.edit_log.specs.declared.logs.LogRow.{LogRow}
use Rattle.edit_log.specs.Logs.{edits_in}

pub record Node (L : Type 0) : Type 0 where
  pub log : L
  pub replica : Replicated
  -- what it wrote and took since the last commit
  pub unsaved : List Edit
  -- a call was refused by the log
  pub is_spent : Bool

abbrev pub coded_node : {L : Type 0} → Coded L → Coded (Node L)
coded_node {L} log = code_by (L × (Replicated × (List Edit × Bool))) (coded× log (coded× coded_replicated (coded× (coded_list (edit.the_row).coded) coded_bool)))
    (λ n. (n.log, (n.replica, (n.unsaved, n.is_spent)))) (λ p. record { log = p.0; replica = p.1.0; unsaved = p.1.1.0; is_spent = p.1.1.1 }) (λ _. refl)

-- Unless it is spent, its log runs and, if the files are honest, its store is what the log and the unsaved edits come to.
pub record IsKept {L : Type 0} (is_honest : L → Type 0) (is_running : L → Type 0) (held : L → List LogRow) (n : Node L) : Type 0 where
  pub running : n.is_spent ≡ false → is_running n.log
  pub sums : n.is_spent ≡ false → is_honest n.log → n.replica.store ≡ join (sum_of (edits_in (held n.log))) (sum_of n.unsaved)
  pub counters : high_among n.unsaved < 2 ^ 63
