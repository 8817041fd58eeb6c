-- What a log of edits holds, and what a crash leaves of it.
-- Source: this project's own.
use Rattle.std.proofs.Common.{◌++◌, ◌⊎◌}
use Rattle.edit_log.specs.Prelude.{Edit, IsPermutation, List, map, ℕ}
use Rattle.edit_log.specs.declared.logs.LogRow.{LogRow}

-- these edits, each with this time
abbrev pub stamped : ℕ → List Edit → List LogRow
stamped time = map (λ e. record { edit = e; time = time })

-- the edits of some rows
abbrev pub edits_in : List LogRow → List Edit
edits_in = map (λ (r : LogRow). r.edit)

-- a crash leaves these rows, in some order, and nothing else
abbrev pub LeavesJust : List LogRow → (List LogRow → Type 0) → Type 0
LeavesJust rows outcomes = (left : List LogRow) → outcomes left → IsPermutation rows left

-- a crash leaves what it could leave before
abbrev pub LeavesNothingNew : (List LogRow → Type 0) → (List LogRow → Type 0) → Type 0
LeavesNothingNew before outcomes = (left : List LogRow) → outcomes left → before left

-- a crash leaves what it could leave before, or these rows with all that were to be added, in some order
abbrev pub LeavesAllOrNone : List LogRow → List LogRow → (List LogRow → Type 0) → (List LogRow → Type 0) → Type 0
LeavesAllOrNone rows added before outcomes = (left : List LogRow) → outcomes left → before left ⊎ IsPermutation (rows ++ added) left
