-- What a log in memory may leave.
-- Source: this project's own.
use Rattle.std.proofs.Common.{◌++◌, ◌≡◌, ◌⊎◌}
use Rattle.edit_log.specs.Prelude.{IsPermutation, IsPermutation-refl, List, None, Option, Some, subst, sym}
use Rattle.edit_log.specs.declared.logs.LogRow.{LogRow}
use Rattle.std.specs.Prelude.{Vec}
use Rattle.std.specs.declared.alloc.Global.{Global}

-- the rows, or the rows with all that were being added when it failed
abbrev pub MayLeave : List LogRow → Option (Vec LogRow Global) → List LogRow → Type 0
MayLeave rows None left = left ≡ rows
MayLeave rows (Some group) left = (left ≡ rows) ⊎ (left ≡ rows ++ group.items)

-- while it has not failed, it leaves its rows
pub running_leaves : (rows : List LogRow) (failed : Option (Vec LogRow Global)) (left : List LogRow) → failed ≡ None
    → MayLeave rows failed left → IsPermutation rows left
running_leaves rows failed left none may =
    let same : left ≡ rows = subst (λ f. MayLeave rows f left) none may in
    subst (IsPermutation rows) (sym same) (IsPermutation-refl rows)
