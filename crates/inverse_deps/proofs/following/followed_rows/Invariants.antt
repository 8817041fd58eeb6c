use Rattle.inverse_deps.proofs.Prelude.{[], AreMade, get_or, HasAdded, IsFollowing}
use Rattle.inverse_deps.proofs.following.followed_rows.Given as goal

abbrev pub invariant-loop-index : goal.invariant-loop-index
invariant-loop-index l = AreMade (λ index row. HasAdded (get_or l.given index []) (IsFollowing l.may index) row) l.index l.rows.items
