use Rattle.join_law.proofs.Prelude.{IsLeast, IsUpTo, not_least, subst}
use Rattle.join_law.proofs.versions.VersionedJoin.is_bottom.Goals as goal

pub returns-in-At-clause-least : goal.returns-in-At-clause-least
returns-in-At-clause-least g c =
    (λ t. cc (t), λ least. absurd (not_least g.C.Ord.cmp _ (subst (IsLeast (IsUpTo g.C.Ord.cmp)) c.in-At.is least)))
