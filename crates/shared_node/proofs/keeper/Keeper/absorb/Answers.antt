use Rattle.std.proofs.Common.{◌++◌, ◌∷◌}
use Rattle.shared_node.proofs.Prelude.{[], Absorbed, ap, ℕ, ◌∙◌}
use Rattle.shared_node.proofs.keeper.Keeper.absorb.Goals as goal

pub returns-in-None-clause-accepted : goal.returns-in-None-clause-accepted
returns-in-None-clause-accepted g c =
    c.finish.ensures.accepted ∙ c.in-Ok.ensures.accepted
    ∙ ap (λ (n : ℕ). c.args.self.now.accepted ++ Absorbed n c.args.piece ∷ []) c.number.ensures.number
