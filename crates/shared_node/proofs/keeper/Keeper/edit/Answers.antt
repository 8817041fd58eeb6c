use Rattle.std.proofs.Common.{◌++◌, ◌∷◌}
use Rattle.shared_node.proofs.Prelude.{[], ap, Edit, Edited, ℕ, ◌∙◌}
use Rattle.shared_node.proofs.keeper.Keeper.edit.Goals as goal

pub returns-in-None-clause-accepted : goal.returns-in-None-clause-accepted
returns-in-None-clause-accepted g c =
    let edit : Edit = record { place = c.args.place; version = c.in-Ok.version; content = c.args.content } in
    c.finish.ensures.accepted ∙ c.in-Ok.ensures.accepted
    ∙ ap (λ (n : ℕ). c.args.self.now.accepted ++ Edited n edit ∷ []) c.number.ensures.number
