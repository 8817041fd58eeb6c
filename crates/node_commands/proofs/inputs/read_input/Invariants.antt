use Rattle.node_commands.proofs.ReadSteps.{IsReadTo}
use Rattle.node_commands.specs.declared.inputs.TheConstants.{MAX_INPUT_BYTES}
use Rattle.node_commands.proofs.inputs.read_input.Given as goal

abbrev pub invariant-loop-turn : goal.invariant-loop-turn
invariant-loop-turn g l =
    IsReadTo (g.S.Source.remaining l.fn.source) (g.S.Source.remaining l.source) MAX_INPUT_BYTES (g.S.Source.failures l.fn.source) (g.S.Source.failures l.source) l._turn l.input.items
