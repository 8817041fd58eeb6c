use Rattle.fleet_script.proofs.{Between.{given}, Prelude.{ap, kept_in, Some, sym, ◌∙◌}}
use Rattle.fleet_script.proofs.states.Shell.send.Goals as goal

pub returns-clause-done : goal.returns-clause-done
returns-clause-done c =
    let shell = kept_in c.args.self.now in
    given shell c.args.piece.now c.args.node.now c.in_ok-to.field-0 c.index_mut.result.now c.merge.new.self c.store.result.now c.in_ok-changed.changed c.in_ok-merge_done.field-0
    (ap shell.piece_of (sym c.in_ok-name.ensures.copy) ∙ sym c.in-Some.ensures.value ∙ ap Some (sym c.store.ensures.store)) c.in_ok-to.ensures.found c.in_ok-to.ensures.within c.index_mut.ensures.value c.in_ok-changed.ensures.ok c.in_ok-changed.ensures.changed c.in_ok-merge_done.ensures.line
