use Rattle.fleet_script.proofs.{Between.{any_node, merge_counted}, Goes.{with_node}, Prelude.{AtNode, kept_in, MergesInto, Ok}}
use Rattle.fleet_script.proofs.states.Shell.merge.Goals as goal

pub returns-clause-done : goal.returns-clause-done
returns-clause-done c =
    let shell = kept_in c.args.self.now in
    let after = kept_in c.merge_nodes.new.self in
    let rendered = Ok c.in_ok-merge_done.field-0 in
    with_node shell after rendered c.args.from.now c.in_ok-from.from (λ j old outcome new. AtNode old outcome new c.args.to.now (λ k. MergesInto old outcome new j k)) c.in_ok-from.ensures.found
    (with_node shell after rendered c.args.to.now c.in_ok-to.to (λ k old outcome new. MergesInto old outcome new c.in_ok-from.from k) c.in_ok-to.ensures.found
    (merge_counted shell after c.in_ok-from.from c.in_ok-to.to any_node c.in_ok-from.ensures.within c.in_ok-to.ensures.within c.in_ok-changed.ensures.given
    c.in_ok-changed.changed c.in_ok-merge_done.field-0 c.in_ok-changed.ensures.changed c.in_ok-merge_done.ensures.line))
