use Rattle.fleet_script.proofs.{Goes.{remove_refused, removed, set_again, with_site}, Nodes.{slice_get_at}, Prelude.{Err, Goes, kept_in, List, Ok, Removes, RemovesAt, Replicated, subst, sym}}
use Rattle.fleet_script.proofs.states.Shell.remove.Goals as goal

pub returns-in-Err-clause-done : goal.returns-in-Err-clause-done
returns-in-Err-clause-done c =
    let nodes = c.args.self.now.nodes.items in
    let shell = kept_in c.args.self.now in
    let at = slice_get_at nodes c.in_ok-at.at c.index_mut.result.now c.in_ok-at.ensures.within c.index_mut.ensures.value in
    subst (λ (ns : List Replicated). Goes shell (record shell { nodes = ns }) (λ old outcome new. Removes old outcome new c.args.node.now c.args.place.now) (Err c.from.result))
    (sym (set_again nodes c.in_ok-at.at c.index_mut.result.now c.remove.new.self c.index_mut.ensures.value c.in-Err.ensures.err))
    (with_site shell shell (Err c.from.result) c.args.node.now c.args.place.now c.in_ok-at.at c.in_ok-at.place _ c.in_ok-at.ensures.found
    (remove_refused shell c.in_ok-at.at c.index_mut.result.now c.in_ok-at.place at c.in-Err.fault c.from.result (λ e. c.in-Err.ensures.nothing.0 e) (λ e. c.in-Err.ensures.spent.0 e) c.from.ensures))

pub returns-clause-done : goal.returns-clause-done
returns-clause-done c =
    let nodes = c.args.self.now.nodes.items in
    let shell = kept_in c.args.self.now in
    let at = slice_get_at nodes c.in_ok-at.at c.index_mut.result.now c.in_ok-at.ensures.within c.index_mut.ensures.value in
    with_site shell _ (Ok c.in_ok-put_done.field-0) c.args.node.now c.args.place.now c.in_ok-at.at c.in_ok-at.place
    (λ k p old outcome new. RemovesAt old outcome new k p) c.in_ok-at.ensures.found
    (removed shell c.in_ok-at.at c.index_mut.result.now c.in_ok-at.place at c.remove.new.self c.in-Ok.version c.in_ok-put_done.field-0 c.in_ok-at.ensures.within
    (λ none. let e = c.in-Ok.ensures.nothing.1 none in cc (e)) (λ some high. let e = c.in-Ok.ensures.spent.1 (some, high) in cc (e)) c.in-Ok.ensures.version c.in_ok-put_done.ensures.line c.in-Ok.ensures.joined)
