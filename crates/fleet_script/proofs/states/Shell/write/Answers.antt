use Rattle.std.proofs.Common.{◌<◌}
use Rattle.fleet_script.proofs.{Goes.{set_again, write_refused, wrote}, Nodes.{slice_get_at}, Prelude.{arith, Err, Goes, kept_in, length, List, Replicated, subst, sym, Writes}}
use Rattle.fleet_script.proofs.states.Shell.write.Goals as goal

pub returns-in-Err-clause-done : goal.returns-in-Err-clause-done
returns-in-Err-clause-done c =
    let nodes = c.args.self.now.nodes.items in
    let within : c.args.at < length nodes = omega arith in
    let at = slice_get_at nodes c.args.at c.index_mut.result.now within c.index_mut.ensures.value in
    let shell = kept_in c.args.self.now in
    subst (λ (ns : List Replicated). Goes shell (record shell { nodes = ns }) (λ old outcome new. Writes old outcome new c.args.at c.args.place c.args.content) (Err c.from.result))
    (sym (set_again nodes c.args.at c.index_mut.result.now c.put.new.self c.index_mut.ensures.value c.in-Err.ensures.err))
    (write_refused shell c.args.at c.index_mut.result.now c.args.place c.args.content at c.in-Err.fault c.from.result c.in-Err.ensures.always (λ e. c.in-Err.ensures.spent.0 e) c.from.ensures)

pub returns-clause-done : goal.returns-clause-done
returns-clause-done c =
    let nodes = c.args.self.now.nodes.items in
    let within : c.args.at < length nodes = omega arith in
    let at = slice_get_at nodes c.args.at c.index_mut.result.now within c.index_mut.ensures.value in
    wrote (kept_in c.args.self.now) c.args.at c.index_mut.result.now c.args.place c.args.content at c.put.new.self c.in-Ok.version c.in_ok-put_done.field-0 within
    (λ high. let e = c.in-Ok.ensures.spent.1 high in cc (e)) c.in-Ok.ensures.version c.in_ok-put_done.ensures.line c.in-Ok.ensures.joined
