use Rattle.std.proofs.Common.{◌<◌, ◌≡◌}
use Rattle.fleet_script.proofs.{Between.{count_changed, given_at, given_in, given_itself, none_changed}, Nodes.{get_or_any}, Prelude.{arith, cut, digest_of, get_or, kept_in, length, None, sym, ◌∙◌}}
use Rattle.fleet_script.proofs.states.Shell.merge_nodes.Goals.{in-Err, in-Ok}
use Rattle.fleet_script.proofs.states.Shell.merge_nodes.Goals as goal

pub returns-clause-given : goal.returns-clause-given
returns-clause-given c =
    let nodes = c.args.self.now.nodes.items in
    let lt_from : c.args.from < length nodes = omega arith in
    let lt_to : c.args.to < length nodes = omega arith in
    let here : c.replica-2.result.now ≡ c.index_mut.result.now =
    c.replica-2.ensures.replica ∙ c.index-2.ensures ∙ get_or_any nodes c.args.to c.index-2.result.now c.index_mut.result.now lt_to ∙ sym c.index_mut.ensures.value
    in
    let given = given_in (kept_in c.args.self.now) c.args.from c.args.to _ c.absorb.result
    (given_at nodes c.args.from c.args.to lt_from lt_to c.index_mut.result.now c.index.result.now c.index_mut.ensures.value c.index.ensures
    c.in_ok-piece.piece c.absorb.new.self _ c.absorb.result
    (c.in_ok-piece.ensures.cut ∙ (λ n. cut (c.replica.ensures.replica n).store (digest_of (here n).store) None)) (rw c.into_store.ensures.store at c.absorb.ensures.ok)) in
    elim c.match-absorb.branch [
      | in-Ok w ↦ rw w.result-is (rw w.in-Ok.is at given)
      | in-Err w ↦ rw w.result-is tt
    ]

pub returns-then-from-to-clause-given : goal.returns-then-from-to-clause-given
returns-then-from-to-clause-given c = given_itself (kept_in c.args.self.now) c.args.from c.args.to c.if-from-to.true

pub returns-then-from-to-clause-changed : goal.returns-then-from-to-clause-changed
returns-then-from-to-clause-changed c = λ d. none_changed (get_or c.args.self.now.nodes.items c.args.to d).store

pub returns-clause-changed : goal.returns-clause-changed
returns-clause-changed c =
    let changed = count_changed c.args.self.now.nodes.items c.args.to c.index_mut.result.now c.absorb.new.self c.absorb.result (omega arith)
    c.index_mut.ensures.value c.absorb.ensures.changed in
    elim c.match-absorb.branch [
      | in-Ok w ↦ rw w.result-is (rw w.in-Ok.is at changed)
      | in-Err w ↦ rw w.result-is tt
    ]
