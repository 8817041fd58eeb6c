use Rattle.std.proofs.Common.{◌↔◌}
use Rattle.host_trees.proofs.{Pairs.{all_same}, Prelude.{IfOk-weaker, IsTrue, ReadsAlikeOf, Requires, SameLinks, sym, Wants, ◌∙◌}}
use Rattle.host_trees.proofs.crossings.reads_alike.Goals as goal

pub returns-then-not-wants : goal.returns-then-not-wants
returns-then-not-wants c = record {
  alike = (λ t. cc (t), λ h. sym c.if-not-wants.true ∙ c.in_ok-wants.ensures.same.1 (h.links Wants));
}

pub returns : goal.returns
returns c =
    let v = c.args.one.now in
    let w = c.args.other.now in
    let fs = c.args.folders.now in
    record {
      alike =
          IfOk-weaker c.has_same_links-2.result (λ it. IsTrue it ↔ SameLinks v w fs Requires) (λ it. IsTrue it ↔ ReadsAlikeOf v w fs)
          (λ it same. (
            λ t. all_same v w fs (c.in_ok-drop_ins.ensures.same.0 c.if-not-drop_ins.false) (c.in_ok-wants.ensures.same.0 c.if-not-wants.false) (same.0 t),
            λ h. same.1 (h.links Requires),
          ))
          c.has_same_links-2.ensures.same;
    }
