use Rattle.std.proofs.Common.{◌++◌, ◌∷◌}
use Rattle.parallel_load.proofs.Prelude.{[], ap, List, Name, sym, ◌∙◌}
use Rattle.parallel_load.proofs.{mains.Mains.normalize_list.Goals.{in-Some+in_ok-try_clone+in_ok-push+in_ok-push-2, in_default}, Steps.{mains_more, mains_same, noted_more, noted_same}}
use Rattle.parallel_load.proofs.mains.Mains.normalize_list.Goals as goal

pub loop-name-preserved : goal.loop-name-preserved
loop-name-preserved c =
    let ms = c.args.self.now in
    let unit = c.args.unit.now in
    let names : List Name = c.as_slice-name-items.result.now in
    let i = c.loop-name.name-index in
    let x = c.name-item.result in
    elim c.match-other.branch [
      | in-Some+in_ok-try_clone+in_ok-push+in_ok-push-2 w ↦ record {
        mains =
            ap (λ ns. ns.items) w.mains-is
            ∙ mains_more ms unit names i x x c.loop-name-test.true c.name-item.is c.loop-name.mains.items w.push.new.self.items w.in-Some.index (sym w.in-Some.ensures.index)
            c.loop-name.invariant.mains (w.in_ok-push.ensures.items ∙ ap (λ (n : Name). c.loop-name.mains.items ++ n ∷ []) (w.in_ok-try_clone.ensures.copy ∙ w.name.ensures.name));
        deps = noted_more ms unit names i x x c.loop-name-test.true c.name-item.is c.args.list.now.kind c.args.deps.now c.loop-name.deps c.match-other.deps w.in-Some.index
            (sym w.in-Some.ensures.index) c.loop-name.invariant.deps (w.deps-is ∙ w.in_ok-push-2.ensures.ok);
      }
      | in_default w ↦ record {
        mains =
            ap (λ ns. ns.items) w.mains-is
            ∙ mains_same ms unit names i x x c.loop-name-test.true c.name-item.is c.loop-name.mains.items (sym w.in_default.ensures.index) c.loop-name.invariant.mains;
        deps = w.deps-is ∙ noted_same ms unit names i x x c.loop-name-test.true c.name-item.is c.args.list.now.kind c.args.deps.now c.loop-name.deps (sym w.in_default.ensures.index)
            c.loop-name.invariant.deps;
      }
    ]
