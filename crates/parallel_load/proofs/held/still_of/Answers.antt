use Rattle.std.proofs.Common.{◌≡◌}
use Rattle.parallel_load.proofs.{Prelude.{ap, DependencyList, length, List, Name, NameLoad, sym, ◌∙◌}, Staying.{still_all, still_more, still_none, still_one}}
use Rattle.parallel_load.proofs.held.still_of.Goals as goal

pub loop-index-init : goal.loop-index-init
loop-index-init c = still_none c.args.affected.now c.names-names.result.now c.named-named.result.now c.in_ok-still.still.items c.in_ok-still.ensures.items

pub loop-index-preserved : goal.loop-index-preserved
loop-index-preserved c =
    let names : List (Name × NameLoad) = c.names-names.result.now in
    let named : List (List DependencyList) = c.named-named.result.now in
    let i = c.loop-index.index in
    let x : Name × NameLoad = c.index-names-index.result in
    let each : length named ≡ length names = c.named-named.ensures.each ∙ ap length (sym c.names-names.ensures.names) in
    still_more c.args.affected.now names named i x c.in_ok-try_clone.field-0 c.in_ok-kept.kept c.loop-index.still.items c.push.new.self.items c.loop-index-test.true c.index-names-index.is
    c.in_ok-try_clone.ensures.copy
    (still_one c.args.affected.now names named i x c.index-named-index.result c.in_ok-kept.kept c.loop-index-test.true each c.index-names-index.is c.index-named-index.is
    c.in_ok-kept.ensures.same c.in_ok-kept.ensures.left)
    c.in_ok-push.ensures.items c.loop-index.invariant

pub returns : goal.returns
returns c = record {
  still =
      still_all c.args.affected.now c.names-names.result.now c.args.loaded.now.names c.named-named.result.now c.args.loaded.now.named c.loop-index.index c.loop-index.still.items
      c.names-names.ensures.names c.named-named.ensures.named c.loop-index-test.false c.loop-index.invariant;
}
