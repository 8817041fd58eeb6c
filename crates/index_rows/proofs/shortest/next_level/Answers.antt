use Rattle.std.proofs.Common.{◌++◌, ◌∷◌, ◌≡◌}
use Rattle.index_rows.proofs.Prelude.{[], ap, append-nil, AreSuccessorsOf, arith, flat_map, flat_map-append, get_or, inside_all, IsSpread, length, length-replicate, List, subst, successors_from, successors_inside, sym, take, take_more, true, ℕ, ◌∙◌}
use Rattle.index_rows.proofs.Levels.{IsSpread-append}
use Rattle.index_rows.proofs.shortest.next_level.Goals as goal

pub spread-requires : goal.spread-requires
spread-requires c =
    let n = length c.args.seen.now.items in
    let units : length c.loop-node.seen.items ≡ n = c.loop-node.invariant.units in
    let all : length c.args.all.now ≡ n = ap (λ m. length m) c.requires.all ∙ length-replicate n true in
    let P : ℕ → Type 0 = λ m. AreSuccessorsOf m c.args.successors.now in
    record {
      successors = subst P (sym units) c.requires.successors;
      inside = all ∙ sym units;
      node = (let l = c.requires.level c.loop-node.node-index 0 c.loop-node-test.true in omega (arith, l, units));
    }

pub loop-node-preserved : goal.loop-node-preserved
loop-node-preserved c =
    let n = length c.args.seen.now.items in
    let node = get_or c.args.level.now c.loop-node.node-index 0 in
    let f : ℕ → List ℕ = successors_from c.args.successors.now in
    let one : flat_map f (take c.loop-node.node-index c.args.level.now ++ node ∷ []) ≡ flat_map f (take c.loop-node.node-index c.args.level.now) ++ f node =
    flat_map-append f (take c.loop-node.node-index c.args.level.now) (node ∷ []) ∙ ap (λ l. flat_map f (take c.loop-node.node-index c.args.level.now) ++ l) (append-nil (f node)) in
    let more = ap (flat_map f) (take_more c.args.level.now c.loop-node.node-index 0 c.loop-node-test.true) ∙ one in
    let P : List ℕ → Type 0 = λ l. IsSpread c.args.seen.now.items c.spread.new.seen.items [] c.spread.new.noted.items l in
    let all : successors_inside c.args.all.now c.args.successors.now node ≡ f node = ap (λ m. successors_inside m c.args.successors.now node) c.requires.all ∙ inside_all n c.args.successors.now node c.requires.successors in
    subst P (sym more)
    (IsSpread-append _ _ _ _ _ _ _ _ c.loop-node.invariant (subst (λ r. IsSpread c.loop-node.seen.items c.spread.new.seen.items c.loop-node.next.items c.spread.new.noted.items r) all c.in_ok-spread.ensures.spread))
