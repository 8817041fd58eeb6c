use Rattle.std.proofs.Common.{◌++◌, ◌+◌, ◌<◌, ◌∷◌, ◌≡◌}
use Rattle.unit_graph.proofs.Prelude.{[], ap, arith, get_or, key_at_place, keys_of, length, List, map, map-append, Name, name_at, sym, take, take_all, take_more, ℕ, ◌∙◌}
use Rattle.unit_graph.proofs.indexed_graph.named_distances.Goals as goal

pub loop-pair-init : goal.loop-pair-init
loop-pair-init c = c.new-named.ensures.items

pub loop-pair-preserved : goal.loop-pair-preserved
loop-pair-preserved c =
    let load = c.args.loaded.now in
    let es = c.names-names.result.now in
    let i = c.loop-pair.pair-index in
    let p : ℕ × ℕ = get_or c.args.pairs.now i (0, 0) in
    let f : ℕ × ℕ → ℕ × Name = λ q. (q.0, name_at load q.1) in
    let below : p.1 < length es = omega (arith, c.requires.pairs i (0, 0) c.loop-pair-test.true, ap length c.names-names.ensures.names) in
    let named : c.in_ok-name.name ≡ name_at load p.1 =
    c.in_ok-name.ensures.copy ∙ key_at_place es p.1 c.index-names-pair.result [] below ∙ ap (λ ns. get_or (keys_of ns) p.1 []) c.names-names.ensures.names in
    let more : take (i + 1) c.args.pairs.now ≡ take i c.args.pairs.now ++ p ∷ [] = take_more c.args.pairs.now i (0, 0) c.loop-pair-test.true in
    let pair : ℕ × Name = (p.0, c.in_ok-name.name) in
    c.in_ok-push.ensures.items ∙ ap (λ (l : List (ℕ × Name)). l ++ pair ∷ []) c.loop-pair.invariant
    ∙ ap (λ (x : Name). map f (take i c.args.pairs.now) ++ (p.0, x) ∷ []) named
    ∙ sym (ap (map f) more ∙ map-append f (take i c.args.pairs.now) (p ∷ []))

pub returns : goal.returns
returns c =
    let f : ℕ × ℕ → ℕ × Name = λ q. (q.0, name_at c.args.loaded.now q.1) in
    record { named = c.loop-pair.invariant ∙ ap (map f) (take_all c.loop-pair.pair-index c.args.pairs.now (omega arith)) }
