use Rattle.std.proofs.Common.{◌++◌, ◌+◌, ◌<◌, ◌∷◌, ◌≡◌}
use Rattle.inverse_deps.proofs.Prelude.{[], ap, arith, get_or, key_at_place, keys_of, length, List, map, map-append, Name, name_at, sym, take, take_all, take_more, ℕ, ◌∙◌}
use Rattle.inverse_deps.proofs.indices.names_at.Goals as goal

pub loop-index-init : goal.loop-index-init
loop-index-init c = c.in_ok-named.ensures.items

pub loop-index-preserved : goal.loop-index-preserved
loop-index-preserved c =
    let es = c.names-names.result.now in
    let i = c.loop-index.index-index in
    let at : ℕ = get_or c.args.indices.now i 0 in
    let f : ℕ → Name = name_at c.args.loaded.now in
    let below : at < length es = omega (arith, c.requires.indices i 0 c.loop-index-test.true, ap length c.names-names.ensures.names) in
    let named : c.in_ok-try_clone.field-0 ≡ f at =
    c.in_ok-try_clone.ensures.copy ∙ key_at_place es at c.index-names-index.result [] below ∙ ap (λ ns. get_or (keys_of ns) at []) c.names-names.ensures.names in
    let more : take (i + 1) c.args.indices.now ≡ take i c.args.indices.now ++ at ∷ [] = take_more c.args.indices.now i 0 c.loop-index-test.true in
    c.in_ok-push.ensures.items ∙ ap (λ (l : List Name). l ++ c.in_ok-try_clone.field-0 ∷ []) c.loop-index.invariant
    ∙ ap (λ x. map f (take i c.args.indices.now) ++ x ∷ []) named
    ∙ sym (ap (map f) more ∙ map-append f (take i c.args.indices.now) (at ∷ []))

pub returns : goal.returns
returns c = record { names = c.loop-index.invariant ∙ ap (map (name_at c.args.loaded.now)) (take_all c.loop-index.index-index c.args.indices.now (omega arith)) }
