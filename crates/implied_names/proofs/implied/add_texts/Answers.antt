use Rattle.std.proofs.Common.{◌++◌, ◌∷◌}
use Rattle.implied_names.proofs.{Growth.{grown_by}, Prelude.{[], ap, by_kinds, filter_map, filter_map-append, flat_map, flat_map-append, map, map-append, named, ◌∙◌}}
use Rattle.implied_names.proofs.implied.add_texts.Goals as goal

pub loop-text-preserved : goal.loop-text-preserved
loop-text-preserved c =
    let one = named c.args.facts.now.unit in
    let by = by_kinds c.args.kinds.now in
    grown_by (λ l. flat_map by (filter_map one (map (λ text. text.items) l)))
    (λ xs ys. ap (λ l. flat_map by (filter_map one l)) (map-append (λ text. text.items) xs ys)
    ∙ ap (flat_map by) (filter_map-append one (map (λ text. text.items) xs) (map (λ text. text.items) ys))
    ∙ flat_map-append by (filter_map one (map (λ text. text.items) xs)) (filter_map one (map (λ text. text.items) ys)))
    c.loop-text.yielded c.in-Some.text c.args.names.now.items c.loop-text.names.items c.add_text.new.names.items c.loop-text.invariant
    (c.in_ok-add_text.ensures.added ∙ ap (λ u. c.loop-text.names.items ++ flat_map by (filter_map (named u) (c.deref.result.now ∷ []))) c.unit.ensures.unit
    ∙ ap (λ t. c.loop-text.names.items ++ flat_map by (filter_map one (t ∷ []))) c.deref.ensures.value)
