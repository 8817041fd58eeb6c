use Rattle.std.proofs.Common.{◌≡◌}
use Rattle.unit_loads.proofs.{Linked.{list_count, lists_linked_at}, Prelude.{arith, ◌∙◌}}
use Rattle.unit_loads.proofs.dependencies.named_units.Goals as goal

pub index_mut-requires : goal.index_mut-requires
index_mut-requires c =
    let count = list_count c.args.settings.now.profile c.args.settings.now.map c.args.unit.now c.args.links _ (c.into_vec-lists.ensures.elements ∙ c.in_ok-lists.ensures.lists) in
    let at : c.place.result ≡ 2 = c.place.ensures.place in
    omega (arith, count, at)

pub index_mut-requires-2 : goal.index_mut-requires-2
index_mut-requires-2 c =
    let count = list_count c.args.settings.now.profile c.args.settings.now.map c.args.unit.now c.args.links _ (c.into_vec-lists.ensures.elements ∙ c.in_ok-lists.ensures.lists) in
    let at : c.place-2.result ≡ 3 = c.place-2.ensures.place in
    omega (arith, count, at)

pub returns-clause-lists : goal.returns-clause-lists
returns-clause-lists c =
    c.from_vec.ensures.elements
    ∙ lists_linked_at c.args.settings.now.profile c.args.settings.now.map c.args.unit.now c.args.links _ (c.into_vec-lists.ensures.elements ∙ c.in_ok-lists.ensures.lists) _ _ _ _
    _ _ c.place.ensures.place c.place-2.ensures.place c.index_mut.ensures.value c.in_ok-add_links.ensures.names c.index_mut-2.ensures.value c.in_ok-add_links-2.ensures.names
