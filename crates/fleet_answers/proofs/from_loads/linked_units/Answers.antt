use Rattle.std.proofs.Common.{◌++◌, ◌+◌, ◌∷◌, ◌≡◌}
use Rattle.fleet_answers.proofs.{from_loads.linked_units.Goals.{in-Alias, in-Unit+in_ok-linked_at-in-Unit+in_ok-push-in-Unit}, Prelude.{[], All, All-push, ap, AreLinkedUnits, filter_map, get_or, Global, IsUnitWithEdges, LinkedUnit, map, map-append, Name, name_at, NameLoad, refl, Some, subst, sym, take_all, unit_part, Vec, ◌∙◌}, Units.{part_at, made_none, made_one}}
use Rattle.fleet_answers.proofs.from_loads.linked_units.Goals as goal

pub loop-index-preserved : goal.loop-index-preserved
loop-index-preserved c =
    let load = c.args.loaded.now in
    let i = c.loop-index.index in
    let names = c.names-names.result.now in
    let d = c.index-names-index.result in
    let p : Name × NameLoad = get_or names i d in
    let unit_of : LinkedUnit → _ = λ one. one.unit in
    let P : LinkedUnit → Type 0 = λ one. (main : Name) × IsUnitWithEdges load main one in
    let part = part_at load names c.names-names.ensures.names c.names-names.ensures.sorted i d c.loop-index-test.true in
    elim c.match-names-index.branch [
      | in-Unit+in_ok-linked_at-in-Unit+in_ok-push-in-Unit w ↦ (
        ap (λ us. map unit_of us.items) w.all-is ∙ ap (map unit_of) w.in_ok-push-in-Unit.ensures.items ∙ map-append unit_of c.loop-index.all.items _
            ∙ made_one (λ q. unit_part q.1) names i d p c.loop-index-test.true refl (map unit_of c.loop-index.all.items) _
            (ap unit_part w.in-Unit.is ∙ ap Some (sym w.in_ok-linked_at-in-Unit.ensures.unit)) c.loop-index.invariant.0,
        subst (All P) (sym (ap (λ (us : Vec LinkedUnit Global). us.items) w.all-is ∙ w.in_ok-push-in-Unit.ensures.items)) (All-push P c.loop-index.all.items _ c.loop-index.invariant.1
            (name_at load i, record { unit_is = part ∙ ap unit_part w.in-Unit.is ∙ ap Some (sym w.in_ok-linked_at-in-Unit.ensures.unit); edges_are = w.in_ok-linked_at-in-Unit.ensures.edges })),
      )
      | in-Alias w ↦ (
        ap (λ us. map unit_of us.items) w.all-is
            ∙ made_none (λ q. unit_part q.1) names i d p c.loop-index-test.true refl (map unit_of c.loop-index.all.items) (ap unit_part w.in-Alias.is) c.loop-index.invariant.0,
        subst (λ (us : Vec LinkedUnit Global). All P us.items) (sym w.all-is) c.loop-index.invariant.1,
      )
    ]

pub returns : goal.returns
returns c =
    let load = c.args.loaded.now in
    let part : Name × NameLoad → _ = λ p. unit_part p.1 in
    let whole = ap (filter_map part) (take_all c.loop-index.index c.names-names.result.now c.loop-index-test.false ∙ c.names-names.ensures.names) in
    record {
      units = subst (AreLinkedUnits load) (sym c.from_vec.ensures.elements) (record {
        units_are = c.loop-index.invariant.0 ∙ whole;
        edges_are = c.loop-index.invariant.1;
      });
    }
