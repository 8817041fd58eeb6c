use Rattle.std.proofs.Common.{◌↔◌, ◌≡◌}
use Rattle.dropins.proofs.Prelude.{ap, borrowed_are_drop_ins, Contains, entry_place, file_name, host_view_of, HostViewMap, IfOk-weaker, IsDropInAt, IsDropInAtOf, IsStrictlySortedBy, List, map, Name, name_cmp, PlaceParts, subst, sym, ◌∙◌}
use Rattle.dropins.proofs.folder_lists.order.Goals as goal

pub returns-clause-ascending : goal.returns-clause-ascending
returns-clause-ascending c =
    let s = c.host_view-view.result in
    let borrowed = borrowed_are_drop_ins s c.in_ok-folders.folders c.in_ok-taken.taken.items c.in_ok-taken.ensures.exact in
    IfOk-weaker c.places_of.result (λ places. places.items ≡ map (entry_place s) c.deref.result.now) (λ places. IsStrictlySortedBy name_cmp (map file_name places.items))
    (λ places e. subst (λ (ps : List PlaceParts). IsStrictlySortedBy name_cmp (map file_name ps)) (sym (e ∙ ap (map (entry_place s)) c.deref.ensures.value)) (borrowed.1 c.in_ok-taken.ensures.ascending))
    c.places_of.ensures.places

pub returns-clause-exact : goal.returns-clause-exact
returns-clause-exact c =
    let s = c.host_view-view.result in
    let taken = c.in_ok-taken.taken.items in
    let borrowed = borrowed_are_drop_ins s c.in_ok-folders.folders taken c.in_ok-taken.ensures.exact in
    IfOk-weaker c.places_of.result (λ places. places.items ≡ map (entry_place s) c.deref.result.now) (λ places. (p : PlaceParts) → Contains places.items p ↔ IsDropInAt (host_view_of c.args.store.now c.args.viewer.now) c.args.names.now p)
    (λ places e p.
    subst (λ (v : HostViewMap). Contains places.items p ↔ IsDropInAt v c.args.names.now p) c.host_view-view.ensures.view
    (subst (λ (qs : List PlaceParts). Contains qs p ↔ IsDropInAt s c.args.names.now p) (sym (e ∙ ap (map (entry_place s)) c.deref.ensures.value))
    (subst (λ (fs : List Name). Contains (map (entry_place s) taken) p ↔ IsDropInAtOf s fs p) c.in_ok-folders.ensures.folders (borrowed.0 p))))
    c.places_of.ensures.places
