use Rattle.std.proofs.Common.{◌↔◌}
use Rattle.dropins.proofs.Prelude.{Contains, host_view_of, HostViewMap, IfOk-weaker, IsLinked, IsLinkedOf, List, Name, subst}
use Rattle.dropins.proofs.folder_lists.links.Goals as goal

pub returns-clause-exact : goal.returns-clause-exact
returns-clause-exact c =
    let s = c.host_view.result in
    IfOk-weaker c.links.result (λ units. (n : Name) → Contains units.items n ↔ IsLinkedOf s c.in_ok-folders.folders c.args.folder n) (λ units. (n : Name) → Contains units.items n ↔ IsLinked (host_view_of c.args.store.now c.args.viewer.now) c.args.names.now c.args.folder n)
    (λ units h n. subst (λ (v : HostViewMap). Contains units.items n ↔ IsLinked v c.args.names.now c.args.folder n) c.host_view.ensures.view
    (subst (λ (fs : List Name). Contains units.items n ↔ IsLinkedOf s fs c.args.folder n) c.in_ok-folders.ensures.folders (h n)))
    c.links.ensures.exact
