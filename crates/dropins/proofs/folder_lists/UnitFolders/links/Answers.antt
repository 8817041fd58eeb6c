use Rattle.std.proofs.Common.{◌↔◌, ◌≡◌}
use Rattle.dropins.proofs.Prelude.{[], ap, At, Contains, dirs_with, ending, entry_name, filter, IfOk-weaker, is_name, IsLinkedOf, IsStrictlySortedBy, IsTakenOver, Links, map, Name, name_cmp, Some, subst, view, ◌∙◌}
use Rattle.dropins.proofs.Ascends.{linked, names_ascending}
use Rattle.std.specs.FinMap as finmap
use Rattle.dropins.proofs.folder_lists.UnitFolders.links.Goals as goal

pub returns-clause-ascending : goal.returns-clause-ascending
returns-clause-ascending c =
    IfOk-weaker c.unit_names.result (λ units. units.items ≡ filter is_name (map entry_name c.deref-2.result.now)) (λ units. IsStrictlySortedBy name_cmp units.items)
    (λ units e. names_ascending c.in_ok-taken.taken.items c.in_ok-taken.ensures.ascending units.items (e ∙ ap (λ ps. filter is_name (map entry_name ps)) c.deref-2.ensures.value))
    c.unit_names.ensures.names

pub returns-clause-exact : goal.returns-clause-exact
returns-clause-exact c =
    let s = c.args.view.now in
    let taken = c.in_ok-taken.taken.items in
    let dirs = c.deref.ensures.value ∙ c.in_ok-dirs.ensures.dirs ∙ ap (λ w. dirs_with w c.names.result.now) c.ending.ensures.ending ∙ ap (dirs_with (ending c.args.folder)) c.names.ensures.names in
    IfOk-weaker c.unit_names.result (λ units. units.items ≡ filter is_name (map entry_name c.deref-2.result.now)) (λ units. (n : Name) → Contains units.items n ↔ IsLinkedOf s c.args.self.now c.args.folder n)
    (λ units e.
    linked s c.args.self.now c.args.folder taken
    (λ p. subst (λ ds. Contains taken p ↔ (IsTakenOver s Links ds [] (At p.0) p.0 × (finmap.get (view s) p.0 ≡ Some p.1))) dirs (c.in_ok-taken.ensures.exact p))
    units.items (e ∙ ap (λ ps. filter is_name (map entry_name ps)) c.deref-2.ensures.value))
    c.unit_names.ensures.names
