use Rattle.std.proofs.Common.{◌↔◌, ◌≡◌}
use Rattle.dropins.proofs.Prelude.{[], ap, AreLinksOf, At, Contains, dirs_with, ending, entry_name, filter, IfOk-weaker, is_name, IsStrictlySortedBy, IsTakenOver, Links, map, name_cmp, Some, subst, view, ◌∙◌}
use Rattle.dropins.proofs.Ascends.{links_ascending, linked_entries}
use Rattle.std.specs.FinMap as finmap
use Rattle.dropins.proofs.folder_lists.UnitFolders.link_entries.Goals as goal

pub returns-clause-ascending : goal.returns-clause-ascending
returns-clause-ascending c =
    let taken = c.in_ok-taken.taken.items in
    IfOk-weaker c.named_like_units.result (λ links. links.items ≡ filter (λ p. is_name (entry_name p)) taken) (λ links. IsStrictlySortedBy name_cmp (map entry_name links.items))
    (λ links e. links_ascending taken c.in_ok-taken.ensures.ascending links.items e)
    c.named_like_units.ensures.named

pub returns-clause-exact : goal.returns-clause-exact
returns-clause-exact c =
    let s = c.args.view.now in
    let taken = c.in_ok-taken.taken.items in
    let dirs = c.deref.ensures.value ∙ c.in_ok-dirs.ensures.dirs ∙ ap (λ w. dirs_with w c.names.result.now) c.ending.ensures.ending ∙ ap (dirs_with (ending c.args.folder)) c.names.ensures.names in
    IfOk-weaker c.named_like_units.result (λ links. links.items ≡ filter (λ p. is_name (entry_name p)) taken) (λ links. AreLinksOf s c.args.self.now c.args.folder links.items)
    (λ links e.
    linked_entries s c.args.self.now c.args.folder taken
    (λ p. subst (λ ds. Contains taken p ↔ (IsTakenOver s Links ds [] (At p.0) p.0 × (finmap.get (view s) p.0 ≡ Some p.1))) dirs (c.in_ok-taken.ensures.exact p))
    links.items e)
    c.named_like_units.ensures.named
