use Rattle.std.proofs.Common.{◌↔◌, ◌≡◌}
use Rattle.dropins.proofs.{Ascends.{ascending, exact}, Prelude.{At, Contains, Entry, entry_name, IfOk-weaker, IsStrictlySortedBy, IsTakenOver, map, name_cmp, PathParts, Some, unmasked, view}}
use Rattle.std.specs.FinMap as finmap
use Rattle.dropins.proofs.precedence.taken_entries.Goals as goal

pub returns-clause-ascending : goal.returns-clause-ascending
returns-clause-ascending c =
    IfOk-weaker c.unmasked.result (λ taken. taken.items ≡ unmasked c.in_ok-takes.takes.entries) (λ taken. IsStrictlySortedBy name_cmp (map entry_name taken.items))
    (λ taken e. ascending c.args.view.now c.args.search c.args.name_dirs.now c.args.type_dirs.now c.in_ok-takes.takes c.unmasked.ensures.ordered c.in_ok-takes.ensures.taken taken.items e)
    c.unmasked.ensures.entries

pub returns-clause-exact : goal.returns-clause-exact
returns-clause-exact c =
    let s = c.args.view.now in
    let ds = c.args.name_dirs.now in
    let ts = c.args.type_dirs.now in
    IfOk-weaker c.unmasked.result (λ taken. taken.items ≡ unmasked c.in_ok-takes.takes.entries) (λ taken. (p : PathParts × Entry) → Contains taken.items p ↔ (IsTakenOver s c.args.search ds ts (At p.0) p.0 × (finmap.get (view s) p.0 ≡ Some p.1)))
    (λ taken e. exact s c.args.search ds ts c.in_ok-takes.takes c.unmasked.ensures.ordered c.in_ok-takes.ensures.taken taken.items e)
    c.unmasked.ensures.entries
