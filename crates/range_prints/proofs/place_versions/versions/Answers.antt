use Rattle.std.proofs.Common.{◌≡◌}
use Rattle.range_prints.proofs.Prelude.{ap, append-nil, is_sorted, IsTrue, List, map, place_cmp, PlaceParts, subst, sym, Version, ◌∙◌}
use Rattle.range_prints.proofs.Stores.{version_at, versions_are, versions_ascend}
use Rattle.range_prints.specs.Ranges.{versions_of}
use Rattle.range_prints.proofs.place_versions.versions.Goals as goal

pub returns-clause-versions : goal.returns-clause-versions
returns-clause-versions c =
    let whole = rw c.in_default.ensures.first.0 at c.loop-placed.invariant in
    sym (append-nil c.loop-placed.versions.items) ∙ whole ∙ sym (versions_are c.args.store.now)

pub returns-clause-sorted : goal.returns-clause-sorted
returns-clause-sorted c =
    let whole = rw c.in_default.ensures.first.0 at c.loop-placed.invariant in
    let is : c.loop-placed.versions.items ≡ versions_of c.args.store.now = sym (append-nil c.loop-placed.versions.items) ∙ whole ∙ sym (versions_are c.args.store.now) in
    subst (λ (l : List (PlaceParts × Version)). IsTrue (is_sorted place_cmp l)) (sym is) (versions_ascend c.args.store.now)
