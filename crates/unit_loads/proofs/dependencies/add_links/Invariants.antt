use Rattle.std.proofs.Common.{◌++◌, ◌≡◌}
use Rattle.unit_loads.proofs.Prelude.{link_notes, linked_by}
use Rattle.unit_loads.proofs.dependencies.add_links.Given as goal

abbrev pub invariant-loop-link : goal.invariant-loop-link
invariant-loop-link l = (l.linked ≡ linked_by l.unit l.yielded) × (l.notes ≡ l.initial.notes ++ link_notes l.unit l.dep l.yielded)
