use Rattle.std.proofs.Common.{◌-◌, ◌≡◌, ◌≤◌}
use Rattle.dropins.proofs.Prelude.{flat_map, fold, IsKept, length, prefixes, with_name, with_prefix, with_template}
use Rattle.dropins.proofs.folder_lists.Listing.add_folders.Given as goal

abbrev pub invariant-loop-end : goal.invariant-loop-end
invariant-loop-end l =
    (l.end ≤ length l.prefix) × (fold with_name l.self.names.items (flat_map (λ p. with_template (with_prefix l.name p)) (prefixes (l.end - 1) l.prefix)) ≡ fold with_name l.initial.self.names.items (flat_map (λ p. with_template (with_prefix l.name p)) (prefixes (length l.prefix - 1) l.prefix))) × IsKept l.self

abbrev pub decreases-loop-end : goal.decreases-loop-end
decreases-loop-end l = l.end
