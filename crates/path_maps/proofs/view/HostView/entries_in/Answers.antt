use Rattle.std.proofs.Common.{◌/◌, ◌≡◌}
use Rattle.path_maps.proofs.Prelude.{AllKeys, ap, at_level, Entry, folder_viewed, holding, List, map, PathParts, ranks_after, subst, sym, ◌∙◌}
use Rattle.path_maps.proofs.view.HostView.entries_in.Goals as goal

pub invariant_of-result : goal.invariant_of-result
invariant_of-result c =
    subst (AllKeys (λ (q : PathParts). q.rank ≡ c.args.level / 2)) (sym c.entries_after-entries.ensures.entries)
    (ranks_after c.args.level c.args.folder.now (holding c.args.self.now c.args.level))

pub returns : goal.returns
returns c = record {
  entries = ap (λ (es : List (PathParts × Entry)). map (at_level c.args.level) es) c.entries_after-entries.ensures.entries ∙ folder_viewed c.args.level c.args.folder.now c.args.self.now;
}
