use Rattle.std.proofs.Common.{◌≡◌}
use Rattle.fleet_answers.proofs.Prelude.{adjacency_makes_the_table, ap, Files, host_view_of, IsRefreshed, LoadMap, Refreshed, subst, sym, Viewer, ◌∙◌}
use Rattle.fleet_answers.proofs.snapshots.Snapshot.refreshed.Goals as goal

pub invariant_of-result : goal.invariant_of-result
invariant_of-result c =
    let old : LoadMap = c.self.inside.loaded in
    let new : LoadMap = c.in-InPlace.loaded in
    let P : Refreshed → Type 0 = IsRefreshed (host_view_of c.args.store.now old.viewer) old in
    let is = subst P c.in-InPlace.is c.in_ok-loaded.ensures.load in
    let files : new.viewer.profile ≡ Files = sym (ap (λ (v : Viewer). v.profile) c.viewer.ensures.viewer) ∙ c.in-Files.is in
    let same : old.viewer.profile ≡ new.viewer.profile = sym (ap (λ (v : Viewer). v.profile) is.0.viewer_is) in
    adjacency_makes_the_table old new c.self.inside.table is.1 (same ∙ files) files c.self.invariant
