use Rattle.std.proofs.Common.{◌↔◌, ◌≡◌}
use Rattle.host_trees.proofs.{Pairs.{crossed_by}, Prelude.{folders, host_view_of, HostViewMap, List, Name, nothing_of_its_own, of_fleet, OwnsNothing, ReadsAlikeOf, subst, true}}
use Rattle.host_trees.proofs.crossings.is_crossed.Goals as goal

pub returns : goal.returns
returns c =
    let s = c.args.store.now in
    let t = c.args.tree.now in
    let viewer = c.args.viewer.now in
    let names = c.args.names.now in
    let alike = c.in_ok-alike.alike in
    let tells : (alike ≡ true) ↔ ReadsAlikeOf (host_view_of s viewer) (host_view_of t (of_fleet viewer.profile)) (folders names) =
    subst (λ (fs : List Name). (alike ≡ true) ↔ ReadsAlikeOf (host_view_of s viewer) (host_view_of t (of_fleet viewer.profile)) fs) c.in_ok-folders.ensures.folders
    (subst (λ (w : HostViewMap). (alike ≡ true) ↔ ReadsAlikeOf (host_view_of s viewer) w c.in_ok-folders.folders) c.host_view-3.ensures.view
    (subst (λ (v : HostViewMap). (alike ≡ true) ↔ ReadsAlikeOf v c.host_view-3.result c.in_ok-folders.folders) c.host_view-2.ensures.view c.in_ok-alike.ensures.alike)) in
    record { crossed = crossed_by s t viewer names alike c.requires.tree tells }

pub returns-then-none : goal.returns-then-none
returns-then-none c =
    let s = c.args.store.now in
    let viewer = c.args.viewer.now in
    let names = c.args.names.now in
    let none : OwnsNothing (host_view_of s viewer) (folders names) =
    subst (λ (fs : List Name). OwnsNothing (host_view_of s viewer) fs) c.in_ok-folders.ensures.folders
    (subst (λ (v : HostViewMap). OwnsNothing v c.in_ok-folders.folders) c.host_view.ensures.view (c.in_ok-none.ensures.nothing c.if-none.true)) in
    record { crossed = nothing_of_its_own s viewer names none }
