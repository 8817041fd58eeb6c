use Rattle.parallel_load.proofs.{Keeping.{all_more}, Prelude.{All, ap, host_view_of, HostViewMap, KeepsLinkTargets, NamedWords, subst, take_all, Viewer, ◌∙◌}}
use Rattle.parallel_load.proofs.touched.keeps_link_targets.Goals as goal

pub loop-place-preserved : goal.loop-place-preserved
loop-place-preserved c =
    let x = c.place-item.result in
    let viewer = c.args.loaded.now.viewer in
    let t = host_view_of c.args.store.now viewer in
    let P : Viewer → Type 0 = λ h. KeepsLinkTargets h c.get.result.now c.host_view-view.result x in
    let Q : NamedWords → Type 0 = λ ws. KeepsLinkTargets viewer ws c.host_view-view.result x in
    let R : HostViewMap → Type 0 = λ v. KeepsLinkTargets viewer c.args.loaded.now.words v x in
    all_more (KeepsLinkTargets viewer c.args.loaded.now.words t) c.args.touched.now c.loop-place.place-index x x c.loop-place-test.true c.place-item.is c.loop-place.invariant
    (subst R (c.host_view-view.ensures.view ∙ ap (host_view_of c.args.store.now) c.viewer-viewer.ensures.viewer) (subst Q (c.get.ensures.value ∙ c.words-words.ensures.words)
    (subst P c.viewer-viewer.ensures.viewer (c.in_ok-keeps_link_targets_at.ensures.kept c.if-not-branch.false))))

pub returns : goal.returns
returns c = record {
  kept = λ _.
      subst (All (KeepsLinkTargets c.args.loaded.now.viewer c.args.loaded.now.words (host_view_of c.args.store.now c.args.loaded.now.viewer)))
      (take_all c.loop-place.place-index c.args.touched.now c.loop-place-test.false) c.loop-place.invariant;
}
