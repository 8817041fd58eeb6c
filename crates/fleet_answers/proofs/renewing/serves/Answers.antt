use Rattle.fleet_answers.proofs.Prelude.{ap, AreSources, asked_among, host_view_of, HostViewMap, inl, IsAmong, List, LoadMap, Name, subst, sym, Viewer, ◌∙◌}
use Rattle.fleet_answers.proofs.renewing.serves.Goals as goal

pub returns-then-is_asked_by : goal.returns-then-is_asked_by
returns-then-is_asked_by c =
    let same = c.is_asked_by.ensures.names c.if-is_asked_by.true in
    record {
      these = λ _ n a. inl (asked_among _ _ n (subst (IsAmong n) (sym same) a));
      those = λ _ n a. inl (asked_among _ _ n (subst (IsAmong n) same a));
    }

pub returns-then-are_sources : goal.returns-then-are_sources
returns-then-are_sources c =
    let s = host_view_of c.args.store.now c.args.snapshot.now.viewer in
    let names = c.args.names.now in
    let asked = c.extra-asked.result.now in
    let viewer_is = c.viewer.ensures.viewer ∙ ap (λ (l : LoadMap). l.viewer) c.loaded-loaded.ensures.load in
    let viewed_is = c.host_view-view.ensures.view ∙ ap (λ (h : Viewer). host_view_of c.args.store.now h) viewer_is in
    let extra_is = c.extra-asked.ensures.extra ∙ ap (λ (l : LoadMap). l.extra) c.loaded-loaded.ensures.load in
    record {
      these = λ _. subst (λ (es : List Name). AreSources s es names) extra_is (subst (λ (v : HostViewMap). AreSources v asked names) viewed_is (c.are_sources.ensures.sources c.if-are_sources.true));
      those = λ h. subst (λ (es : List Name). AreSources s names es) extra_is (subst (λ (v : HostViewMap). AreSources v names asked) viewed_is (c.are_sources-then-are_sources.ensures.sources h));
    }
