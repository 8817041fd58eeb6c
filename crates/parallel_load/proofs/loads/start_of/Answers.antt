use Rattle.parallel_load.proofs.{Gathering.{have_links}, Normalizing.{viewed_link_targets}, Prelude.{AreOwnLinkTargets, HaveLinks, host_view_of, HostViewMap, NamedWords, refl, subst, sym, ◌∙◌}}
use Rattle.parallel_load.proofs.loads.start_of.Goals as goal

pub of_targets-requires : goal.of_targets-requires
of_targets-requires c = record {
  targets =
      subst (λ (all : NamedWords). HaveLinks c.host_view-view.result all) (sym c.names.ensures.names)
      (have_links c.host_view-view.result c.in_ok-words.words c.in_ok-words.ensures.words);
}

pub returns : goal.returns
returns c =
    let s = host_view_of c.args.store.now c.args.viewer.now in
    let own = c.in_ok-words.ensures.words in
    record {
      words = viewed_link_targets c.host_view-view.result s c.in_ok-new.field-0 c.in_ok-words.words c.host_view-view.ensures.view c.in_ok-new.ensures.value own;
      sources = c.in_ok-sources.ensures.sources s refl (subst (λ (v : HostViewMap). AreOwnLinkTargets v c.in_ok-words.words) c.host_view-view.ensures.view own);
      view = c.new-loader.ensures.index ∙ c.in_ok-index.ensures.view ∙ c.host_view-view.ensures.view;
    }
