use Rattle.std.proofs.Common.{◌≡◌}
use Rattle.parallel_load.proofs.Gathering.{have_links}
use Rattle.parallel_load.proofs.Prelude.{All, ap, AreSourcesBy, HaveLinks, host_view_of, HostViewMap, IfSome, IsHeldOn, IsStill, IsTooLarge, List, Name, NamedWords, NameLoad, Option, sorted_from, subst, sym, Viewer, ℕ, ◌∙◌}
use Rattle.parallel_load.proofs.{Normalizing.{found_from, over_here, refused_over}, Staying.{held_loaded, held_sorted, same_sources, words_stay}}
use Rattle.parallel_load.proofs.refreshing.found_again.Goals as goal

pub of-loader-requires-clause-sorted : goal.of-loader-requires-clause-sorted
of-loader-requires-clause-sorted c =
    held_sorted c.args.loaded.now.names c.in_ok-held.held.items c.in_ok-held.ensures.still.keys_are (sorted_from c.args.loaded.now.names c.requires.before.load_is.universe.ascending)

pub of-loader-requires-clause-loaded : goal.of-loader-requires-clause-loaded
of-loader-requires-clause-loaded c =
    let P : List ℕ → Type 0 = λ affected. All (λ (p : Name × Option NameLoad). IfSome p.1 (IsStill affected c.args.loaded.now.names c.args.loaded.now.named p.0)) c.in_ok-held.held.items in
    subst (λ (v : HostViewMap). All (IsHeldOn v) c.in_ok-held.held.items) (sym (c.new.ensures.index ∙ c.in_ok-index.ensures.view ∙ c.host_view.ensures.view ∙ ap (host_view_of c.args.store.now) c.viewer-viewer.ensures.viewer))
    (held_loaded c.args.loaded.now c.args.store.now c.args.touched.now c.requires.before c.requires.words c.args.parts.now c.requires.parts c.in_ok-affected.affected.items c.in_ok-affected.ensures.affected c.in_ok-held.held.items
    (subst P c.deref.ensures.value c.in_ok-held.ensures.still.each))

pub of_targets-requires : goal.of_targets-requires
of_targets-requires c =
    let v = host_view_of c.args.store.now c.args.loaded.now.viewer in
    let is : c.host_view.result ≡ v = c.host_view.ensures.view ∙ ap (host_view_of c.args.store.now) c.viewer-viewer.ensures.viewer in
    let same : c.names.result.now ≡ c.args.loaded.now.words = c.names.ensures.names ∙ c.get-2.ensures.value ∙ c.words-words.ensures.words in
    let own = words_stay c.args.loaded.now c.args.store.now c.args.touched.now c.requires.before c.requires.words in
    record { targets = subst (λ (w : HostViewMap). HaveLinks w c.names.result.now) (sym is) (subst (λ (all : NamedWords). HaveLinks v all) (sym same) (have_links v c.args.loaded.now.words own)) }

pub returns-in_err-close_loaded-clause-over : goal.returns-in_err-close_loaded-clause-over
returns-in_err-close_loaded-clause-over c =
    let v = host_view_of c.args.store.now c.args.loaded.now.viewer in
    let is : c.of-loader.result ≡ v = c.of-loader.ensures.view ∙ c.new.ensures.index ∙ c.in_ok-index.ensures.view ∙ c.host_view.ensures.view ∙ ap (host_view_of c.args.store.now) c.viewer-viewer.ensures.viewer in
    let own = words_stay c.args.loaded.now c.args.store.now c.args.touched.now c.requires.before c.requires.words in
    let same = same_sources v c.args.loaded.now.words c.get.result.now c.extra.result.now c.args.loaded.now.extra c.in_ok-sources.sources.items (c.get.ensures.value ∙ c.words-words.ensures.words) c.extra.ensures.extra own (subst (λ (w : Viewer). AreSourcesBy w.profile c.get.result.now c.extra.result.now c.in_ok-sources.sources.items) c.viewer-viewer.ensures.viewer c.in_ok-sources.ensures.sources) in
    refused_over c.from_residual-in_err-close_loaded.result _ (IsTooLarge v c.args.loaded.now.extra) c.from_residual-in_err-close_loaded.ensures.1
    (over_here v c.of-loader.result is c.args.loaded.now.extra c.in_ok-sources.sources.items c.deref-2.result.now same c.deref-2.ensures.value c.in_err-close_loaded.field-0.0 c.in_err-close_loaded.ensures.over)

pub returns-clause-found : goal.returns-clause-found
returns-clause-found c =
    let v = host_view_of c.args.store.now c.args.loaded.now.viewer in
    let is : c.of-loader.result ≡ v = c.of-loader.ensures.view ∙ c.new.ensures.index ∙ c.in_ok-index.ensures.view ∙ c.host_view.ensures.view ∙ ap (host_view_of c.args.store.now) c.viewer-viewer.ensures.viewer in
    let own = words_stay c.args.loaded.now c.args.store.now c.args.touched.now c.requires.before c.requires.words in
    let same = same_sources v c.args.loaded.now.words c.get.result.now c.extra.result.now c.args.loaded.now.extra c.in_ok-sources.sources.items (c.get.ensures.value ∙ c.words-words.ensures.words) c.extra.ensures.extra own (subst (λ (w : Viewer). AreSourcesBy w.profile c.get.result.now c.extra.result.now c.in_ok-sources.sources.items) c.viewer-viewer.ensures.viewer c.in_ok-sources.ensures.sources) in
    found_from v c.of-loader.result is c.args.loaded.now.extra c.in_ok-sources.sources.items c.deref-2.result.now same c.deref-2.ensures.value
    c.in_ok-close_loaded.field-0.entries c.in_ok-close_loaded.ensures.closure c.in_ok-close_loaded.ensures.loaded c.in_ok-close_loaded.ensures.room
