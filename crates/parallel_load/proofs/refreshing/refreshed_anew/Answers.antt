use Rattle.parallel_load.proofs.Prelude.{AreOwnLinkTargets, host_view_of, IsNormalizedLoad, List, Name, one_viewer, subst, sym, ◌∙◌}
use Rattle.parallel_load.proofs.{Normalizing.{load_made, not_too_large, whole_found}, Staying.{words_stay}}
use Rattle.parallel_load.proofs.refreshing.refreshed_anew.Goals as goal

pub normalized-requires-clause-whole : goal.normalized-requires-clause-whole
normalized-requires-clause-whole c = whole_found (host_view_of c.args.store.now c.args.loaded.now.viewer) c.args.loaded.now.extra c.in_ok-found.found.entries c.in_ok-found.ensures.found

pub returns-clause-load : goal.returns-clause-load
returns-clause-load c =
    let load = c.args.loaded.now in
    let t = host_view_of c.args.store.now load.viewer in
    let own = words_stay load c.args.store.now c.args.touched.now c.requires.before (c.in_ok-keeps_link_targets.ensures.kept c.if-not-branch.false) in
    let P : List Name → Type 0 = λ es. IsNormalizedLoad c.in_ok-found.found.entries c.viewer-viewer.result.now es c.in_ok-words.words c.in_ok-normalized.field-0 in
    load_made t load.extra c.in_ok-found.found.entries c.in_ok-found.ensures.found c.viewer-viewer.result.now c.in_ok-words.words c.in_ok-normalized.field-0
    (c.viewer-viewer.ensures.viewer ∙ sym (one_viewer c.args.store.now load.viewer)) (subst (AreOwnLinkTargets t) (sym (c.in_ok-words.ensures.copy ∙ c.words.ensures.words)) own)
    (subst P c.extra-2.ensures.extra c.in_ok-normalized.ensures.load)

pub returns-clause-not_over : goal.returns-clause-not_over
returns-clause-not_over c = not_too_large (host_view_of c.args.store.now c.args.loaded.now.viewer) c.args.loaded.now.extra c.in_ok-found.found.entries c.in_ok-found.ensures.found
