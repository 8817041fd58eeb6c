use Rattle.parallel_load.proofs.{Normalizing.{found_from, load_made, not_too_large, over_there, refused_over, whole_found}, Prelude.{host_view_of, IsTooLarge, one_viewer, sym}}
use Rattle.parallel_load.proofs.loads.load_fleet.Goals as goal

pub returns-in_err-found-clause-over : goal.returns-in_err-found-clause-over
returns-in_err-found-clause-over g c =
    let s = host_view_of c.args.store.now c.args.viewer.now in
    refused_over c.from_residual-in_err-found.result _ (IsTooLarge s c.args.extra.now) c.from_residual-in_err-found.ensures.1
    (over_there s c.in_ok-words.field-0.loader.index c.in_ok-words.ensures.view c.args.extra.now c.in_ok-words.field-0.sources.items c.deref.result.now c.in_ok-words.ensures.sources c.deref.ensures.value c.in_err-found.field-0.0 c.in_err-found.ensures.over)

pub normalized_by_workers-requires-clause-whole : goal.normalized_by_workers-requires-clause-whole
normalized_by_workers-requires-clause-whole g c κs within =
    let s = host_view_of c.args.store.now c.args.viewer.now in
    whole_found s c.args.extra.now c.in_ok-found.found.entries
    (found_from s c.in_ok-words.field-0.loader.index c.in_ok-words.ensures.view c.args.extra.now c.in_ok-words.field-0.sources.items c.deref.result.now c.in_ok-words.ensures.sources c.deref.ensures.value c.in_ok-found.found.entries c.in_ok-found.ensures.closure c.in_ok-found.ensures.loaded c.in_ok-found.ensures.room)

pub returns-clause-load : goal.returns-clause-load
returns-clause-load g c =
    let s = host_view_of c.args.store.now c.args.viewer.now in
    load_made s c.args.extra.now c.in_ok-found.found.entries
    (found_from s c.in_ok-words.field-0.loader.index c.in_ok-words.ensures.view c.args.extra.now c.in_ok-words.field-0.sources.items c.deref.result.now c.in_ok-words.ensures.sources c.deref.ensures.value c.in_ok-found.found.entries c.in_ok-found.ensures.closure c.in_ok-found.ensures.loaded c.in_ok-found.ensures.room)
    c.args.viewer.now c.in_ok-words.field-0.words c.in_ok-normalized_by_workers.field-0 (sym (one_viewer c.args.store.now c.args.viewer.now)) c.in_ok-words.ensures.words c.in_ok-normalized_by_workers.ensures.load

pub returns-clause-not_over : goal.returns-clause-not_over
returns-clause-not_over g c =
    let s = host_view_of c.args.store.now c.args.viewer.now in
    not_too_large s c.args.extra.now c.in_ok-found.found.entries
    (found_from s c.in_ok-words.field-0.loader.index c.in_ok-words.ensures.view c.args.extra.now c.in_ok-words.field-0.sources.items c.deref.result.now c.in_ok-words.ensures.sources c.deref.ensures.value c.in_ok-found.found.entries c.in_ok-found.ensures.closure c.in_ok-found.ensures.loaded c.in_ok-found.ensures.room)
