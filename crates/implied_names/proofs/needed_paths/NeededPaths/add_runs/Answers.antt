use Rattle.implied_names.proofs.{Growth.{grown_by}, Prelude.{ap, as_run, filter_map-append, map, map-append, path_of, paths_in, ◌∙◌}}
use Rattle.implied_names.proofs.needed_paths.NeededPaths.add_runs.Goals as goal

pub loop-text-preserved : goal.loop-text-preserved
loop-text-preserved c =
    grown_by (λ l. map as_run (paths_in (map (λ text. text.now) l)))
    (λ xs ys. ap (λ l. map as_run (paths_in l)) (map-append (λ text. text.now) xs ys) ∙ ap (map as_run) (filter_map-append path_of (map (λ text. text.now) xs) (map (λ text. text.now) ys))
    ∙ map-append as_run (paths_in (map (λ text. text.now) xs)) (paths_in (map (λ text. text.now) ys)))
    c.loop-text.yielded c.in-Some.text c.args.self.now c.loop-text.self c.add_run.new.self c.loop-text.invariant c.in_ok-add_run.ensures.added
