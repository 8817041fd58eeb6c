use Rattle.implied_names.proofs.{Growth.{grown_by}, Prelude.{ap, directory_in, filter_map, filter_map-append, map, map-append, ◌∙◌}}
use Rattle.implied_names.proofs.needed_paths.NeededPaths.add_directories.Goals as goal

pub loop-word-preserved : goal.loop-word-preserved
loop-word-preserved c =
    let one = directory_in c.args.top.now in
    grown_by (λ l. filter_map one (map (λ word. word.now) l))
    (λ xs ys. ap (filter_map one) (map-append (λ word. word.now) xs ys) ∙ filter_map-append one (map (λ word. word.now) xs) (map (λ word. word.now) ys))
    c.loop-word.yielded c.in-Some.word c.args.self.now c.loop-word.self c.add_directory.new.self c.loop-word.invariant c.in_ok-add_directory.ensures.added
