use Rattle.implied_names.proofs.{Growth.{grown}, Prelude.{ap, filter_map-append, map, map-append, path_of, paths_in, refl, ◌∙◌}}
use Rattle.implied_names.proofs.needed_paths.NeededPaths.add_texts.Goals as goal

pub loop-text-preserved : goal.loop-text-preserved
loop-text-preserved c =
    grown (λ l. paths_in (map (λ text. text.now) l))
    (λ xs ys. ap paths_in (map-append (λ text. text.now) xs ys) ∙ filter_map-append path_of (map (λ text. text.now) xs) (map (λ text. text.now) ys))
    c.args.texts.now c.loop-text.text-index _ _ c.args.self.now c.loop-text.self c.add_text.new.self c.loop-text-test.true refl c.loop-text.invariant c.in_ok-add_text.ensures.added
