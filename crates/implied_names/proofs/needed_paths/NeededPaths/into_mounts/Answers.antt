use Rattle.std.proofs.Common.{◌++◌}
use Rattle.implied_names.proofs.{Growth.{grown_by}, Prelude.{[], ap, append-nil, flat_map, flat_map-append, map, map-append, mounts_on, sym, ◌∙◌}}
use Rattle.implied_names.proofs.needed_paths.NeededPaths.into_mounts.Goals as goal

pub loop-path-preserved : goal.loop-path-preserved
loop-path-preserved c =
    grown_by (λ l. flat_map mounts_on (map (λ path. path.items) l))
    (λ xs ys. ap (flat_map mounts_on) (map-append (λ path. path.items) xs ys) ∙ flat_map-append mounts_on (map (λ path. path.items) xs) (map (λ path. path.items) ys))
    c.loop-path.yielded c.in-Some.path [] c.loop-path.names.items c.add_mounts.new.names.items c.loop-path.invariant
    (c.in_ok-add_mounts.ensures.added ∙ ap (λ p. c.loop-path.names.items ++ mounts_on p) c.deref.ensures.value ∙ ap (λ l. c.loop-path.names.items ++ l) (sym (append-nil (mounts_on c.in-Some.path.items))))
