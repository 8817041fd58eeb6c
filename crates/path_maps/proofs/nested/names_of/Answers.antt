use Rattle.path_maps.proofs.{Prelude.{bytes_cmp, IsHeldAt, path_at}, Readings.{map_readable, names_held}}
use Rattle.path_maps.proofs.nested.names_of.Goals as goal

pub new-requires : goal.new-requires
new-requires g c =
    let held = names_held c.args.rank c.args.folder.now c.args.names.now c.pairs-left.ensures.map.held c.requires.paths in
    record { readable = map_readable bytes_cmp (λ p. IsHeldAt (path_at c.args.rank c.args.folder.now p.0) p.1) _ _ c.pairs-left.ensures.pairs c.pairs-left.ensures.map held }
