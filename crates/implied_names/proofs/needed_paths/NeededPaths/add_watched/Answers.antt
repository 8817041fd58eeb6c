use Rattle.std.proofs.Common.{◌++◌}
use Rattle.implied_names.proofs.{Growth.{behind}, Prelude.{codes, paths_in, values_of}}
use Rattle.implied_names.proofs.needed_paths.NeededPaths.add_watched.Goals as goal

pub returns : goal.returns
returns c =
    let s = c.args.self.now in
    let f = c.args.facts.now in
    let p0 = paths_in (values_of f (codes "PathExists")) in
    let p1 = paths_in (values_of f (codes "PathExistsGlob")) in
    let p2 = paths_in (values_of f (codes "PathChanged")) in
    let p3 = paths_in (values_of f (codes "PathModified")) in
    let p4 = paths_in (values_of f (codes "DirectoryNotEmpty")) in
    record { added = behind s c.add_values-4.new.self c.add_values-5.new.self (p0 ++ p1 ++ p2 ++ p3) p4 (behind s c.add_values-3.new.self c.add_values-4.new.self (p0 ++ p1 ++ p2) p3 (behind s c.add_values-2.new.self c.add_values-3.new.self (p0 ++ p1) p2 (behind s c.add_values.new.self c.add_values-2.new.self p0 p1 c.in_ok-add_values.ensures.added c.in_ok-add_values-2.ensures.added) c.in_ok-add_values-3.ensures.added) c.in_ok-add_values-4.ensures.added) c.in_ok-add_values-5.ensures.added }
