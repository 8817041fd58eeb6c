use Rattle.std.proofs.Common.{◌++◌}
use Rattle.implied_names.proofs.{Growth.{behind}, Prelude.{codes, last, said_path}}
use Rattle.implied_names.proofs.needed_paths.NeededPaths.add_working.Goals as goal

pub returns : goal.returns
returns c =
    let s = c.args.self.now in
    let f = c.args.facts.now in
    let p0 = said_path (last f (codes "WorkingDirectory")) in
    let p1 = said_path (last f (codes "RootDirectory")) in
    let p2 = said_path (last f (codes "RootImage")) in
    record { added = behind s c.add_last-2.new.self c.add_last-3.new.self (p0 ++ p1) p2 (behind s c.add_last.new.self c.add_last-2.new.self p0 p1 c.in_ok-add_last.ensures.added c.in_ok-add_last-2.ensures.added) c.in_ok-add_last-3.ensures.added }
