use Rattle.std.proofs.Common.{◌++◌}
use Rattle.implied_names.proofs.{Growth.{behind}, Prelude.{codes, paths_in, runs, values_of}}
use Rattle.implied_names.proofs.needed_paths.NeededPaths.add_addresses.Goals as goal

pub returns : goal.returns
returns c =
    let s = c.args.self.now in
    let f = c.args.facts.now in
    let p0 = runs f (codes "ListenStream") in
    let p1 = runs f (codes "ListenDatagram") in
    let p2 = runs f (codes "ListenSequentialPacket") in
    let p3 = runs f (codes "ListenFIFO") in
    let p4 = paths_in (values_of f (codes "ListenSpecial")) in
    let p5 = paths_in (values_of f (codes "ListenUSBFunction")) in
    record { added = behind s c.add_values.new.self c.add_values-2.new.self (p0 ++ p1 ++ p2 ++ p3 ++ p4) p5 (behind s c.add_runs-4.new.self c.add_values.new.self (p0 ++ p1 ++ p2 ++ p3) p4 (behind s c.add_runs-3.new.self c.add_runs-4.new.self (p0 ++ p1 ++ p2) p3 (behind s c.add_runs-2.new.self c.add_runs-3.new.self (p0 ++ p1) p2 (behind s c.add_runs.new.self c.add_runs-2.new.self p0 p1 c.in_ok-add_runs.ensures.added c.in_ok-add_runs-2.ensures.added) c.in_ok-add_runs-3.ensures.added) c.in_ok-add_runs-4.ensures.added) c.in_ok-add_values.ensures.added) c.in_ok-add_values-2.ensures.added }
