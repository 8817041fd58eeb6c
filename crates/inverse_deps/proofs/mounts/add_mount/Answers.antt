use Rattle.std.proofs.Common.{◌++◌, ◌≡◌}
use Rattle.inverse_deps.proofs.Prelude.{Dependency, deps_on, get_or, HasAdded, IsByMount, List, Name, NameLoad, on_ok_weaker, refl}
use Rattle.inverse_deps.proofs.{Adding.{added_list, added_none}, Mounting.{mount_added, none_on_itself}}
use Rattle.inverse_deps.proofs.mounts.add_mount.Goals as goal

pub returns-then-at-index : goal.returns-then-at-index
returns-then-at-index c =
    let load = c.args.loaded.now in
    record {
      row = added_none (IsByMount load c.args.index c.args.mount.now) c.args.row.now.items c.args.row.now.items refl
          (none_on_itself load (rw c.names-names.ensures.names at c.names-names.ensures.sorted) c.args.index c.args.mount.now c.in-Some.at c.in-Some.ensures.index c.if-at-index.true);
    }

pub returns-else-at-index : goal.returns-else-at-index
returns-else-at-index c =
    let load = c.args.loaded.now in
    let old : List Dependency = c.args.row.now.items in
    let new : List Dependency = c.add_loaded.new.row.items in
    let entry : Name × NameLoad = get_or c.names-names.result.now c.in-Some.at c.index-names-at.result in
    let more : List Dependency = deps_on entry.1 c.in-Some.at in
    let step : new ≡ old ++ more → HasAdded old (IsByMount load c.args.index c.args.mount.now) new =
    λ e. added_list (IsByMount load c.args.index c.args.mount.now) old more new e
    (mount_added load (rw c.names-names.ensures.names at c.names-names.ensures.sorted) c.args.index c.args.mount.now c.in-Some.at c.in-Some.ensures.index c.if-at-index.false c.names-names.result.now
    c.names-names.ensures.names entry c.index-names-at.result refl) in
    record { row = on_ok_weaker c.add_loaded.result step c.add_loaded.ensures.row }
