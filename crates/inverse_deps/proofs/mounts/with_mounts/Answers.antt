use Rattle.std.proofs.Common.{◌++◌, ◌+◌, ◌∷◌, ◌≡◌}
use Rattle.inverse_deps.proofs.Prelude.{[], ap, IsByMount, IsByMounts, List, Name, sym, take, take_more, ◌∙◌}
use Rattle.inverse_deps.proofs.{Adding.{added_both}, Mounting.{one_more_mount}}
use Rattle.inverse_deps.proofs.mounts.with_mounts.Goals as goal

pub loop-mount-preserved : goal.loop-mount-preserved
loop-mount-preserved c =
    let load = c.args.loaded.now in
    let index = c.args.index in
    let mounts : List Name = c.args.mounts.now in
    let i = c.loop-mount.mount-index in
    let name : Name = c.mount-item.result in
    let more : take (i + 1) mounts ≡ take i mounts ++ name ∷ [] = take_more mounts i name c.loop-mount-test.true ∙ ap (λ (n : Name). take i mounts ++ n ∷ []) (sym c.mount-item.is) in
    added_both (IsByMounts load index (take i mounts)) (IsByMount load index name) (IsByMounts load index (take (i + 1) mounts)) c.args.own.now c.loop-mount.row.items c.add_mount.new.row.items c.loop-mount.invariant
    c.in_ok-add_mount.ensures.row (one_more_mount load index (take i mounts) (take (i + 1) mounts) name more)
