use Rattle.std.proofs.Common.{◌-◌, ◌≤◌}
use Rattle.chunked_pairs.proofs.{Prelude.{ap, arith, length, subst, swapped, sym, viewed, with_run, ◌∙◌}, Views.{length_viewed, run_here, with_here}}
use Rattle.chunked_pairs.proofs.chunks.Chunks.swap.Goals as goal

pub returns : goal.returns
returns g c =
    let first = c.self.inside.first.items in
    let more = c.self.inside.more.items in
    let at = c.args.at in
    let le = subst (λ v. at ≤ length v.1) (sym c.self.view_is) c.requires.within in
    let within : at ≤ length more = omega (arith, le, length_viewed more) in
    let x = ap (λ v. v.items) c.swap.ensures.x_after ∙ sym (run_here first more at (at - 1) _ (omega arith) (omega arith) c.index_mut-place.ensures.value) in
    let y = with_here first more at (at - 1) c.index_mut-place.result.now c.swap.new.y (omega arith) (omega arith) c.index_mut-place.ensures.value
    ∙ ap (λ v. with_run first (viewed more) at v.items) c.swap.ensures.y_after in
    record { swapped = (λ i. (x i, (y i).1)) ∙ ap (λ v. swapped v.0 v.1 at) c.self.view_is }
