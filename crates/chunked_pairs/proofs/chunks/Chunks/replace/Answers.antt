use Rattle.std.proofs.Common.{◌-◌, ◌≤◌}
use Rattle.chunked_pairs.proofs.{Prelude.{ap, arith, length, run_at, subst, sym, with_run, ◌∙◌}, Views.{length_viewed, run_here, with_here}}
use Rattle.chunked_pairs.proofs.chunks.Chunks.replace.Goals as goal

pub returns-clause-run : goal.returns-clause-run
returns-clause-run g c =
    let le = subst (λ v. c.args.at ≤ length v.1) (sym c.self.view_is) c.requires.within in
    let within : c.args.at ≤ length c.self.inside.more.items = omega (arith, le, length_viewed c.self.inside.more.items) in
    ap (λ v. v.items) c.replace-2.ensures.value
    ∙ sym (run_here c.self.inside.first.items c.self.inside.more.items c.args.at (c.args.at - 1) _ (omega arith) (omega arith) c.index_mut-place.ensures.value)
    ∙ ap (λ v. run_at v.0 v.1 c.args.at) c.self.view_is

pub returns-clause-put : goal.returns-clause-put
returns-clause-put g c =
    let le = subst (λ v. c.args.at ≤ length v.1) (sym c.self.view_is) c.requires.within in
    let within : c.args.at ≤ length c.self.inside.more.items = omega (arith, le, length_viewed c.self.inside.more.items) in
    rw c.replace-2.ensures.after
    (with_here c.self.inside.first.items c.self.inside.more.items c.args.at (c.args.at - 1) c.index_mut-place.result.now c.args.run (omega arith) (omega arith) c.index_mut-place.ensures.value
    ∙ ap (λ v. with_run v.0 v.1 c.args.at c.args.run.items) c.self.view_is)
