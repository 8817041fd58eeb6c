use Rattle.std.proofs.Common.{◌-◌, ◌≤◌}
use Rattle.chunked_pairs.proofs.{Prelude.{ap, arith, length, run_at, subst, sym, ◌∙◌}, Views.{length_viewed, run_here}}
use Rattle.chunked_pairs.proofs.chunks.Chunks.run.Goals as goal

pub returns : goal.returns
returns g c =
    let le = subst (λ v. c.args.at ≤ length v.1) (sym c.self.view_is) c.requires.within in
    let within : c.args.at ≤ length c.self.inside.more.items = omega (arith, le, length_viewed c.self.inside.more.items) in
    record {
      run =
          c.deref-2.ensures.value
          ∙ sym (run_here c.self.inside.first.items c.self.inside.more.items c.args.at (c.args.at - 1) _ (omega arith) (omega arith) c.index.ensures)
          ∙ ap (λ v. run_at v.0 v.1 c.args.at) c.self.view_is;
    }
