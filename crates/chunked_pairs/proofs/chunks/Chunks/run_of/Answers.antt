use Rattle.std.proofs.Common.{◌≤◌}
use Rattle.chunked_pairs.proofs.{Prelude.{arith, AreChunks, FallsTo, length, separators_sorted, subst, sym, viewed}, Views.{length_viewed}}
use Rattle.chunked_pairs.proofs.chunks.Chunks.run_of.Goals as goal

pub run_among-requires : goal.run_among-requires
run_among-requires g c =
    let chunks = subst (AreChunks g.K.Ord.cmp) (sym c.self.view_is) c.requires.chunks in
    rw c.deref.ensures.value (record { sorted = separators_sorted g.K.Ord.cmp g.met.K.Ord.total c.self.inside.first.items (viewed c.self.inside.more.items) chunks.chained })

pub returns : goal.returns
returns g c =
    let within : c.run_among.result ≤ length (viewed c.self.inside.more.items) = omega (arith, length_viewed c.self.inside.more.items, rw c.deref.ensures.value at c.run_among.ensures.within) in
    record {
      falls = subst (λ v. FallsTo g.K.Ord.cmp (g.S.Sought.key c.args.sought.now) v.1 c.run_among.result) c.self.view_is (rw c.deref.ensures.value at c.run_among.ensures.falls);
      within = subst (λ v. c.run_among.result ≤ length v.1) c.self.view_is within;
    }
