use Rattle.std.proofs.Common.{◌+◌, ◌≡◌}
use Rattle.chunked_pairs.proofs.{Lengths.{short_runs}, Prelude.{all_pairs, AreChunks, arith, later, length, length-append, subst, sym, viewed}}
use Rattle.chunked_pairs.proofs.chunks.Chunks.len.Goals as goal

pub len_behind-requires : goal.len_behind-requires
len_behind-requires g c =
    let chunks = subst (AreChunks g.K.Ord.cmp) (sym c.self.view_is) c.requires.chunks in
    rw c.deref.ensures.value (record { few = c.self.invariant; short = short_runs g.K.Ord.cmp g.met.K.Ord.total c.self.inside.first.items (viewed c.self.inside.more.items) chunks.chained })

pub returns : goal.returns
returns g c =
    let behind = rw c.deref.ensures.value at c.len_behind.ensures.len in
    record {
      len = subst (λ v. c.len.result + c.len_behind.result ≡ length (all_pairs v)) c.self.view_is
          (omega (arith, length-append c.self.inside.first.items (later (viewed c.self.inside.more.items)), behind, c.len.ensures, c.self.inside.first.ok));
    }
