use Rattle.std.proofs.Common.{◌≡◌}
use Rattle.parallel_load.proofs.{Pieces.{joined_maps}, Prelude.{Chunk, get_or, IfOk, IfOk-weaker, map, normalized_name, subst, sym}}
use Rattle.parallel_load.proofs.finishing.normalize_by_workers.Goals as goal

pub returns : goal.returns
returns g c = record {
  names =
      (let normalized = normalized_name c.args.mains.now in
      IfOk-weaker c.work_by_chunks.result _ (λ names. names.items ≡ map normalized c.args.pairs.items)
      (λ names worked. joined_maps normalized (λ chunk. chunk.nodes.items) worked.chunks worked.parts c.args.pairs.items names.items worked.cut.whole worked.len
      (λ i chunk part within. (
      let given = (worked.given i part within).1 in
      subst (λ (of : Chunk _). IfOk (get_or worked.parts i part) (λ names. names.items ≡ map normalized of.nodes.items)) (sym (given.job_is chunk)) given.call.met.1))
      worked.joined)
      c.work_by_chunks.ensures.worked);
}
