use Rattle.worker_rounds.proofs.{Joining.{chunks_hold, joined_loads}, Prelude.{All, AreLoads, Chunk, get_or, IfOk, IfOk-weaker, subst, sym}}
use Rattle.worker_rounds.proofs.workers.pairs_by_workers.Goals as goal

pub work_by_chunks-requires-clause-ready : goal.work_by_chunks-requires-clause-ready
work_by_chunks-requires-clause-ready g c =
    λ _ _ chunks are i x within is. (
    let is_node = g.L.Loads.is_node c.args.loader.now in
    let held = chunks_hold is_node (λ (chunk : Chunk g.row.K.Denot). chunk.nodes.items) chunks c.args.fresh.items are.whole c.requires.nodes in
    subst (λ (chunk : Chunk g.row.K.Denot). All is_node chunk.nodes.items) (sym is) (held i x within))

pub returns : goal.returns
returns g c = record {
  pairs =
      (let is_loaded = g.L.Loads.is_loaded c.args.loader.now in
      IfOk-weaker c.work_by_chunks.result _ (λ all. AreLoads is_loaded c.args.fresh.items all.items)
      (λ all worked. joined_loads is_loaded (λ chunk. chunk.nodes.items) worked.chunks worked.parts c.args.fresh.items all.items worked.cut.whole worked.len
      (λ i chunk part within. (
      let given = (worked.given i part within).1 in
      subst (λ (of : Chunk g.row.K.Denot). IfOk (get_or worked.parts i part) (λ pairs. AreLoads is_loaded of.nodes.items pairs.items)) (sym (given.job_is chunk)) given.call.met.1))
      worked.joined)
      c.work_by_chunks.ensures.worked);
}
