use Rattle.std.proofs.Common.{◌<◌, ◌≡◌}
use Rattle.join_maps.proofs.Prelude.{[], ap, IsLastJoined, IsLastStopped, length, OnFalse, OnTrue, subst, sym, ◌∙◌}
use Rattle.chunked_pairs.specs.{Chunks.{all_pairs, AreChunks, given_back, run_at, with_run}, ChunkLaws.{last_some}}
use Rattle.join_maps.proofs.{Lasts.{given_chunks, last_joined, last_stopped}, merges.join_last.Given.{Over}}
use Rattle.join_law.specs.OutcomeLaws.{on_false_weaker, on_true_weaker}
use Rattle.join_maps.proofs.merges.join_last.Goals as goal

pub join_popped-is_joined-requires-clause-some : goal.join_popped-is_joined-requires-clause-some
join_popped-is_joined-requires-clause-some g c =
    let other = c.args.other.now in
    let run : c.take-run.result.items ≡ run_at other.0 other.1 (length other.1) = c.take-run.ensures.run ∙ ap (run_at other.0 other.1) c.last_run-last.ensures.last in
    subst (λ l. 0 < length l) (sym run) (last_some g.K.Ord.cmp g.met.K.Ord.total other c.requires.other c.requires.some)

taken : (g : Over) (c : goal.After-give_back g) → c.take-run.result.items ≡ run_at c.args.other.now.0 c.args.other.now.1 (length c.args.other.now.1)
taken g c = c.take-run.ensures.run ∙ ap (run_at c.args.other.now.0 c.args.other.now.1) c.last_run-last.ensures.last

back : (g : Over) (c : goal.After-give_back g) → c.give_back.new.self ≡ given_back (with_run c.args.other.now.0 c.args.other.now.1 (length c.args.other.now.1) []).0 (with_run c.args.other.now.0 c.args.other.now.1 (length c.args.other.now.1) []).1 c.join_popped-is_joined.new.run.items
back g c =
    let other = c.args.other.now in
    c.give_back.ensures.back ∙ ap (λ d. given_back d.0 d.1 c.join_popped-is_joined.new.run.items) (c.take-run.ensures.left ∙ ap (λ n. with_run other.0 other.1 n []) c.last_run-last.ensures.last)

joined : (g : Over) (c : goal.After-give_back g) → OnTrue c.join_popped-is_joined.result (IsLastJoined g.K.Ord.cmp g.V.Join.below (all_pairs c.args.chunks.now) (run_at c.args.other.now.0 c.args.other.now.1 (length c.args.other.now.1)) (all_pairs c.join_popped-is_joined.new.chunks) c.join_popped-is_joined.new.run.items)
joined g c = rw (taken g c) at c.join_popped-is_joined.ensures.joined

stopped : (g : Over) (c : goal.After-give_back g) → OnFalse c.join_popped-is_joined.result (IsLastStopped g.K.Ord.cmp g.V.Join.below g.V.Join.is_valid g.V.Join.is_single (all_pairs c.args.chunks.now) (run_at c.args.other.now.0 c.args.other.now.1 (length c.args.other.now.1)) (all_pairs c.join_popped-is_joined.new.chunks) c.join_popped-is_joined.new.run.items)
stopped g c = rw (taken g c) at c.join_popped-is_joined.ensures.stopped

pub returns-clause-other : goal.returns-clause-other
returns-clause-other g c =
    subst (AreChunks g.K.Ord.cmp) (sym (back g c))
    (given_chunks g.K.Ord.cmp g.met.K.Ord.total c.args.other.now c.requires.other g.V.Join.below g.V.Join.is_valid g.V.Join.is_single c.join_popped-is_joined.result _ _ _ (joined g c) (stopped g c))

pub returns-clause-joined : goal.returns-clause-joined
returns-clause-joined g c =
    on_true_weaker c.join_popped-is_joined.result
    (last_joined g.K.Ord.cmp g.met.K.Ord.total g.V.Join.below g.V.Join.is_valid g.V.Join.is_single c.args.other.now c.requires.other _ _ _ _ (ap all_pairs (back g c)))
    (joined g c)

pub returns-clause-stopped : goal.returns-clause-stopped
returns-clause-stopped g c =
    on_false_weaker c.join_popped-is_joined.result
    (last_stopped g.K.Ord.cmp g.met.K.Ord.total g.V.Join.below g.V.Join.is_valid g.V.Join.is_single c.args.other.now c.requires.other _ _ _ _ (ap all_pairs (back g c)))
    (stopped g c)
