use Rattle.std.proofs.Common.{◌+◌, ◌++◌, ◌<◌, ◌∷◌, ◌≡◌}
use Rattle.join_maps.proofs.Prelude.{[], ap, arith, get_or, length, List, refl, suc, sym, take_more, zero, ℕ, ◌∙◌}
use Rattle.chunked_pairs.specs.Chunks.{run_at}
use Rattle.join_maps.proofs.walks.copy_chunks.Goals as goal

-- the run behind a separator
behind : {K V : Type 0} (run : List (K × V)) (ms : List (K × List (K × V))) (j : ℕ) (d : K × List (K × V)) → j < length ms → (get_or ms j d).1 ≡ run_at run ms (suc j)
behind run [] j d lt = absurd (omega arith)
behind run (m ∷ ms) zero d lt = refl
behind run (m ∷ ms) (suc j) d lt = behind m.1 ms j d (omega arith)

pub loop-at-preserved : goal.loop-at-preserved
loop-at-preserved g c =
    let chunks = c.args.chunks.now in
    let d : g.row.K.Denot × List (g.row.K.Denot × g.row.V.Denot) = (c.separator.result.now, []) in
    let lt : c.loop-at.at < length chunks.1 = omega (arith, c.loop-at-test.true, c.last_run-at-end.ensures.last) in
    let key = c.in_ok-try_clone.ensures.copy ∙ c.separator.ensures.separator d in
    let one : c.loop-at.at + 1 ≡ suc c.loop-at.at = omega arith in
    let run = c.in_ok-run.ensures.copy ∙ c.run-in-loop-at.ensures.run ∙ ap (run_at chunks.0 chunks.1) one ∙ sym (behind chunks.0 chunks.1 c.loop-at.at d lt) in
    c.in_ok-add_run.ensures.ok ∙ (λ i. ((c.loop-at.invariant i).0, (c.loop-at.invariant i).1 ++ (key i, run i) ∷ [])) ∙ sym (ap (λ l. (chunks.0, l)) (take_more chunks.1 c.loop-at.at d lt))
