use Rattle.std.proofs.Common.{◌+◌, ◌-◌, ◌/◌, ◌<◌, ◌∷◌, ◌≡◌, ◌≤◌}
use Rattle.worker_rounds.proofs.Prelude.{All-cons, ap, arith, Chunk, div-le_self, length, length-drop, length-take-le, range_with_len, rules, subst, sym, ◌∙◌}
use Rattle.worker_rounds.proofs.Cutting.{all_in_last, enough_left, number_more, some_in_chunk, whole_more}
use Rattle.worker_rounds.proofs.chunks.cut.Goals as goal

pub loop-done-preserved : goal.loop-done-preserved
loop-done-preserved g c =
    let left = c.min-count.result - c.loop-done.done in
    let size = c.len-in-loop-done-2.result / left in
    let at = c.len-in-loop-done.result - size in
    let long : c.len-in-loop-done.result ≡ length c.loop-done.rest.items = search rules in
    let again : c.len-in-loop-done-2.result ≡ length c.loop-done.rest.items = search rules in
    let more : c.loop-done.done < c.min-count.result = search rules in
    let pos : 0 < left = omega arith in
    let enough : left ≤ c.len-in-loop-done-2.result = (let e = c.loop-done.invariant.enough in omega arith) in
    let some : 0 < size = some_in_chunk c.len-in-loop-done-2.result left pos enough in
    let others : left - 1 ≤ c.len-in-loop-done-2.result - size = enough_left c.len-in-loop-done-2.result left pos enough in
    let within : size ≤ c.len-in-loop-done-2.result = div-le_self c.len-in-loop-done-2.result left in
    let kept = c.in_ok-last.ensures.items in
    let tail = c.from.ensures.0 ∙ c.in_ok-last.ensures.tail in
    let shorter : length c.split_off.new.self.items ≡ at = ap length kept ∙ length-take-le at c.loop-done.rest.items (omega arith) in
    let taken : length c.from.result.items ≡ length c.loop-done.rest.items - at = ap length tail ∙ length-drop at c.loop-done.rest.items in
    let last : Chunk g.row.K.Denot = record { number = left - 1; nodes = c.from.result } in
    let full : 0 < length c.from.result.items = omega arith in
    record {
      whole = rw c.in_ok-push_front.ensures.items (whole_more at _ _ _ _ _ kept tail c.loop-done.invariant.whole);
      count = search rules;
      filled = rw c.in_ok-push_front.ensures.items (All-cons (λ (chunk : Chunk g.row.K.Denot). 0 < length chunk.nodes.items) last c.loop-done.chunks.items full c.loop-done.invariant.filled);
      numbered =
          rw c.in_ok-push_front.ensures.items
          (subst (λ v. (left - 1) ∷ v ≡ range_with_len (c.min-count.result - (c.loop-done.done + 1)) (c.loop-done.done + 1)) (sym c.loop-done.invariant.numbered)
          (number_more c.min-count.result c.loop-done.done more));
      enough = omega arith;
      last = λ ends. (let all = all_in_last c.len-in-loop-done-2.result left pos (omega arith) in omega arith);
    }
