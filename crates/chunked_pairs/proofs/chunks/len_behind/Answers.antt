use Rattle.chunked_pairs.proofs.{Lengths.{len_more, short_at}, Prelude.{arith}}
use Rattle.chunked_pairs.proofs.chunks.len_behind.Goals as goal

pub overflow_add-len : goal.overflow_add-len
overflow_add-len g c =
    let short = short_at c.args.more.now c.loop-behind.behind-index c.behind-item.result c.loop-behind-test.true c.behind-item.is c.requires.short in
    omega (arith, short, c.behind-item.result.1.ok)

pub loop-behind-preserved : goal.loop-behind-preserved
loop-behind-preserved g c =
    let short = short_at c.args.more.now c.loop-behind.behind-index c.behind-item.result c.loop-behind-test.true c.behind-item.is c.requires.short in
    let more = len_more c.args.more.now c.loop-behind.behind-index c.behind-item.result c.loop-behind-test.true c.behind-item.is in
    record {
      len = omega (arith, more, c.loop-behind.invariant.len, c.behind-item.result.1.ok);
      small = omega (arith, short, c.loop-behind.invariant.small, c.behind-item.result.1.ok);
    }
