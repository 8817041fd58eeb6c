use Rattle.std.proofs.Common.{◌≡◌}
use Rattle.delta_pieces.proofs.{HostViews.{all_left, entries-sum_of}, Joined.{sum_at}, Orders.{drop_ascends, entries_ascend, take_ascends}, Prelude.{ap, drop, take, take_all, ◌∙◌}}
use Rattle.std.specs.FinMap as finmap
use Rattle.delta_pieces.proofs.pieces.parts_of.Goals as goal

pub returns : goal.returns
returns c =
    let held = finmap.entries c.args.store.now in
    let ascends = entries_ascend c.args.store.now in
    let left : c.gather.new.entries ≡ drop c.args.at held = c.in_ok-prefix.ensures.left ∙ ap (drop c.args.at) c.entries-entries.ensures.entries in
    let back : take c.len.result (drop c.args.at held) ≡ drop c.args.at held = take_all c.len.result (drop c.args.at held) (all_left c.args.at held c.len.result (c.len.ensures.len ∙ finmap.len-entries c.args.store.now)) in
    record {
      first =
          ap finmap.entries (c.in_ok-prefix.ensures.gathered ∙ ap (λ l. sum_at (take c.args.at l)) c.entries-entries.ensures.entries)
          ∙ entries-sum_of (take c.args.at held) (take_ascends c.args.at held ascends);
      second =
          ap finmap.entries (c.in_ok-back.ensures.gathered ∙ ap (λ l. sum_at (take c.len.result l)) left ∙ ap sum_at back)
          ∙ entries-sum_of (drop c.args.at held) (drop_ascends c.args.at held ascends);
    }
