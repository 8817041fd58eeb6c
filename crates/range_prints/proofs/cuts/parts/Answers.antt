use Rattle.std.proofs.Common.{◌*◌, ◌+◌, ◌-◌, ◌<◌, ◌≡◌, ◌≤◌}
use Rattle.range_prints.proofs.{Counts.{more_shares, spread}, CutRanges.{cut_at_first, drop_sorted, only_part}}
use Rattle.range_prints.proofs.Prelude.{add-mul, All-drop, ap, arith, length, length-append, length-drop, PlaceParts, true, Version, ℕ, ◌∙◌}
use Rattle.range_prints.specs.Ranges.{is_within}
use Rattle.range_prints.proofs.cuts.parts.Goals as goal

pub loop-next-init : goal.loop-next-init
loop-next-init c =
    let most = c.max-share.ensures in
    record {
      share = omega (arith, most);
      spread = spread (length c.args.versions.now) c.args.count c.max-share.result c.requires.some (omega (arith, most, c.div_ceil.ensures));
      few = let none = ap length c.new-parts.ensures.items in let some = c.requires.some in omega (arith, none, some);
      behind =
          let none = ap length c.new-parts.ensures.items in
          let left = ap length c.after-left.ensures.after ∙ length-drop c.max-share.result c.args.versions.now in
          rw none (let now : length c.after-left.result.now ≡ length c.args.versions.now - (0 + 1) * c.max-share.result = omega (arith, left) in now);
      parts = rw (c.new-parts.ensures.items, c.into_bounds-from.ensures.from, c.into_bounds-from.ensures.until) (only_part c.args.range);
      sorted = rw c.after-left.ensures.after (drop_sorted c.max-share.result c.args.versions.now c.requires.sorted);
      within = rw (c.after-left.ensures.after, c.into_bounds-from.ensures.from, c.into_bounds-from.ensures.until) (All-drop (λ (v : PlaceParts × Version). is_within c.args.range v.0 ≡ true) c.max-share.result c.args.versions.now c.requires.within);
    }

pub loop-next-preserved : goal.loop-next-preserved
loop-next-preserved c =
    let kept = c.loop-next.invariant in
    let n : ℕ = length c.args.versions.now in
    let k : ℕ = length c.loop-next.parts.items in
    let share : ℕ = c.max-share.result in
    let some : 0 < length c.loop-next.left.now = rw c.in-Some.ensures.cases.0 (omega arith) in
    let many : (k + 1) * share < n = let was = kept.behind in omega (arith, some, was) in
    let pushed : length c.push.new.self.items ≡ k + 1 = ap length c.in_ok-push.ensures.items ∙ length-append c.loop-next.parts.items _ in
    let left : length c.after-left-in-Some.result.now ≡ length c.loop-next.left.now - share = ap length c.after-left-in-Some.ensures.after ∙ length-drop share c.loop-next.left.now in
    let further : (k + 1 + 1) * share ≡ (k + 1) * share + 1 * share = add-mul (k + 1) 1 share in
    let cut = cut_at_first c.args.range c.loop-next.parts.items c.loop-next.from c.in-Some.next.now _ c.loop-next.left.now share c.in-Some.ensures.cases.0 kept.parts kept.sorted kept.within in
    record {
      share = kept.share;
      spread = kept.spread;
      few = let less = more_shares n c.args.count share (k + 1) kept.spread many in omega (arith, less, pushed);
      behind = let was = kept.behind in rw pushed (let now : length c.after-left-in-Some.result.now ≡ n - (k + 1 + 1) * share = omega (arith, left, was, further) in now);
      parts = rw (c.in_ok-push.ensures.items, c.in_ok-place.ensures.place, c.in_ok-place-2.ensures.place) cut.parts;
      sorted = rw c.after-left-in-Some.ensures.after cut.sorted;
      within = rw (c.after-left-in-Some.ensures.after, c.in_ok-place-2.ensures.place) cut.within;
    }
