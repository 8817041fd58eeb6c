use Rattle.std.proofs.Common.{◌+◌}
use Rattle.fragment_choice.proofs.{Levels.{all_after, first_level, IsLevel, more_after, next_level, none_after}, Prelude.{[], arith, Gathers, LeadsToAny, List, Name, subst, sym, ◌∙◌}}
use Rattle.fragment_choice.proofs.aliases.AliasIndex.all_after.Goals as goal

pub loop-depth-init : goal.loop-depth-init
loop-depth-init c = record {
  level = first_level c.args.self.now c.args.name.now c.in_ok-level.level.items (c.in_ok-level.ensures.copy ∙ c.from_ref.ensures.value);
  after = none_after c.args.self.now c.args.name.now c.new-others.result.keys c.new-others.ensures.empty;
}

pub loop-depth-preserved : goal.loop-depth-preserved
loop-depth-preserved c =
    let s = c.args.self.now in
    let u = c.args.name.now in
    let d = c.loop-depth.depth in
    let level = c.loop-depth.level.items in
    let next = c.in_ok-next.next.keys in
    let g = subst (λ (ms : List Name). Gathers (LeadsToAny s ms) [] next) c.deref.ensures.value c.in_ok-next.ensures.gathered in
    let l = next_level s u d (d + 1) level next (omega arith) c.loop-depth.invariant.level g in
    record {
      level = subst (IsLevel s u (d + 1)) (sym c.in_ok-level-2.ensures.list) l;
      after = more_after s u d (d + 1) level next c.loop-depth.others.keys c.add_all.new.others.keys (omega arith) g l c.in_ok-level-2.ensures.added c.loop-depth.invariant.after;
    }

pub returns : goal.returns
returns c = record { after = all_after c.args.self.now c.args.name.now c.loop-depth.depth c.loop-depth.others.keys (omega arith) (omega arith) c.loop-depth.invariant.after }
