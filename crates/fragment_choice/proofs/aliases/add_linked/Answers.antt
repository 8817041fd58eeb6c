use Rattle.fragment_choice.proofs.{Indexing.{collects_all, collects_next, starts_collecting}, Prelude.{IsOwnAt, keys_of}}
use Rattle.fragment_choice.proofs.aliases.add_linked.Goals as goal

pub loop-placed-init : goal.loop-placed-init
loop-placed-init c = record {
  added = starts_collecting c.args.view.now c.args.level c.entries_in-entries.result (keys_of c.args.targets.now.items) c.entries_in-entries.ensures.entries;
  own = λ h. h;
}

pub loop-placed-preserved : goal.loop-placed-preserved
loop-placed-preserved c = record {
  added =
      collects_next (IsOwnAt c.args.view.now c.args.level) c.in-Some.placed c.loop-placed.entries c.next_entry.new.self (keys_of c.args.targets.now.items) (keys_of c.loop-placed.targets.items) (keys_of c.add_entry.new.targets.items)
      c.in-Some.ensures.first c.loop-placed.invariant.added c.in_ok-add_entry.ensures.added;
  own = λ h. c.in_ok-add_entry.ensures.own (c.loop-placed.invariant.own h);
}

pub returns : goal.returns
returns c = record {
  added = collects_all (IsOwnAt c.args.view.now c.args.level) c.loop-placed.entries (keys_of c.args.targets.now.items) (keys_of c.loop-placed.targets.items) c.in_default.ensures.first.0 c.loop-placed.invariant.added;
  own = c.loop-placed.invariant.own;
}
