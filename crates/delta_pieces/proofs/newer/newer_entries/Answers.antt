use Rattle.delta_pieces.proofs.{Joined.{failed_first, joined_all, joined_none, passed_first, sum_at}, Passes.{passed, records_all}, Prelude.{ap, Entry, filter, find, is_newer, join, place_cmp, PlaceParts, sym, ◌∙◌}}
use Rattle.delta_pieces.proofs.newer.newer_entries.Goals as goal

pub loop-placed-init : goal.loop-placed-init
loop-placed-init c =
    let newer = λ (p : PlaceParts × Entry). is_newer p.1.version (find place_cmp p.0 c.args.versions.now) in
    record {
      newer = joined_all c.new-newer.result (filter newer c.args.entries) c.new-newer.ensures.empty;
      sorted = c.requires.sorted;
      left_sorted = c.requires.versions_sorted;
      records = records_all c.args.versions.now c.args.entries;
    }

pub loop-placed-preserved : goal.loop-placed-preserved
loop-placed-preserved c =
    let newer = λ (p : PlaceParts × Entry). is_newer p.1.version (find place_cmp p.0 c.args.versions.now) in
    let is = c.in-Some.ensures.first in
    let now = passed c.args.versions.now c.loop-placed.left.now _ c.in-Some.placed c.next_entry.new.self _ _ _ _ is c.loop-placed.invariant.sorted c.loop-placed.invariant.records
    c.from_place-left.ensures.held c.entry.ensures.entry c.version_at.ensures.version c.is_newer.ensures.newer in
    record {
      newer = failed_first c.loop-placed.newer c.in-Some.placed c.next_entry.new.self c.loop-placed.entries is newer _ c.loop-placed.invariant.newer (sym now.recorded ∙ c.if-is_newer.false);
      sorted = now.sorted;
      left_sorted = c.from_place-left.ensures.sorted;
      records = now.records;
    }

pub loop-placed-preserved-in-Continue-1 : goal.loop-placed-preserved-in-Continue-1
loop-placed-preserved-in-Continue-1 c =
    let newer = λ (p : PlaceParts × Entry). is_newer p.1.version (find place_cmp p.0 c.args.versions.now) in
    let is = c.in-Some.ensures.first in
    let now = passed c.args.versions.now c.loop-placed.left.now _ c.in-Some.placed c.next_entry.new.self _ _ _ _ is c.loop-placed.invariant.sorted c.loop-placed.invariant.records
    c.from_place-left.ensures.held c.entry.ensures.entry c.version_at.ensures.version c.is_newer.ensures.newer in
    record {
      newer =
          ap (λ s. join s (sum_at (filter newer c.next_entry.new.self))) c.in_ok-join_copy.ensures.ok
          ∙ passed_first c.loop-placed.newer c.in-Some.placed c.next_entry.new.self c.loop-placed.entries is newer _ c.loop-placed.invariant.newer (sym now.recorded ∙ c.if-is_newer.true);
      sorted = now.sorted;
      left_sorted = c.from_place-left.ensures.sorted;
      records = now.records;
    }

pub returns : goal.returns
returns c =
    let newer = λ (p : PlaceParts × Entry). is_newer p.1.version (find place_cmp p.0 c.args.versions.now) in
    record { newer = joined_none c.loop-placed.newer (filter newer c.loop-placed.entries) (ap (filter newer) c.in_default.ensures.first.0) ∙ c.loop-placed.invariant.newer }
