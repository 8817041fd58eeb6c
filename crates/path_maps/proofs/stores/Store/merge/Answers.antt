use Rattle.std.proofs.Common.{◌+◌, ◌≤◌}
use Rattle.path_maps.proofs.Prelude.{all_held, ap, arith, Err, join-left, Ok, OnErr, Result, store_below_refl, subst, sym, ◌∙◌}
use Rattle.path_maps.proofs.{Ascends.{join_known, nothing_changed}, Merges.{merged, merged_changes, merged_kept, part_again, part_kept, part_within, within_counted, within_fits, within_listed}, Singles.{single_scopes}}
use Rattle.path_maps.proofs.stores.Store.merge.Goals as goal

on_err : {T E P : Type 0} (r : Result T E) → P → OnErr r P
on_err (Ok x) h = tt
on_err (Err e) h = h

pub returns-in_err-len-clause-kept : goal.returns-in_err-len-clause-kept
returns-in_err-len-clause-kept c = on_err _ (store_below_refl c.args.self.now)

pub returns-in_err-len-clause-within : goal.returns-in_err-len-clause-within
returns-in_err-len-clause-within c = on_err _ (join-left c.args.self.now c.args.other.now)

pub invariant_of-self : goal.invariant_of-self
invariant_of-self c =
    rw c.max-self-inside.ensures
    (merged_kept c.self.inside.scopes c.other.inside.scopes c.args.self.now c.args.other.now c.self.inside.len c.other.inside.len c.self.inside.high c.other.inside.high c.self.view_is c.other.view_is c.self.invariant c.other.invariant c.join_copy.new.self
    c.in-Ok.ensures.valid c.in-Ok.ensures.ok c.in_ok-len.len (c.in_ok-len.ensures.sum ∙ ap (λ n. c.self.inside.len + n) c.count_changes-changes.ensures.added) (let sum = c.in_ok-len.ensures.sum in let within = c.in_ok-len.ensures.within in omega (arith, sum, within)))

pub count_entries-counts-requires-clause-paths : goal.count_entries-counts-requires-clause-paths
count_entries-counts-requires-clause-paths c =
    within_listed c.self.inside.scopes c.other.inside.scopes c.args.self.now c.args.other.now c.self.inside.len c.other.inside.len c.self.inside.high c.other.inside.high c.self.view_is c.other.view_is c.self.invariant c.other.invariant c.join_copy.new.self
    c.in-Err.ensures.valid (part_within c.self.inside.scopes c.other.inside.scopes c.args.self.now c.args.other.now c.self.inside.len c.other.inside.len c.self.inside.high c.other.inside.high c.self.view_is c.other.view_is c.self.invariant c.other.invariant c.join_copy.new.self c.in-Err.ensures.valid c.in-Err.ensures.refused)

pub count_entries-counts-requires-clause-fits : goal.count_entries-counts-requires-clause-fits
count_entries-counts-requires-clause-fits c =
    within_fits c.self.inside.scopes c.other.inside.scopes c.args.self.now c.args.other.now c.self.inside.len c.other.inside.len c.self.inside.high c.other.inside.high c.self.view_is c.other.view_is c.self.invariant c.other.invariant c.join_copy.new.self
    c.in-Err.ensures.valid (part_within c.self.inside.scopes c.other.inside.scopes c.args.self.now c.args.other.now c.self.inside.len c.other.inside.len c.self.inside.high c.other.inside.high c.self.view_is c.other.view_is c.self.invariant c.other.invariant c.join_copy.new.self c.in-Err.ensures.valid c.in-Err.ensures.refused) _ (subst (λ n. c.self.inside.len + n ≤ _) c.count_changes-changes.ensures.added c.in_ok-len.ensures.within)

pub invariant_of-self-in-Err : goal.invariant_of-self-in-Err
invariant_of-self-in-Err c =
    within_counted c.self.inside.scopes c.other.inside.scopes c.args.self.now c.args.other.now c.self.inside.len c.other.inside.len c.self.inside.high c.other.inside.high c.self.view_is c.other.view_is c.self.invariant c.other.invariant c.join_copy.new.self
    c.in-Err.ensures.valid (part_within c.self.inside.scopes c.other.inside.scopes c.args.self.now c.args.other.now c.self.inside.len c.other.inside.len c.self.inside.high c.other.inside.high c.self.view_is c.other.view_is c.self.invariant c.other.invariant c.join_copy.new.self c.in-Err.ensures.valid c.in-Err.ensures.refused) c.count_entries-counts.result.len c.count_entries-counts.result.high c.count_entries-counts.ensures.len c.count_entries-counts.ensures.high c.count_entries-counts.ensures.within

pub returns-in-Ok-clause-ok : goal.returns-in-Ok-clause-ok
returns-in-Ok-clause-ok c =
    merged c.self.inside.scopes c.other.inside.scopes c.args.self.now c.args.other.now c.self.inside.len c.other.inside.len c.self.inside.high c.other.inside.high c.self.view_is c.other.view_is c.self.invariant c.other.invariant c.join_copy.new.self
    c.in-Ok.ensures.valid c.in-Ok.ensures.ok

pub returns-in-Ok-clause-changed : goal.returns-in-Ok-clause-changed
returns-in-Ok-clause-changed c =
    merged_changes c.self.inside.scopes c.other.inside.scopes c.args.self.now c.args.other.now c.self.inside.len c.other.inside.len c.self.inside.high c.other.inside.high c.self.view_is c.other.view_is c.self.invariant c.other.invariant c.join_copy.new.self
    c.in-Ok.ensures.valid c.in-Ok.ensures.ok c.count_changes-changes.result.changed c.count_changes-changes.ensures.changed

pub returns-in-Err-clause-kept : goal.returns-in-Err-clause-kept
returns-in-Err-clause-kept c =
    part_kept c.self.inside.scopes c.other.inside.scopes c.args.self.now c.args.other.now c.self.inside.len c.other.inside.len c.self.inside.high c.other.inside.high c.self.view_is c.other.view_is c.self.invariant c.other.invariant c.join_copy.new.self
    c.in-Err.ensures.valid c.in-Err.ensures.refused

pub returns-in-Err-clause-within : goal.returns-in-Err-clause-within
returns-in-Err-clause-within c =
    part_within c.self.inside.scopes c.other.inside.scopes c.args.self.now c.args.other.now c.self.inside.len c.other.inside.len c.self.inside.high c.other.inside.high c.self.view_is c.other.view_is c.self.invariant c.other.invariant c.join_copy.new.self
    c.in-Err.ensures.valid c.in-Err.ensures.refused

pub returns-in-Err-clause-again : goal.returns-in-Err-clause-again
returns-in-Err-clause-again c =
    part_again c.self.inside.scopes c.other.inside.scopes c.args.self.now c.args.other.now c.self.inside.len c.other.inside.len c.self.inside.high c.other.inside.high c.self.view_is c.other.view_is c.self.invariant c.other.invariant c.join_copy.new.self
    c.in-Err.ensures.valid c.in-Err.ensures.refused

pub returns-then-changes-eq0-clause-ok : goal.returns-then-changes-eq0-clause-ok
returns-then-changes-eq0-clause-ok c = join_known c.args.self.now c.args.other.now (sym c.count_changes-changes.ensures.changed ∙ c.if-changes-eq0.true)

pub returns-then-changes-eq0-clause-changed : goal.returns-then-changes-eq0-clause-changed
returns-then-changes-eq0-clause-changed c = sym (nothing_changed c.args.self.now)

pub returns-in-Err-clause-single : goal.returns-in-Err-clause-single
returns-in-Err-clause-single c = λ one.
    ap all_held (c.in-Err.ensures.single (single_scopes c.other.inside.scopes c.args.other.now c.other.view_is c.other.invariant.scopes one)) ∙ c.self.view_is
