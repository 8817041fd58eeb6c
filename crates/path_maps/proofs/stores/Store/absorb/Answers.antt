use Rattle.std.proofs.Common.{◌+◌, ◌≤◌}
use Rattle.path_maps.proofs.Prelude.{all_held, ap, arith, join-left, store_below_refl, subst, sym, ◌∙◌}
use Rattle.path_maps.proofs.{Ascends.{join_known, nothing_changed}, Merges.{merged, merged_changes, merged_kept, part_kept, part_within, partly, rest_joined, rest_within, within_counted, within_fits, within_listed}, Singles.{single_scopes}}
use Rattle.path_maps.proofs.stores.Store.absorb.Goals as goal

pub returns-in_default-clause-kept : goal.returns-in_default-clause-kept
returns-in_default-clause-kept c = store_below_refl c.args.self.now

pub returns-in_default-clause-within : goal.returns-in_default-clause-within
returns-in_default-clause-within c = join-left c.args.self.now c.args.other

pub invariant_of-self : goal.invariant_of-self
invariant_of-self c =
    rw c.max-self-inside.ensures
    (merged_kept c.self.inside.scopes c.other.inside.scopes c.args.self.now c.args.other c.self.inside.len c.other.inside.len c.self.inside.high c.other.inside.high c.self.view_is c.other.view_is c.self.invariant c.other.invariant c.join_from.new.self c.join_from.ensures.valid c.in-Ok-join_from.ensures.ok c.in-Ok.len (c.in-Ok.ensures.sum ∙ ap (λ n. c.self.inside.len + n) c.count_changes-changes.ensures.added) (let sum = c.in-Ok.ensures.sum in let within = c.in-Ok.ensures.within in omega (arith, sum, within)))

pub count_entries-counts-requires-clause-paths : goal.count_entries-counts-requires-clause-paths
count_entries-counts-requires-clause-paths c = within_listed c.self.inside.scopes c.other.inside.scopes c.args.self.now c.args.other c.self.inside.len c.other.inside.len c.self.inside.high c.other.inside.high c.self.view_is c.other.view_is c.self.invariant c.other.invariant c.join_from.new.self c.join_from.ensures.valid (part_within c.self.inside.scopes c.other.inside.scopes c.args.self.now c.args.other c.self.inside.len c.other.inside.len c.self.inside.high c.other.inside.high c.self.view_is c.other.view_is c.self.invariant c.other.invariant c.join_from.new.self c.join_from.ensures.valid (partly c.self.inside.scopes c.other.inside.scopes c.args.self.now c.args.other c.self.inside.len c.other.inside.len c.self.inside.high c.other.inside.high c.self.view_is c.other.view_is c.self.invariant c.other.invariant c.join_from.new.self c.join_from.ensures.valid c.in-Err.field-0.rest c.in-Err.ensures.rest_valid c.in-Err.ensures.refused))

pub count_entries-counts-requires-clause-fits : goal.count_entries-counts-requires-clause-fits
count_entries-counts-requires-clause-fits c = within_fits c.self.inside.scopes c.other.inside.scopes c.args.self.now c.args.other c.self.inside.len c.other.inside.len c.self.inside.high c.other.inside.high c.self.view_is c.other.view_is c.self.invariant c.other.invariant c.join_from.new.self c.join_from.ensures.valid (part_within c.self.inside.scopes c.other.inside.scopes c.args.self.now c.args.other c.self.inside.len c.other.inside.len c.self.inside.high c.other.inside.high c.self.view_is c.other.view_is c.self.invariant c.other.invariant c.join_from.new.self c.join_from.ensures.valid (partly c.self.inside.scopes c.other.inside.scopes c.args.self.now c.args.other c.self.inside.len c.other.inside.len c.self.inside.high c.other.inside.high c.self.view_is c.other.view_is c.self.invariant c.other.invariant c.join_from.new.self c.join_from.ensures.valid c.in-Err.field-0.rest c.in-Err.ensures.rest_valid c.in-Err.ensures.refused)) _ (subst (λ n. c.self.inside.len + n ≤ _) c.count_changes-changes.ensures.added c.in-Ok.ensures.within)

pub count_entries-len-requires-clause-paths : goal.count_entries-len-requires-clause-paths
count_entries-len-requires-clause-paths c = within_listed c.self.inside.scopes c.other.inside.scopes c.args.self.now c.args.other c.self.inside.len c.other.inside.len c.self.inside.high c.other.inside.high c.self.view_is c.other.view_is c.self.invariant c.other.invariant c.in-Err.field-0.rest c.in-Err.ensures.rest_valid (rest_within c.self.inside.scopes c.other.inside.scopes c.args.self.now c.args.other c.self.inside.len c.other.inside.len c.self.inside.high c.other.inside.high c.self.view_is c.other.view_is c.self.invariant c.other.invariant c.join_from.new.self c.join_from.ensures.valid c.in-Err.field-0.rest c.in-Err.ensures.rest_valid c.in-Err.ensures.refused)

pub count_entries-len-requires-clause-fits : goal.count_entries-len-requires-clause-fits
count_entries-len-requires-clause-fits c = within_fits c.self.inside.scopes c.other.inside.scopes c.args.self.now c.args.other c.self.inside.len c.other.inside.len c.self.inside.high c.other.inside.high c.self.view_is c.other.view_is c.self.invariant c.other.invariant c.in-Err.field-0.rest c.in-Err.ensures.rest_valid (rest_within c.self.inside.scopes c.other.inside.scopes c.args.self.now c.args.other c.self.inside.len c.other.inside.len c.self.inside.high c.other.inside.high c.self.view_is c.other.view_is c.self.invariant c.other.invariant c.join_from.new.self c.join_from.ensures.valid c.in-Err.field-0.rest c.in-Err.ensures.rest_valid c.in-Err.ensures.refused) _ (subst (λ n. c.self.inside.len + n ≤ _) c.count_changes-changes.ensures.added c.in-Ok.ensures.within)

pub invariant_of-result : goal.invariant_of-result
invariant_of-result c = within_counted c.self.inside.scopes c.other.inside.scopes c.args.self.now c.args.other c.self.inside.len c.other.inside.len c.self.inside.high c.other.inside.high c.self.view_is c.other.view_is c.self.invariant c.other.invariant c.in-Err.field-0.rest c.in-Err.ensures.rest_valid (rest_within c.self.inside.scopes c.other.inside.scopes c.args.self.now c.args.other c.self.inside.len c.other.inside.len c.self.inside.high c.other.inside.high c.self.view_is c.other.view_is c.self.invariant c.other.invariant c.join_from.new.self c.join_from.ensures.valid c.in-Err.field-0.rest c.in-Err.ensures.rest_valid c.in-Err.ensures.refused) c.count_entries-len.result.len c.count_entries-len.result.high c.count_entries-len.ensures.len c.count_entries-len.ensures.high c.count_entries-len.ensures.within

pub invariant_of-self-in-Err : goal.invariant_of-self-in-Err
invariant_of-self-in-Err c = within_counted c.self.inside.scopes c.other.inside.scopes c.args.self.now c.args.other c.self.inside.len c.other.inside.len c.self.inside.high c.other.inside.high c.self.view_is c.other.view_is c.self.invariant c.other.invariant c.join_from.new.self c.join_from.ensures.valid (part_within c.self.inside.scopes c.other.inside.scopes c.args.self.now c.args.other c.self.inside.len c.other.inside.len c.self.inside.high c.other.inside.high c.self.view_is c.other.view_is c.self.invariant c.other.invariant c.join_from.new.self c.join_from.ensures.valid (partly c.self.inside.scopes c.other.inside.scopes c.args.self.now c.args.other c.self.inside.len c.other.inside.len c.self.inside.high c.other.inside.high c.self.view_is c.other.view_is c.self.invariant c.other.invariant c.join_from.new.self c.join_from.ensures.valid c.in-Err.field-0.rest c.in-Err.ensures.rest_valid c.in-Err.ensures.refused)) c.count_entries-counts.result.len c.count_entries-counts.result.high c.count_entries-counts.ensures.len c.count_entries-counts.ensures.high c.count_entries-counts.ensures.within

pub returns-in-Ok-join_from-clause-ok : goal.returns-in-Ok-join_from-clause-ok
returns-in-Ok-join_from-clause-ok c = merged c.self.inside.scopes c.other.inside.scopes c.args.self.now c.args.other c.self.inside.len c.other.inside.len c.self.inside.high c.other.inside.high c.self.view_is c.other.view_is c.self.invariant c.other.invariant c.join_from.new.self c.join_from.ensures.valid c.in-Ok-join_from.ensures.ok

pub returns-in-Ok-join_from-clause-changed : goal.returns-in-Ok-join_from-clause-changed
returns-in-Ok-join_from-clause-changed c = merged_changes c.self.inside.scopes c.other.inside.scopes c.args.self.now c.args.other c.self.inside.len c.other.inside.len c.self.inside.high c.other.inside.high c.self.view_is c.other.view_is c.self.invariant c.other.invariant c.join_from.new.self c.join_from.ensures.valid c.in-Ok-join_from.ensures.ok c.count_changes-changes.result.changed c.count_changes-changes.ensures.changed

pub returns-in-Err-clause-kept : goal.returns-in-Err-clause-kept
returns-in-Err-clause-kept c = part_kept c.self.inside.scopes c.other.inside.scopes c.args.self.now c.args.other c.self.inside.len c.other.inside.len c.self.inside.high c.other.inside.high c.self.view_is c.other.view_is c.self.invariant c.other.invariant c.join_from.new.self c.join_from.ensures.valid (partly c.self.inside.scopes c.other.inside.scopes c.args.self.now c.args.other c.self.inside.len c.other.inside.len c.self.inside.high c.other.inside.high c.self.view_is c.other.view_is c.self.invariant c.other.invariant c.join_from.new.self c.join_from.ensures.valid c.in-Err.field-0.rest c.in-Err.ensures.rest_valid c.in-Err.ensures.refused)

pub returns-in-Err-clause-within : goal.returns-in-Err-clause-within
returns-in-Err-clause-within c = part_within c.self.inside.scopes c.other.inside.scopes c.args.self.now c.args.other c.self.inside.len c.other.inside.len c.self.inside.high c.other.inside.high c.self.view_is c.other.view_is c.self.invariant c.other.invariant c.join_from.new.self c.join_from.ensures.valid (partly c.self.inside.scopes c.other.inside.scopes c.args.self.now c.args.other c.self.inside.len c.other.inside.len c.self.inside.high c.other.inside.high c.self.view_is c.other.view_is c.self.invariant c.other.invariant c.join_from.new.self c.join_from.ensures.valid c.in-Err.field-0.rest c.in-Err.ensures.rest_valid c.in-Err.ensures.refused)

pub returns-in-Err-clause-rest : goal.returns-in-Err-clause-rest
returns-in-Err-clause-rest c = rest_joined c.self.inside.scopes c.other.inside.scopes c.args.self.now c.args.other c.self.inside.len c.other.inside.len c.self.inside.high c.other.inside.high c.self.view_is c.other.view_is c.self.invariant c.other.invariant c.join_from.new.self c.join_from.ensures.valid c.in-Err.field-0.rest c.in-Err.ensures.rest_valid c.in-Err.ensures.refused

pub returns-then-changes-eq0-clause-ok : goal.returns-then-changes-eq0-clause-ok
returns-then-changes-eq0-clause-ok c = join_known c.args.self.now c.args.other (sym c.count_changes-changes.ensures.changed ∙ c.if-changes-eq0.true)

pub returns-then-changes-eq0-clause-changed : goal.returns-then-changes-eq0-clause-changed
returns-then-changes-eq0-clause-changed c = sym (nothing_changed c.args.self.now)

pub returns-in-Err-clause-single : goal.returns-in-Err-clause-single
returns-in-Err-clause-single c = λ one.
    ap all_held (c.in-Err.ensures.single (single_scopes c.other.inside.scopes c.args.other c.other.view_is c.other.invariant.scopes one)) ∙ c.self.view_is
