use Rattle.std.proofs.Common.{◌-◌}
use Rattle.path_maps.proofs.{Ascends.{additions_within}, DifferingZipped.{none_besides}, Prelude.{ap, arith, EntryMap, eqb-true, ◌∙◌}}
use Rattle.std.specs.FinMap as finmap
use Rattle.path_maps.proofs.stores.Store.has_all_of.Goals as goal

pub overflow_sub-result : goal.overflow_sub-result
overflow_sub-result c =
    let len = c.self.invariant.counted.counted ∙ ap (λ (m : EntryMap). finmap.len m) c.self.view_is in
    let added = c.requires.added in
    let most = additions_within c.args.older.now c.args.self.now in
    omega (arith, len, added, most)

pub returns : goal.returns
returns c = record {
  all = λ h.
      let len = c.self.invariant.counted.counted ∙ ap (λ (m : EntryMap). finmap.len m) c.self.view_is in
      let older_len = c.older.invariant.counted.counted ∙ ap (λ (m : EntryMap). finmap.len m) c.older.view_is in
      let added = c.requires.added in
      let most = additions_within c.args.older.now c.args.self.now in
      let left = eqb-true (c.self.inside.len - c.args.added) c.older.inside.len h in
      none_besides c.args.self.now c.args.older.now (omega (arith, len, older_len, added, most, left));
}
