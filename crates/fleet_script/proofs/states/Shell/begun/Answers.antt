use Rattle.std.proofs.Common.{◌++◌, ◌==◌, ◌∷◌}
use Rattle.fleet_script.proofs.{Beginnings.{holds_begun, is_written, no_key}, Goes.{key_updated}, Prelude.{[], ap, bytes_eq, cond, edits_of, EntryMap, List, Option, refl, Replicated, Some, true, ℕ, ◌∙◌}}
use Rattle.fleet_script.proofs.states.Shell.begun.Goals as goal

pub returns : goal.returns
returns c = record {
  begun = holds_begun _ c.args.name.now c.args.replica
      (c.in_ok-push.ensures.items ∙ ap (λ (ns : List Replicated). ns ++ c.new.result ∷ []) c.new-nodes.ensures.items ∙ ap (λ (n : Replicated). n ∷ []) c.new.ensures.given)
      (λ other. key_updated c.args.name.now c.in_ok-from_slice.field-0 other 0 0 _ _ c.in_ok-from_slice.ensures.copy refl ((c.in_ok-insert.ensures.updates).0 other) ∙ ap (λ (o : Option ℕ). cond (bytes_eq c.args.name.now other) (Some 0) o) (no_key c.new-numbers.result other c.new-numbers.ensures.empty))
      (λ n. c.in_ok-writers.ensures.writers n ∙ ap (λ w. cond (w == n) true (is_written n (edits_of c.store.result.now))) c.writer.ensures.writer ∙ ap (λ (s : EntryMap). cond (c.args.replica.writer == n) true (is_written n (edits_of s))) c.store.ensures.store)
      (λ other. no_key c.new-2.result other c.new-2.ensures.empty)
      refl;
}
