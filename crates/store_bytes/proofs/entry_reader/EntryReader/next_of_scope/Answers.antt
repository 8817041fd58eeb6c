use Rattle.std.proofs.Common.{◌≡◌, ◌<◌, ◌-◌, ◌*◌, ◌^◌, Some, Ok, sym, ap, subst, ◌∙◌}
use Rattle.std.proofs.lemmas.Result.{err_from_is_err_and}
use Rattle.byte_fields.specs.Reading.{Fails}
use Rattle.load_path.specs.Paths.{path_cmp, PathParts}
use Rattle.load_places.specs.declared.places.Scope.{Scope}
use Rattle.path_maps.specs.Scopes.{within}
use Rattle.store_bytes.specs.ListReading.{pair_above_at}
use Rattle.store_bytes.specs.Reading.{entry_at, path_at}
use Rattle.store_bytes.specs.Streams.{entries_to_come, EntriesLeft, most_left, scope_or_fleet, with_first}
use Rattle.store_bytes.proofs.Steps.{entry_comes, entry_fails, one_entry_less}
use Rattle.store_bytes.proofs.entry_reader.EntryReader.next_of_scope.Goals as goal

pub returns-in_err-pair-clause-fault : goal.returns-in_err-pair-clause-fault
returns-in_err-pair-clause-fault c =
    let p = err_from_is_err_and c.from_residual.result c.from_residual.ensures.1 in
    let left = c.self.inside in
    let some : 0 < left.entries = subst (λ (l : EntriesLeft). 0 < l.entries) (sym c.self.view_is) c.requires.some in
    let read : Fails c.in_err-pair.field-0.0 (pair_above_at path_cmp path_at entry_at left.path left.rest.now) = rw c.as_ref.ensures.value at c.in_err-pair.ensures.read in
    rw (p.1, p.2) (subst (λ l. Fails c.in_err-pair.field-0.0 (entries_to_come l)) c.self.view_is (entry_fails left.scopes left.scope left.entries left.path left.rest.now c.in_err-pair.field-0.0 some read))

pub returns-clause-next : goal.returns-clause-next
returns-clause-next c =
    let left = c.self.inside in
    let some : 0 < left.entries = subst (λ (l : EntriesLeft). 0 < l.entries) (sym c.self.view_is) c.requires.some in
    let p = c.in_ok-pair.pair in
    let rest = c.in_ok-pair.rest.now in
    let read : pair_above_at path_cmp path_at entry_at left.path left.rest.now ≡ Ok (p, rest) = rw c.as_ref.ensures.value at c.in_ok-pair.ensures.read in
    let copy : c.in_ok-scope.scope ≡ scope_or_fleet left.scope = rw c.as_ref-2.ensures.value at c.in_ok-scope.ensures.copy in
    ap entries_to_come (sym c.self.view_is)
    ∙ entry_comes left.scopes left.scope left.entries left.path left.rest.now p rest some read
    ∙ ap (λ (s : Scope). with_first (within s p.0, p.1) (entries_to_come (record { scopes = left.scopes; scope = left.scope; entries = left.entries - 1; path = Some p.0; rest = rest }))) (sym copy)
    ∙ ap (λ (q : PathParts). with_first (within c.in_ok-scope.scope p.0, p.1) (entries_to_come (record { scopes = left.scopes; scope = left.scope; entries = left.entries - 1; path = Some q; rest = rest }))) (sym c.in_ok-last.ensures.copy)

pub returns-clause-fewer : goal.returns-clause-fewer
returns-clause-fewer c =
    let left = c.self.inside in
    let some : 0 < left.entries = subst (λ (l : EntriesLeft). 0 < l.entries) (sym c.self.view_is) c.requires.some in
    subst (λ (l : EntriesLeft). most_left (record { scopes = left.scopes; scope = left.scope; entries = left.entries - 1; path = Some c.in_ok-last.last; rest = c.in_ok-pair.rest.now }) < most_left l) c.self.view_is
    (one_entry_less (left.scopes * 2 ^ 64) left.entries some)
