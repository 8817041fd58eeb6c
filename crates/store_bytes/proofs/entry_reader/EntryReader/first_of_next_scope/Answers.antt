use Rattle.std.proofs.Common.{◌≡◌, ◌<◌, ◌-◌, Some, None, Ok, sym, ap, subst, ◌∙◌, arith}
use Rattle.std.proofs.lemmas.Result.{err_from_is_err_and}
use Rattle.byte_fields.specs.Reading.{Fails}
use Rattle.load_path.specs.Paths.{PathParts}
use Rattle.load_places.specs.declared.places.Scope.{Scope}
use Rattle.path_maps.specs.Scopes.{within}
use Rattle.store_bytes.specs.Streams.{entries_to_come, EntriesLeft, scope_head_at, with_first}
use Rattle.store_bytes.proofs.Steps.{entry_comes, entry_fails, scope_entered, scope_not_entered}
use Rattle.store_bytes.proofs.entry_reader.EntryReader.first_of_next_scope.Goals as goal

pub returns-in_err-head-clause-fault : goal.returns-in_err-head-clause-fault
returns-in_err-head-clause-fault c =
    let p = err_from_is_err_and c.from_residual.result c.from_residual.ensures.1 in
    let left = c.self.inside in
    let some : 0 < left.scopes = subst (λ (l : EntriesLeft). 0 < l.scopes) (sym c.self.view_is) c.requires.some in
    let none : 0 ≡ left.entries = sym (ap (λ (l : EntriesLeft). l.entries) c.self.view_is ∙ c.requires.none) in
    let read : Fails c.in_err-head.field-0.0 (scope_head_at left.scope left.rest.now) = rw c.as_ref.ensures.value at c.in_err-head.ensures.read in
    let fails : Fails c.in_err-head.field-0.0 (entries_to_come (record { scopes = left.scopes; scope = left.scope; entries = left.entries; path = left.path; rest = left.rest.now })) =
    subst (λ n. Fails c.in_err-head.field-0.0 (entries_to_come (record { scopes = left.scopes; scope = left.scope; entries = n; path = left.path; rest = left.rest.now }))) none
    (scope_not_entered left.scopes left.scope left.path left.rest.now c.in_err-head.field-0.0 some read) in
    rw (p.1, p.2) (subst (λ l. Fails c.in_err-head.field-0.0 (entries_to_come l)) c.self.view_is fails)

pub returns-in_err-pair-clause-fault : goal.returns-in_err-pair-clause-fault
returns-in_err-pair-clause-fault c =
    let p = err_from_is_err_and c.from_residual-in_err-pair.result c.from_residual-in_err-pair.ensures.1 in
    let left = c.self.inside in
    let some : 0 < left.scopes = subst (λ (l : EntriesLeft). 0 < l.scopes) (sym c.self.view_is) c.requires.some in
    let none : 0 ≡ left.entries = sym (ap (λ (l : EntriesLeft). l.entries) c.self.view_is ∙ c.requires.none) in
    let s = c.in_ok-head.head.0 in
    let n = c.in_ok-head.head.1 in
    let inner = c.in_ok-head.inner.now in
    let read : scope_head_at left.scope left.rest.now ≡ Ok ((s, n), inner) = rw c.as_ref.ensures.value at c.in_ok-head.ensures.read in
    let entered = scope_entered left.scopes left.scope left.path left.rest.now s n inner some read in
    let fails = entry_fails (left.scopes - 1) (Some s) n None inner c.in_err-pair.field-0.0 entered.some c.in_err-pair.ensures.read in
    let before = subst (λ l. Fails c.in_err-pair.field-0.0 l) (sym entered.same) fails in
    let whole : Fails c.in_err-pair.field-0.0 (entries_to_come (record { scopes = left.scopes; scope = left.scope; entries = left.entries; path = left.path; rest = left.rest.now })) =
    subst (λ k. Fails c.in_err-pair.field-0.0 (entries_to_come (record { scopes = left.scopes; scope = left.scope; entries = k; path = left.path; rest = left.rest.now }))) none before in
    rw (p.1, p.2) (subst (λ l. Fails c.in_err-pair.field-0.0 (entries_to_come l)) c.self.view_is whole)

pub overflow_sub-self-2 : goal.overflow_sub-self-2
overflow_sub-self-2 c =
    let left = c.self.inside in
    let some : 0 < left.scopes = subst (λ (l : EntriesLeft). 0 < l.scopes) (sym c.self.view_is) c.requires.some in
    let read : scope_head_at left.scope left.rest.now ≡ Ok ((c.in_ok-head.head.0, c.in_ok-head.head.1), c.in_ok-head.inner.now) = rw c.as_ref.ensures.value at c.in_ok-head.ensures.read in
    let entered = scope_entered left.scopes left.scope left.path left.rest.now c.in_ok-head.head.0 c.in_ok-head.head.1 c.in_ok-head.inner.now some read in
    let filled = entered.some in
    omega (arith, filled)

pub returns-clause-next : goal.returns-clause-next
returns-clause-next c =
    let left = c.self.inside in
    let some : 0 < left.scopes = subst (λ (l : EntriesLeft). 0 < l.scopes) (sym c.self.view_is) c.requires.some in
    let none : left.entries ≡ 0 = ap (λ (l : EntriesLeft). l.entries) c.self.view_is ∙ c.requires.none in
    let s = c.in_ok-head.head.0 in
    let n = c.in_ok-head.head.1 in
    let inner = c.in_ok-head.inner.now in
    let p = c.in_ok-pair.pair in
    let rest = c.in_ok-pair.rest.now in
    let read : scope_head_at left.scope left.rest.now ≡ Ok ((s, n), inner) = rw c.as_ref.ensures.value at c.in_ok-head.ensures.read in
    let entered = scope_entered left.scopes left.scope left.path left.rest.now s n inner some read in
    ap entries_to_come (sym c.self.view_is)
    ∙ ap (λ k. entries_to_come (record { scopes = left.scopes; scope = left.scope; entries = k; path = left.path; rest = left.rest.now })) none
    ∙ entered.same
    ∙ entry_comes (left.scopes - 1) (Some s) n None inner p rest entered.some c.in_ok-pair.ensures.read
    ∙ ap (λ (t : Scope). with_first (within s p.0, p.1) (entries_to_come (record { scopes = left.scopes - 1; scope = Some t; entries = n - 1; path = Some p.0; rest = rest }))) (sym c.in_ok-last_scope.ensures.copy)
    ∙ ap (λ (q : PathParts). with_first (within s p.0, p.1) (entries_to_come (record { scopes = left.scopes - 1; scope = Some c.in_ok-last_scope.last_scope; entries = n - 1; path = Some q; rest = rest }))) (sym c.in_ok-last.ensures.copy)
