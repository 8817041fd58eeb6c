use Rattle.std.proofs.Common.{◌≡◌, ℕ, ◌<◌, eqb, false, true, length, ◌-◌, Some, Ok, sym, ap, subst, ◌∙◌, arith}
use Rattle.std.proofs.lemmas.Bool.{cond-true, cond-false}
use Rattle.std.proofs.lemmas.Result.{err_from_is_err_and}
use Rattle.byte_fields.specs.Reading.{Fails}
use Rattle.load_places.specs.Places.{place_cmp}
use Rattle.store_bytes.specs.ListReading.{pair_above_at}
use Rattle.store_bytes.specs.Reading.{place_at, version_at}
use Rattle.store_bytes.specs.Streams.{versions_to_come, with_first}
use Rattle.store_bytes.proofs.Steps.{no_version_left, version_comes, version_fails}
use Rattle.store_bytes.proofs.version_reader.VersionReader.next.Goals as goal

pub returns-then-not-is_empty-clause-fault : goal.returns-then-not-is_empty-clause-fault
returns-then-not-is_empty-clause-fault c =
    let some : eqb (length c.self.inside.rest.now) 0 ≡ false = sym c.is_empty.ensures ∙ c.if-not-is_empty.true in
    let none : c.self.inside.count ≡ 0 = c.if-self-eq0.true in
    ap versions_to_come (sym c.self.view_is)
    ∙ ap (λ (n : ℕ). versions_to_come (record { count = n; last = c.self.inside.last; rest = c.self.inside.rest.now })) none
    ∙ no_version_left c.self.inside.last c.self.inside.rest.now
    ∙ cond-false _ _ _ some

pub returns-then-self-eq0-clause-next : goal.returns-then-self-eq0-clause-next
returns-then-self-eq0-clause-next c =
    let empty : eqb (length c.self.inside.rest.now) 0 ≡ true = sym c.is_empty.ensures ∙ c.if-not-is_empty.false in
    let none : c.self.inside.count ≡ 0 = c.if-self-eq0.true in
    ap versions_to_come (sym c.self.view_is)
    ∙ ap (λ (n : ℕ). versions_to_come (record { count = n; last = c.self.inside.last; rest = c.self.inside.rest.now })) none
    ∙ no_version_left c.self.inside.last c.self.inside.rest.now
    ∙ cond-true _ _ _ empty

pub returns-in_err-pair-clause-fault : goal.returns-in_err-pair-clause-fault
returns-in_err-pair-clause-fault c =
    let p = err_from_is_err_and c.from_residual.result c.from_residual.ensures.1 in
    let some : 0 < c.self.inside.count = omega arith in
    let read : Fails c.in_err-pair.field-0.0 (pair_above_at place_cmp place_at version_at c.self.inside.last c.self.inside.rest.now) = rw c.as_ref.ensures.value at c.in_err-pair.ensures.read in
    rw (p.1, p.2) (subst (λ l. Fails c.in_err-pair.field-0.0 (versions_to_come l)) c.self.view_is (version_fails c.self.inside.count c.self.inside.last c.self.inside.rest.now c.in_err-pair.field-0.0 some read))

pub returns-clause-next : goal.returns-clause-next
returns-clause-next c =
    let some : 0 < c.self.inside.count = omega arith in
    let p = c.in_ok-pair.pair in
    let rest = c.in_ok-pair.rest.now in
    let read : pair_above_at place_cmp place_at version_at c.self.inside.last c.self.inside.rest.now ≡ Ok (p, rest) = rw c.as_ref.ensures.value at c.in_ok-pair.ensures.read in
    ap versions_to_come (sym c.self.view_is)
    ∙ version_comes c.self.inside.count c.self.inside.last c.self.inside.rest.now p rest some read
    ∙ ap (λ q. with_first p (versions_to_come (record { count = c.self.inside.count - 1; last = Some q; rest = rest }))) (sym c.in_ok-last.ensures.copy)
