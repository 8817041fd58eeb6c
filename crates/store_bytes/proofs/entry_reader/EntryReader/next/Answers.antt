use Rattle.std.proofs.Common.{◌≡◌, eqb, false, true, length, sym, ap, ◌∙◌, arith}
use Rattle.std.proofs.lemmas.Bool.{cond-true, cond-false}
use Rattle.store_bytes.specs.Streams.{entries_to_come}
use Rattle.store_bytes.proofs.Steps.{no_entry_left}
use Rattle.store_bytes.proofs.entry_reader.EntryReader.next.Goals as goal

pub returns-then-not-is_empty-clause-fault : goal.returns-then-not-is_empty-clause-fault
returns-then-not-is_empty-clause-fault c =
    let left = c.self.inside in
    let some : eqb (length left.rest.now) 0 ≡ false = sym c.is_empty.ensures ∙ c.if-not-is_empty.true in
    let entries : left.entries ≡ 0 = omega arith in
    let scopes : left.scopes ≡ 0 = omega arith in
    ap entries_to_come (sym c.self.view_is)
    ∙ ap (λ k. entries_to_come (record { scopes = left.scopes; scope = left.scope; entries = k; path = left.path; rest = left.rest.now })) entries
    ∙ ap (λ k. entries_to_come (record { scopes = k; scope = left.scope; entries = 0; path = left.path; rest = left.rest.now })) scopes
    ∙ no_entry_left left.scope left.path left.rest.now
    ∙ cond-false _ _ _ some

pub returns-clause-next : goal.returns-clause-next
returns-clause-next c =
    let left = c.self.inside in
    let empty : eqb (length left.rest.now) 0 ≡ true = sym c.is_empty.ensures ∙ c.if-not-is_empty.false in
    let entries : left.entries ≡ 0 = omega arith in
    let scopes : left.scopes ≡ 0 = omega arith in
    ap entries_to_come (sym c.self.view_is)
    ∙ ap (λ k. entries_to_come (record { scopes = left.scopes; scope = left.scope; entries = k; path = left.path; rest = left.rest.now })) entries
    ∙ ap (λ k. entries_to_come (record { scopes = k; scope = left.scope; entries = 0; path = left.path; rest = left.rest.now })) scopes
    ∙ no_entry_left left.scope left.path left.rest.now
    ∙ cond-true _ _ _ empty
