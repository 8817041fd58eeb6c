use Rattle.fleet_answers.proofs.{Asked.{for_own_viewer}, Prelude.{[], Answer, ap, EntryMap, IsAnswer, IsCacheFor, IsReturned, IsSnapshotOf, Replicated, rules, subst, sym, ◌∙◌}, Returned.{answers, of_mapped, own_known}}
use Rattle.fleet_answers.proofs.tracked.TrackedReplica.answer.Goals as goal

pub found-requires-clause-cache : goal.found-requires-clause-cache
found-requires-clause-cache g c =
    let cache = c.self.inside.cache in
    let here : IsCacheFor c.store-store.result.now cache = subst (λ (s : EntryMap). IsCacheFor s cache) (sym c.store-store.ensures.store) c.self.invariant in
    search (rules, here)

pub invariant_of-self : goal.invariant_of-self
invariant_of-self g c =
    let made = for_own_viewer c.store-store.result.now c.viewer.result.now c.deref.result.now c.in-Ok-found.snapshot c.in-Ok-found.ensures.snapshot in
    c.returned.ensures.kept c.self.inside.replica.store
    (subst (λ (s : EntryMap). IsSnapshotOf s c.in-Ok-found.snapshot) c.store-store.ensures.store made)
    (subst (λ (s : EntryMap). IsCacheFor s c.found.new.self) c.store-store.ensures.store c.found.ensures.cache)

pub invariant_of-self-in-Err-TooManyUnits : goal.invariant_of-self-in-Err-TooManyUnits
invariant_of-self-in-Err-TooManyUnits g c = subst (λ (s : EntryMap). IsCacheFor s c.found.new.self) c.store-store.ensures.store c.found.ensures.cache

pub invariant_of-self-in-Err : goal.invariant_of-self-in-Err
invariant_of-self-in-Err g c = subst (λ (s : EntryMap). IsCacheFor s c.found.new.self) c.store-store.ensures.store c.found.ensures.cache

pub returned-requires-clause-known : goal.returned-requires-clause-known
returned-requires-clause-known g c =
    own_known c.store-store.result.now [] c.args.question.now c.in-Ok.names c.in-Some.names c.in-Some.is c.in-Ok.ensures.names c.deref.result.now
    c.deref.ensures.value c.viewer.result.now c.viewer.ensures.viewer c.in-Ok-found.snapshot c.in-Ok-found.ensures.snapshot

pub returns-in-Ok-found-clause-answer : goal.returns-in-Ok-found-clause-answer
returns-in-Ok-found-clause-answer g c =
    of_mapped (IsReturned c.in-Ok-found.snapshot c.args.question.now) (IsAnswer c.args.self.now.store [] c.args.question.now) _ c.returned.result c.map_err.result
    (λ answer returned. subst (λ (s : EntryMap). IsAnswer s [] c.args.question.now answer) (c.store-store.ensures.store ∙ ap (λ (r : Replicated). r.store) c.self.view_is)
    (answers c.store-store.result.now [] c.args.question.now c.in-Ok.names c.in-Some.names c.in-Some.is c.in-Ok.ensures.names c.deref.result.now
    c.deref.ensures.value c.viewer.result.now c.viewer.ensures.viewer c.in-Ok-found.snapshot c.in-Ok-found.ensures.snapshot c.in-Ok.ensures.template answer returned))
    c.map_err.ensures.cases c.map_err.ensures.variant c.returned.ensures.returned
