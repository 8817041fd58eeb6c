use Rattle.std.proofs.Common.{◌<◌, ◌↔◌, ◌≡◌}
use Rattle.plan_choice.proofs.Prelude.{All, ap, AreBitsOf, Bool, case_of, count_of, IndexedCase, IsAmong, IsChosen, IsClosure, IsMember, IsReached, IsStoppedByConflict, IsStrictlySortedBy, LeadsInside, length, List, Listed, nat_cmp, subst, sym, TakesAlong, ℕ, ◌∙◌}
use Rattle.plan_choice.proofs.{Fitting.{all_places}, PlanLemmas.{stopped_is}}
use Rattle.plan_choice.proofs.case_sets.CaseSets.stops.Goals as goal

pub reached_inside-requires-clause-sources : goal.reached_inside-requires-clause-sources
reached_inside-requires-clause-sources c =
    let case = c.self.inside.case.now in
    let len : List Bool → ℕ = λ l. length l in
    let outside : length c.deref-8.result.now ≡ count_of case = ap len c.deref-8.ensures.value ∙ c.in_ok-outside.ensures.units ∙ ap len c.deref-2.ensures.value ∙ c.in_ok-unchosen.ensures.units ∙ ap len c.deref.ensures.value ∙ case.valid_running in
    let counting : length c.deref-7.result.now ≡ count_of case = ap len c.deref-7.ensures.value ∙ c.in_ok-counting.ensures.units ∙ c.requires.units ∙ sym (ap count_of c.self.view_is) in
    let P : ℕ → Type 0 = λ n. All (λ v. v < n) c.deref-9.result.now in
    let Q : List ℕ → Type 0 = λ l. All (λ v. v < length c.deref-7.result.now) l in
    subst P (counting ∙ sym outside) (subst Q (sym c.deref-9.ensures.value) (all_places (λ v. v < length c.deref-7.result.now) _ c.in_ok-stopped_by_conflict.ensures.below))

-- the reached members, listed
listed : (S : ℕ → Type 0) (L : ℕ → ℕ → Type 0) (bits read : List Bool) (nodes : List ℕ) → read ≡ bits → ((v : ℕ) → IsMember bits v ↔ IsReached S L v)
    → IsStrictlySortedBy nat_cmp nodes → ((v : ℕ) → IsAmong v nodes ↔ IsMember read v) → IsClosure S L nat_cmp nodes
listed S L bits read nodes same reached ascending members =
    let P : List Bool → Type 0 = λ l. (v : ℕ) → IsAmong v nodes ↔ IsMember l v in
    let m = subst P same members in
    record { ascending = ascending; members = λ v. (λ h. (reached v).0 ((m v).0 h), λ r. (m v).1 ((reached v).1 r)) }

pub returns : goal.returns
returns c =
    let case = c.self.inside.case.now in
    let chosen = subst (λ (adjacency : IndexedCase). AreBitsOf (count_of adjacency) (IsChosen nat_cmp (case_of adjacency)) c.args.chosen.now) (sym c.self.view_is) c.requires in
    let kept = rw c.deref.ensures.value at c.in_ok-unchosen.ensures.left in
    let left = rw (c.deref-2.ensures.value, c.deref-3.ensures.value) at c.in_ok-outside.ensures.left in
    let over = rw c.deref-4.ensures.value at c.in_ok-passed_over.ensures.others in
    let counts = rw c.deref-5.ensures.value at c.in_ok-counting.ensures.left in
    let stopped_by_conflict = rw (c.deref-6.ensures.value, c.deref-7.ensures.value) at c.in_ok-stopped_by_conflict.ensures.members in
    let reached = rw (c.deref-8.ensures.value, c.deref-9.ensures.value) at c.in_ok-stopped.ensures.reached in
    let here = stopped_is case c.args.chosen.now chosen c.in_ok-unchosen.unchosen.items c.in_ok-outside.outside.items kept left c.self.inside.going.items c.in_ok-passed_over.passed_over.items c.in_ok-counting.counting.items
    c.self.invariant.at_going over counts c.self.inside.conflicting c.in_ok-stopped_by_conflict.stopped_by_conflict.items c.in_ok-members_of.field-0.items c.self.invariant.to_conflicting stopped_by_conflict
    (listed (Listed c.in_ok-stopped_by_conflict.stopped_by_conflict.items) (LeadsInside c.in_ok-outside.outside.items case.takes_along) c.in_ok-stopped.stopped.items c.deref-10.result.now c.in_ok-members_of.field-0.items c.deref-10.ensures.value reached
    c.in_ok-members_of.ensures.ascending c.in_ok-members_of.ensures.members) in
    subst (λ (adjacency : IndexedCase). IsClosure (IsStoppedByConflict nat_cmp (case_of adjacency)) (TakesAlong nat_cmp (case_of adjacency)) nat_cmp c.in_ok-members_of.field-0.items) c.self.view_is here
