use Rattle.std.proofs.Common.{◌↔◌, ◌≡◌, ◌≢◌}
use Rattle.path_maps.proofs.Prelude.{ap, differing, IfOk-weaker, IsAmong, IsOk, IsStrictlySortedBy, List, place_cmp, PlaceParts, subst, sym, together, visible_at, ◌∙◌}
use Rattle.path_maps.proofs.{Differing.{changed_ascends, changed_exact, changed_in, nothing_changed}, DifferingZipped.{nothing_zipped, zipped_ascends, zipped_exact}}
use Rattle.path_maps.proofs.stores.Store.changed.Goals as goal

pub returns-clause-ascending : goal.returns-clause-ascending
returns-clause-ascending c =
    let all : differing c.of.result ≡ changed_in c.args.self.now c.args.older.now =
    ap differing (c.of.ensures.shown ∙ (λ i. together (c.entries.ensures.entries i) (c.entries-2.ensures.entries i))) in
    IfOk-weaker c.differing.result (λ places. places.items ≡ differing c.of.result) (λ places. IsStrictlySortedBy place_cmp places.items)
    (λ places e. subst (λ (ps : List PlaceParts). IsStrictlySortedBy place_cmp ps) (sym (e ∙ all))
    (changed_ascends c.args.self.now c.args.older.now))
    c.differing.ensures.places

pub returns-clause-exact : goal.returns-clause-exact
returns-clause-exact c =
    let all : differing c.of.result ≡ changed_in c.args.self.now c.args.older.now =
    ap differing (c.of.ensures.shown ∙ (λ i. together (c.entries.ensures.entries i) (c.entries-2.ensures.entries i))) in
    IfOk-weaker c.differing.result (λ places. places.items ≡ differing c.of.result)
    (λ places. (p : PlaceParts) → IsAmong p places.items ↔ (visible_at c.args.self.now p ≢ visible_at c.args.older.now p))
    (λ places e p. subst (λ (ps : List PlaceParts). IsAmong p ps ↔ (visible_at c.args.self.now p ≢ visible_at c.args.older.now p))
    (sym (e ∙ all)) (changed_exact c.args.self.now c.args.older.now p))
    c.differing.ensures.places

pub returns-clause-without_memory : goal.returns-clause-without_memory
returns-clause-without_memory c same =
    let all : differing c.of.result ≡ changed_in c.args.self.now c.args.older.now =
    ap differing (c.of.ensures.shown ∙ (λ i. together (c.entries.ensures.entries i) (c.entries-2.ensures.entries i))) in
    c.differing.ensures.without_memory (all ∙ nothing_changed c.args.self.now c.args.older.now same)

pub returns-in_err-found-clause-without_memory : goal.returns-in_err-found-clause-without_memory
returns-in_err-found-clause-without_memory c same =
    let there = c.find_unlike.ensures.without_memory (nothing_zipped c.args.self.now c.args.older.now same) in
    let wrong = subst (λ r. IsOk r) c.in_err-found.was there in cc (wrong)

pub returns-then-has_all_of-clause-ascending : goal.returns-then-has_all_of-clause-ascending
returns-then-has_all_of-clause-ascending c =
    subst (λ (ps : List PlaceParts). IsStrictlySortedBy place_cmp ps) (sym c.in_ok-found.ensures.places)
    (zipped_ascends c.args.self.now c.args.older.now (c.has_all_of.ensures.all c.if-has_all_of.true))

pub returns-then-has_all_of-clause-exact : goal.returns-then-has_all_of-clause-exact
returns-then-has_all_of-clause-exact c p =
    subst (λ (ps : List PlaceParts). IsAmong p ps ↔ (visible_at c.args.self.now p ≢ visible_at c.args.older.now p))
    (sym c.in_ok-found.ensures.places) (zipped_exact c.args.self.now c.args.older.now (c.has_all_of.ensures.all c.if-has_all_of.true) p)
