use Rattle.std.proofs.Common.{◌≡◌}
use Rattle.join_maps.proofs.Prelude.{ap, find, is_none_or, None, refl, sym, ◌∙◌}
use Rattle.join_maps.proofs.HeldPairs.{found_nowhere, joined_to_least, least_joined}
use Rattle.join_maps.proofs.additions.AddAtAddition.join_to.Goals as goal

pub returns-in_err-made-clause-in_place : goal.returns-in_err-made-clause-in_place
returns-in_err-made-clause-in_place g c = λ in_place held.
    let none : find g.K.Ord.cmp c.args.self.key c.args.map.now ≡ None = found_nowhere g.K.Ord.cmp g.A.Value.Join.below g.A.Value.Join.is_valid g.met.K.Ord.total c.args.self.key c.args.map.now c.if-is_bottom.ensures.valid (c.if-is_bottom.ensures.least.0 refl) in
    let new = sym (ap (is_none_or (g.A.Addition.is_new c.args.self.addition)) none) ∙ held in
    cc (new)

pub returns-in_default-clause-ok : goal.returns-in_default-clause-ok
returns-in_default-clause-ok g c = least_joined _ _ _ (rw c.in_default.is at c.in_ok-made.ensures.none)

pub returns-then-is_bottom-clause-ok : goal.returns-then-is_bottom-clause-ok
returns-then-is_bottom-clause-ok g c =
    let value = rw c.in-Some.is at c.in_ok-made.ensures.value in
    rw (c.made.view_is, value)
    (joined_to_least _ _ _ (c.if-is_bottom.ensures.least.0 refl))

pub returns-then-is_bottom-clause-added : goal.returns-then-is_bottom-clause-added
returns-then-is_bottom-clause-added g c =
    let value = rw c.in-Some.is at c.in_ok-made.ensures.value in
    let held = rw c.in-Some.is at c.in_ok-made.ensures.held in
    let none : find g.K.Ord.cmp c.args.self.key c.args.map.now ≡ None = found_nowhere g.K.Ord.cmp g.A.Value.Join.below g.A.Value.Join.is_valid g.met.K.Ord.total c.args.self.key c.args.map.now c.if-is_bottom.ensures.valid (c.if-is_bottom.ensures.least.0 refl) in
    (λ _. (ap (is_none_or (g.A.Addition.is_new c.args.self.addition)) none, rw (sym value) held.not_least), λ _. refl)

pub returns-clause-added : goal.returns-clause-added
returns-clause-added g c = rw (← c.map.view_is) c.add_to_held.ensures.added

pub returns-clause-single : goal.returns-clause-single
returns-clause-single g c = rw (← c.map.view_is) c.add_to_held.ensures.single
