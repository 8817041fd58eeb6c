use Rattle.std.proofs.Common.{◌+◌, ◌<◌}
use Rattle.parallel_load.proofs.Prelude.{ap, AreOwnersNoted, arith, EndsWith, GrowsWithin, IsNoted, length, List, Name, NameLoad, subst, sym, true≢false, ℕ, ◌∙◌}
use Rattle.parallel_load.proofs.{affected_units.add_owners.Goals.{else-ends_with, then-ends_with+in_ok-add_if_affected}, Seeking.{grown_by, grown_not, no_owners_noted, owners_noted_more}}
use Rattle.parallel_load.proofs.affected_units.add_owners.Goals as goal

pub loop-place-init : goal.loop-place-init
loop-place-init c = (grown_not (length c.args.names.now) c.args.affected.now.items, no_owners_noted c.args.names.now c.args.second.now c.args.affected.now.items c.args.part.now c.args.ending.now c.args.places.start)

pub add_if_affected-requires : goal.add_if_affected-requires
add_if_affected-requires c = record { within = c.requires.owners c.loop-place.place c.index-second-place-then-ends_with.result (omega (arith, c.loop-place-test.true, c.requires.within)) }

pub loop-place-preserved : goal.loop-place-preserved
loop-place-preserved c =
    let names : List (Name × NameLoad) = c.args.names.now in
    let second : List (Name × ℕ) = c.args.second.now in
    let limit = length names in
    let k = c.loop-place.place in
    let x : Name × ℕ = c.index-second-place.result in
    let old : List ℕ = c.loop-place.affected.items in
    let within : k < length second = omega (arith, c.loop-place-test.true, c.requires.within) in
    let P : List ℕ → Type 0 = λ new. GrowsWithin limit c.args.affected.now.items new × AreOwnersNoted names second new c.args.part.now c.args.ending.now c.args.places.start (k + 1) in
    elim c.if-ends_with.branch [
      | then-ends_with+in_ok-add_if_affected w ↦
          let y : Name × ℕ = w.index-second-place-then-ends_with.result in
          subst P (sym (ap (λ v. v.items) w.affected-is)) (
            grown_by limit c.args.affected.now.items old w.add_if_affected.new.affected.items c.loop-place.invariant.0 w.in_ok-add_if_affected.ensures.grows,
            owners_noted_more limit names second old w.add_if_affected.new.affected.items c.args.part.now c.args.ending.now c.args.places.start k y w.in_ok-add_if_affected.ensures.grows c.loop-place.invariant.1 within
                w.index-second-place-then-ends_with.is
                (λ e. subst (λ (q : Name × ℕ). IsNoted names w.add_if_affected.new.affected.items c.args.part.now q.1) (sym w.index-second-place-then-ends_with.is) w.in_ok-add_if_affected.ensures.noted),
          )
      | else-ends_with w ↦
          subst P (sym (ap (λ v. v.items) w.affected-is)) (
            c.loop-place.invariant.0,
            owners_noted_more limit names second old old c.args.part.now c.args.ending.now c.args.places.start k x (grown_not limit old) c.loop-place.invariant.1 within
                c.index-second-place.is
                (λ e. absurd (true≢false (sym (c.ends_with.ensures.ends.1 (subst (λ (q : Name × ℕ). EndsWith c.args.ending.now q.0) c.index-second-place.is e)) ∙ w.if-ends_with.false))),
          )
    ]

pub returns-clause-grows : goal.returns-clause-grows
returns-clause-grows c = c.loop-place.invariant.0

pub returns-clause-affected : goal.returns-clause-affected
returns-clause-affected c = λ k d l m e p h. c.loop-place.invariant.1 k d l (omega (arith, m, c.loop-place-test.false)) e p h
