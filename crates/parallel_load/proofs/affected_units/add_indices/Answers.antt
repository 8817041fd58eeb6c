use Rattle.std.proofs.Common.{◌+◌, ◌<◌}
use Rattle.parallel_load.proofs.Prelude.{ap, AreNoted, arith, EndsWith, GrowsWithin, length, List, Name, NameLoad, subst, sym, true≢false, ℕ, ◌∙◌}
use Rattle.parallel_load.proofs.{affected_units.add_indices.Goals.{else-ends_with, then-ends_with+in_ok-add_if_affected}, Seeking.{grown_by, grown_not, none_noted, noted_more}}
use Rattle.parallel_load.proofs.affected_units.add_indices.Goals as goal

pub loop-index-init : goal.loop-index-init
loop-index-init c = (grown_not (length c.args.names.now) c.args.affected.now.items, none_noted c.args.names.now c.args.affected.now.items c.args.part.now c.args.ending.now c.args.indices.start)

pub loop-index-preserved : goal.loop-index-preserved
loop-index-preserved c =
    let names : List (Name × NameLoad) = c.args.names.now in
    let limit = length names in
    let i = c.loop-index.index in
    let x : Name × NameLoad = c.index-names-index.result in
    let old : List ℕ = c.loop-index.affected.items in
    let within : i < length names = omega (arith, c.loop-index-test.true, c.requires.within) in
    let P : List ℕ → Type 0 = λ new. GrowsWithin limit c.args.affected.now.items new × AreNoted names new c.args.part.now c.args.ending.now c.args.indices.start (i + 1) in
    elim c.if-ends_with.branch [
      | then-ends_with+in_ok-add_if_affected w ↦
          subst P (sym (ap (λ v. v.items) w.affected-is)) (
            grown_by limit c.args.affected.now.items old w.add_if_affected.new.affected.items c.loop-index.invariant.0 w.in_ok-add_if_affected.ensures.grows,
            noted_more limit names old w.add_if_affected.new.affected.items c.args.part.now c.args.ending.now c.args.indices.start i x w.in_ok-add_if_affected.ensures.grows c.loop-index.invariant.1 within
                c.index-names-index.is (λ e. w.in_ok-add_if_affected.ensures.noted),
          )
      | else-ends_with w ↦
          subst P (sym (ap (λ v. v.items) w.affected-is)) (
            c.loop-index.invariant.0,
            noted_more limit names old old c.args.part.now c.args.ending.now c.args.indices.start i x (grown_not limit old) c.loop-index.invariant.1 within
                c.index-names-index.is
                (λ e. absurd (true≢false (sym (c.ends_with.ensures.ends.1 (subst (λ (q : Name × NameLoad). EndsWith c.args.ending.now q.0) c.index-names-index.is e)) ∙ w.if-ends_with.false))),
          )
    ]

pub returns-clause-grows : goal.returns-clause-grows
returns-clause-grows c = c.loop-index.invariant.0

pub returns-clause-affected : goal.returns-clause-affected
returns-clause-affected c = λ i d l m e p h. c.loop-index.invariant.1 i d l (omega (arith, m, c.loop-index-test.false)) e p h
