use Rattle.std.proofs.Common.{◌+◌, ◌≡◌}
use Rattle.parallel_load.proofs.Prelude.{AddsNames, ap, List, LoadedUnit, Name, NameLoad, refl, subst, sym, ℕ, ◌∙◌}
use Rattle.parallel_load.proofs.{secondary_names.pairs_of.Goals.{in-Unit+in_ok-add_others, in_default}, SecondaryNames.{alias_next, AreOfFirst, of_all, unit_next}}
use Rattle.parallel_load.proofs.secondary_names.pairs_of.Goals as goal

pub loop-index-preserved : goal.loop-index-preserved
loop-index-preserved c =
    let names : List (Name × NameLoad) = c.args.names.now in
    let i = c.loop-index.index in
    let x : Name × NameLoad = c.index-names-index.result in
    let P : List (Name × ℕ) → Type 0 = λ ps. AreOfFirst names (i + 1) ps in
    elim c.match-load.branch [
      | in-Unit+in_ok-add_others w ↦
          unit_next names i c.loop-index.pairs.items c.loop-index.invariant x c.loop-index-test.true c.index-names-index.is c.match-load.pairs.items w.in-Unit.unit x.0 w.as_slice.result.now
          w.in-Unit.is (let same : x.0 ≡ x.0 = refl in same) (w.as_slice.ensures.elements ∙ ap (λ (u : LoadedUnit). u.names) w.get.ensures.value)
          (subst (λ (ps : List (Name × ℕ)). AddsNames i x.0 w.as_slice.result.now c.loop-index.pairs.items ps) (sym (ap (λ v. v.items) w.pairs-is)) w.in_ok-add_others.ensures.added)
      | in_default w ↦ subst P (sym (ap (λ v. v.items) w.pairs-is))
          (alias_next names i c.loop-index.pairs.items c.loop-index.invariant x c.loop-index-test.true c.index-names-index.is w.in_default.field-0 w.in_default.is)
    ]

pub returns : goal.returns
returns c = record { second = of_all c.args.names.now c.loop-index.index c.loop-index.pairs.items c.loop-index-test.false c.loop-index.invariant }
