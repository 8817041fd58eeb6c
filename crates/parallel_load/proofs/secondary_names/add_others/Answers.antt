use Rattle.std.proofs.Common.{◌+◌, ◌≡◌}
use Rattle.parallel_load.proofs.Prelude.{ap, Decides-eqb, IsName, List, Name, refl, slice_eq-Decides, subst, sym, ℕ, ◌∙◌}
use Rattle.parallel_load.proofs.{secondary_names.add_others.Goals.{else-ne, then-ne+in_ok-try_clone+in_ok-push}, SecondaryNames.{AreLookedAt, other_next, own_next}, UnitsPut.{not_false}}
use Rattle.parallel_load.proofs.secondary_names.add_others.Goals as goal

pub loop-other-preserved : goal.loop-other-preserved
loop-other-preserved c =
    let index = c.args.index in
    let name = c.args.name.now in
    let x : Name = c.other-item.result in
    let own : IsName name = c.bytes-own.ensures.well_formed in
    let well_formed : IsName x = c.bytes.ensures.well_formed in
    elim c.if-ne.branch [
      | then-ne+in_ok-try_clone+in_ok-push w ↦
          other_next index name own c.args.names.now c.args.pairs.now.items c.loop-other.pairs.items c.loop-other.other-index c.loop-other.invariant x c.loop-other-test.true c.other-item.is well_formed
          c.if-ne.pairs.items w.in_ok-try_clone.field-0 w.in_ok-try_clone.ensures.copy (ap (λ v. v.items) w.pairs-is ∙ w.in_ok-push.ensures.items)
      | else-ne w ↦
          let P : List (Name × ℕ) → Type 0 = λ ps. AreLookedAt index name c.args.names.now c.args.pairs.now.items ps (c.loop-other.other-index + 1) in
          let same : c.bytes.result.now ≡ c.bytes-own.result.now = (slice_eq-Decides Decides-eqb c.bytes.result.now c.bytes-own.result.now _ refl).0 (not_false _ (sym c.ne.ensures ∙ w.if-ne.false)) in
          subst P (sym (ap (λ v. v.items) w.pairs-is))
          (own_next index name own c.args.names.now c.args.pairs.now.items c.loop-other.pairs.items c.loop-other.other-index c.loop-other.invariant x c.loop-other-test.true c.other-item.is well_formed
          (sym c.bytes.ensures.bytes ∙ same ∙ c.bytes-own.ensures.bytes))
    ]
