use Rattle.std.proofs.Common.{◌+◌}
use Rattle.parallel_load.proofs.Prelude.{All, ap, HasParts, List, subst, sym, take, take_all, ℕ, ◌∙◌}
use Rattle.parallel_load.proofs.{Staying.{parts_more, parts_same}, touched.parts_touched.Goals.{else-is_viewed, then-is_viewed+in_ok-add_parts}}
use Rattle.parallel_load.proofs.touched.parts_touched.Goals as goal

pub loop-place-preserved : goal.loop-place-preserved
loop-place-preserved c =
    let viewer = c.args.viewer.now in
    let i = c.loop-place.place-index in
    let x = c.place-item.result in
    let P : List (List ℕ) → Type 0 = λ ps. All (HasParts viewer ps) (take (i + 1) c.args.touched.now) in
    elim c.if-is_viewed.branch [
      | then-is_viewed+in_ok-add_parts w ↦
          subst P (sym (ap (λ v. v.items) w.parts-is))
          (parts_more viewer c.loop-place.parts.items w.add_parts.new.parts.items c.args.touched.now i x x c.loop-place-test.true c.place-item.is
          w.in_ok-add_parts.ensures.added c.loop-place.invariant)
      | else-is_viewed w ↦
          subst P (sym (ap (λ v. v.items) w.parts-is))
          (parts_same viewer c.loop-place.parts.items c.args.touched.now i x x c.loop-place-test.true c.place-item.is (sym c.is_viewed.ensures.view ∙ w.if-is_viewed.false) c.loop-place.invariant)
    ]

pub returns : goal.returns
returns c = record {
  parts = subst (All (HasParts c.args.viewer.now c.loop-place.parts.items)) (take_all c.loop-place.place-index c.args.touched.now c.loop-place-test.false) c.loop-place.invariant;
}
