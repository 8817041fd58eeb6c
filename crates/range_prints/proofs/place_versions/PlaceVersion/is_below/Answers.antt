use Rattle.range_prints.proofs.Bounds.{is_behind}
use Rattle.range_prints.proofs.Prelude.{ap, is_gt, PlaceParts, Version, ◌∙◌}
use Rattle.range_prints.specs.Ranges.{is_below}
use Rattle.range_prints.proofs.place_versions.PlaceVersion.is_below.Goals as goal

pub returns : goal.returns
returns c = record {
  below =
      c.is_gt.ensures ∙ ap is_gt c.order_of.ensures.order ∙ is_behind c.args.bound.now c.self.inside.placed.0
      ∙ ap (λ (v : PlaceParts × Version). is_below c.args.bound.now v.0) c.self.view_is;
}
