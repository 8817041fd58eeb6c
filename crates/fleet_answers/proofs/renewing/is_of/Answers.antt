use Rattle.fleet_answers.proofs.{Asked.{same_viewers}, Prelude.{ap, LoadMap, sym, ◌∙◌}}
use Rattle.fleet_answers.proofs.renewing.is_of.Goals as goal

pub returns : goal.returns
returns c = record {
  viewer = λ h.
      sym (c.viewer.ensures.viewer ∙ ap (λ (l : LoadMap). l.viewer) c.loaded.ensures.load)
      ∙ same_viewers c.viewer.result.now c.args.viewer.now (sym c.eq.ensures ∙ h);
}
