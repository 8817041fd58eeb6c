use Rattle.fleet_answers.proofs.{Asked.{names_same}, Prelude.{ap, LoadMap, sym, ◌∙◌}}
use Rattle.fleet_answers.proofs.renewing.is_asked_by.Goals as goal

pub returns : goal.returns
returns c = record {
  names = λ h.
      sym (ap (λ (l : LoadMap). l.extra) c.loaded.ensures.load) ∙ sym c.extra.ensures.extra ∙ names_same c.extra.result.now c.args.names.now (sym c.eq.ensures ∙ h);
}
