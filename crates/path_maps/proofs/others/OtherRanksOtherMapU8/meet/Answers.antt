use Rattle.path_maps.proofs.Prelude.{ap, find, nat_cmp, option_copied, or_empty, sym, ◌∙◌}
use Rattle.path_maps.proofs.others.OtherRanksOtherMapU8.meet.Goals as goal

pub returns-clause-held : goal.returns-clause-held
returns-clause-held c =
    c.of_rank-2.ensures.pairs ∙ ap or_empty c.get.ensures.value
    ∙ ap (λ m. or_empty (find nat_cmp c.args.key.now m)) (ap (λ o. or_empty (option_copied o)) (sym c.in-Some.is) ∙ c.self.view_is)
