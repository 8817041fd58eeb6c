use Rattle.std.proofs.Common.{◌≡◌}
use Rattle.fragment_choice.proofs.{Levels.{gathers_instance, leads_elsewhere}, Prelude.{ap, false, instance, on_ok_weaker, Some, sym, true, with_instance, ◌∙◌}}
use Rattle.fragment_choice.proofs.aliases.AliasIndex.add_instance.Goals as goal

differ : false ≡ true → ⊥
differ h = cc (h)

pub returns-then-not-branch : goal.returns-then-not-branch
returns-then-not-branch c =
    let made : Some c.in-Some.instance ≡ with_instance c.args.template.now (instance c.args.name.now) =
    sym c.in-Some.is ∙ c.in_ok-instance.ensures.named ∙ ap (with_instance c.args.template.now) c.instance.ensures.instance in
    record {
      gathered = leads_elsewhere c.args.self.now c.args.name.now c.args.template.now c.in-Some.instance c.args.others.now.keys made (λ l. differ (sym c.if-not-branch.true ∙ c.in_ok-leads.ensures.test.1 l));
    }

pub returns : goal.returns
returns c =
    let made : Some c.in-Some.instance ≡ with_instance c.args.template.now (instance c.args.name.now) =
    sym c.in-Some.is ∙ c.in_ok-instance.ensures.named ∙ ap (with_instance c.args.template.now) c.instance.ensures.instance in
    record {
      gathered =
          on_ok_weaker c.put.result
          (λ e. gathers_instance c.args.self.now c.args.name.now c.args.template.now c.in-Some.instance c.args.others.now.keys c.put.new.others.keys c.with_instance.ensures.well_formed made (c.in_ok-leads.ensures.test.0 c.if-not-branch.false) e)
          c.put.ensures.put;
    }
