use Rattle.fragment_choice.proofs.{Levels.{after_instance, after_name}, Prelude.{on_ok_weaker, sym, ◌∙◌}}
use Rattle.fragment_choice.proofs.aliases.AliasIndex.gather_after.Goals as goal

pub returns-in-Some : goal.returns-in-Some
returns-in-Some c = record {
  gathered =
      on_ok_weaker c.gather_instances.result
      (λ g. after_instance c.args.self.now c.args.name.now c.in-Some.template c.owners_of.result.now c.owners_of-in-Some.result.now c.args.others.now.keys c.gather_owners.new.others.keys c.gather_instances.new.others.keys
      c.owners_of.ensures.owners c.owners_of-in-Some.ensures.owners (sym c.in_ok-template.ensures.template ∙ c.in-Some.is) c.in_ok-gather_owners.ensures.added g)
      c.gather_instances.ensures.gathered;
}

pub returns-in-None : goal.returns-in-None
returns-in-None c = record {
  gathered = after_name c.args.self.now c.args.name.now c.owners_of.result.now c.args.others.now.keys c.gather_owners.new.others.keys c.owners_of.ensures.owners (sym c.in_ok-template.ensures.template ∙ c.in-None.is) c.in_ok-gather_owners.ensures.added;
}
