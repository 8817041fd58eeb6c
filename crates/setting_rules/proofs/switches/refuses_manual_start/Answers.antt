use Rattle.setting_rules.{proofs.Prelude.{ap, boolean, false, last_value, says_yes, unwrap_or, ◌∙◌}, specs.Switches.{refuses}}
use Rattle.setting_rules.proofs.switches.refuses_manual_start.Goals as goal

pub returns-in-Some : goal.returns-in-Some
unfolding refuses
returns-in-Some c = let h = c.in-Some.ensures.value in let e = c.unwrap_or.ensures in record {
  test = c.unwrap_or.ensures ∙ ap (λ o. unwrap_or o false) (c.boolean.ensures.boolean ∙ ap boolean c.as_slice.ensures.bytes) ∙ ap says_yes c.in-Some.ensures.value ∙ ap (λ v. says_yes (last_value v)) c.values_of.ensures.values;
}

pub returns-in-None : goal.returns-in-None
unfolding refuses
returns-in-None c = record { test = ap says_yes c.in-None.ensures.value ∙ ap (λ v. says_yes (last_value v)) c.values_of.ensures.values }
