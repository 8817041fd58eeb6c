use Rattle.std.proofs.Common.{◌≡◌}
use Rattle.fragment_choice.proofs.{Gathering.{both_ok}, Levels.{all_names, endless, unled}, Prelude.{AreNames, IfOk-weaker, sym, ◌∙◌}}
use Rattle.fragment_choice.proofs.aliases.AliasIndex.names_of.Goals as goal

pub returns-then-is_empty : goal.returns-then-is_empty
returns-then-is_empty c = record {
  names =
      IfOk-weaker c.copied.result (λ names. names.items ≡ c.from_ref.result.now) (λ names. AreNames c.args.self.now c.args.name.now names.items)
      (λ names e. unled c.args.self.now c.args.name.now names.items c.in_ok-others.others.keys c.in_ok-others.ensures.after (c.is_empty.ensures.0 c.if-is_empty.true) (e ∙ c.from_ref.ensures.value)) c.copied.ensures.copy;
}

pub returns-then-branch : goal.returns-then-branch
returns-then-branch c = record {
  names =
      IfOk-weaker c.copied-then-branch.result (λ names. names.items ≡ c.from_ref-then-branch.result.now) (λ names. AreNames c.args.self.now c.args.name.now names.items)
      (λ names e. endless c.args.self.now c.args.name.now names.items (sym c.in_ok-is_alias.ensures.test ∙ c.if-branch.true) (e ∙ c.from_ref-then-branch.ensures.value)) c.copied-then-branch.ensures.copy;
}

pub returns : goal.returns
returns c = record {
  names =
      both_ok c.listed.result c.listed.ensures.list c.listed.ensures.ascending
      (λ names e ascending. all_names c.args.self.now c.args.name.now names.items c.in_ok-others.others.keys c.in_ok-others.ensures.after (sym c.in_ok-is_alias.ensures.test ∙ c.if-branch.false) e ascending);
}
