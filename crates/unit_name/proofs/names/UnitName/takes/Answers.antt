use Rattle.std.proofs.Common.{◌&&◌, ◌-◌}
use Rattle.unit_name.proofs.{Prelude.{ap, arith, IsName, leb, length, name_short, subst, sym, ◌∙◌}, Steps.{takes_is}}
use Rattle.unit_name.proofs.names.UnitName.takes.Goals as goal

pub overflow_sub-result : goal.overflow_sub-result
overflow_sub-result c = let short = name_short _ (subst IsName (sym c.bytes.ensures.bytes) c.bytes.ensures.well_formed) in omega arith

pub returns-then-is_instance-clause-test : goal.returns-then-is_instance-clause-test
returns-then-is_instance-clause-test c =
    let len = ap length c.bytes.ensures.bytes in
    let test = sym c.is_instance.ensures.test ∙ c.if-is_instance.true in
    ap (λ n. leb (length c.args.instance.now) (255 - n)) len ∙ sym (takes_is c.args.self.now c.args.instance.now c.bytes.ensures.well_formed c.in-Template.ensures.shape ∙ ap (λ b. b && leb (length c.args.instance.now) (255 - length c.args.self.now)) test)
