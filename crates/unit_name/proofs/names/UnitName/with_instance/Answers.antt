use Rattle.unit_name.proofs.{Prelude.{ap, instance_name, IsName, prefix, subst, suffix, sym, ◌∙◌}, Steps.{IsTakenName, taken}}
use Rattle.unit_name.proofs.names.UnitName.with_instance.Goals as goal

made : (c : goal.In_ok-bytes) → IsTakenName c.args.self.now c.args.instance.now c.in_ok-bytes.bytes
made c =
    let name = subst IsName c.self.view_is c.self.invariant in
    let suffix_is = c.suffix_of.ensures.suffix ∙ ap suffix (c.as_slice.ensures.bytes ∙ c.self.view_is) in
    taken c.args.self.now c.args.instance.now c.in_ok-bytes.bytes name (sym c.takes.ensures.test ∙ c.if-not-takes.false)
    (c.in_ok-bytes.ensures.bytes ∙ ap (λ p. instance_name p c.args.instance.now c.suffix_of.result.now) c.prefix.ensures.prefix ∙ ap (instance_name (prefix c.args.self.now) c.args.instance.now) suffix_is)

pub invariant_of-result : goal.invariant_of-result
invariant_of-result c = (made c).name

pub returns-clause-named : goal.returns-clause-named
returns-clause-named c = sym (made c).named
