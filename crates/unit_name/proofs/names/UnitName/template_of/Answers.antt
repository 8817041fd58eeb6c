use Rattle.unit_name.proofs.{Prelude.{[], ap, instance_name, IsName, prefix, subst, suffix, ◌∙◌}, Steps.{template_bytes}}
use Rattle.unit_name.proofs.names.UnitName.template_of.Goals as goal

pub invariant_of-result : goal.invariant_of-result
invariant_of-result c =
    let name = subst IsName c.self.view_is c.self.invariant in
    let suffix_is = c.suffix_of.ensures.suffix ∙ ap suffix (c.as_slice.ensures.bytes ∙ c.self.view_is) in
    (template_bytes c.args.self.now c.in_ok-bytes-in-Instance.bytes name c.in-Instance.ensures.shape
    (c.in_ok-bytes-in-Instance.ensures.bytes ∙ ap (λ p. instance_name p [] c.suffix_of.result.now) c.prefix.ensures.prefix ∙ ap (instance_name (prefix c.args.self.now) []) suffix_is)).name
