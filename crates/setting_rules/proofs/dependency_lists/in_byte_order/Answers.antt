use Rattle.setting_rules.proofs.Prelude.{arith, dedup_is, eq_by_cmp, few_in_order, name_cmp, sorted_is, sym, ◌∙◌}
use Rattle.setting_rules.proofs.dependency_lists.in_byte_order.Goals as goal

pub returns-then-len-lt2 : goal.returns-then-len-lt2
returns-then-len-lt2 c = record { names = c.from_vec.ensures.elements ∙ sym (few_in_order c.args.names.items (omega (arith, c.if-len-lt2.true, c.len.ensures))) }

pub returns : goal.returns
returns c = record {
  names = c.from_vec-2.ensures.elements ∙ sorted_is c.args.names.items c.sort_unstable.new.self.items c.dedup.new.self.items c.sort_unstable.ensures.permutation c.sort_unstable.ensures.sorted (dedup_is (eq_by_cmp name_cmp) _ _ c.dedup.ensures.filtered);
}
