use Rattle.std.proofs.Common.{◌<◌, ◌≡◌}
use Rattle.name_closure.proofs.{Others.{key_at}, Prelude.{always_returns_same, ap, get_or, is_eq, is_equal, length, rules, sym, true, ◌∙◌}, Searched.{not_missed}}
use Rattle.name_closure.proofs.names.is_own.Goals as goal

pub returns-in-Ok : goal.returns-in-Ok
returns-in-Ok g c = record {
  own =
      λ h. (
      let within : c.in-Ok.at < length c.args.pairs.now = search rules in
      let key = (get_or c.args.pairs.now c.in-Ok.at c.index-pairs-at.result).0 in
      let equal : g.K.PartialEq.eq key c.args.node.now ≡ true = search rules in
      key_at c.args.node.now c.args.pairs.now c.in-Ok.at c.index-pairs-at.result within
      (g.met.K.Key.exact key c.args.node.now (is_equal _ (sym (g.met.K.Ord.matches_eq key c.args.node.now) ∙ equal))));
  seen =
      λ ascending among. (
      let key = (get_or c.args.pairs.now c.in-Ok.at c.index-pairs-at.result).0 in
      let at_key = c.in-Ok.ensures.position (λ pair. g.K.Ord.cmp pair.0 c.args.node.now) (always_returns_same _ _ _ (λ a r f called. (search rules, search rules))) c.index-pairs-at.result in
      c.eq.ensures ∙ g.met.K.Ord.matches_eq key c.args.node.now ∙ ap is_eq at_key);
}

pub returns-in-Err : goal.returns-in-Err
returns-in-Err g c = record {
  own = λ h. cc;
  seen =
      λ ascending among. (
      let by_key = c.in-Err.ensures.position (λ pair. g.K.Ord.cmp pair.0 c.args.node.now) (always_returns_same _ _ _ (λ a r f called. (search rules, search rules))) in
      absurd (not_missed g.K.Ord.cmp g.met.K.Ord.total c.args.node.now c.args.pairs.now c.in-Err.field-0 ascending by_key among));
}
