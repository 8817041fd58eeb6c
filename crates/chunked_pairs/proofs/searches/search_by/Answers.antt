use Rattle.chunked_pairs.proofs.Prelude.{always_returns_same, rules, search_finds}
use Rattle.chunked_pairs.proofs.searches.search_by.Goals as goal

pub returns-clause-found : goal.returns-clause-found
returns-clause-found g c =
    let by_key = c.binary_search_by.ensures.position (λ pair. g.K.Ord.cmp pair.0 (g.S.Sought.key c.args.sought.now)) (always_returns_same _ _ _ (λ a r f called. (search rules, search rules))) in
    (search_finds g.K.Ord.cmp g.met.K.Ord.total (g.S.Sought.key c.args.sought.now) _ _ c.requires.sorted c.binary_search_by.ensures.bound by_key).0

pub returns-clause-absent : goal.returns-clause-absent
returns-clause-absent g c =
    let by_key = c.binary_search_by.ensures.position (λ pair. g.K.Ord.cmp pair.0 (g.S.Sought.key c.args.sought.now)) (always_returns_same _ _ _ (λ a r f called. (search rules, search rules))) in
    (search_finds g.K.Ord.cmp g.met.K.Ord.total (g.S.Sought.key c.args.sought.now) _ _ c.requires.sorted c.binary_search_by.ensures.bound by_key).1
