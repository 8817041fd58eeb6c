use Rattle.name_closure.proofs.Prelude.{All, AreApart, AreOthers, flat_map, IsStrictlySortedBy, keys_of, take}
use Rattle.name_closure.proofs.names.others_named.Given as goal

abbrev pub invariant-loop-one : goal.invariant-loop-one
invariant-loop-one g l = record {
  others : AreOthers (keys_of l.pairs) (flat_map (λ pair. g.L.Loads.named l.loader pair.1) (take l.one-index l.part)) l.names.items;
  apart : IsStrictlySortedBy g.K.Ord.cmp (keys_of l.pairs) → AreApart (keys_of l.pairs) l.names.items;
  nodes : All (g.L.Loads.is_node l.loader) l.names.items;
}
