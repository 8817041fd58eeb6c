-- What a round adds to the nodes that are found, and which nodes are the next round's. Only private clauses cite these.
-- Source: this project's own.
use Rattle.std.proofs.Common.{◌↔◌, ◌⊎◌}
use Rattle.name_closure.specs.Prelude.{IsAmong, IsStrictlySortedBy, List, Ordering}

module _ {N : Type 0} where
  -- `all` has the nodes of both lists, and no others
  abbrev pub AreJoined : List N → List N → List N → Type 0
  AreJoined xs ys all = (n : N) → IsAmong n all ↔ (IsAmong n xs ⊎ IsAmong n ys)

  -- `fresh` lists those of the nodes that aren't found, each once, in ascending order
  pub record AreNew (order : N → N → Ordering) (found nodes fresh : List N) : Type 0 where
    pub ascending : IsStrictlySortedBy order fresh
    pub apart : (n : N) → IsAmong n fresh → ¬ IsAmong n found
    pub origin : (n : N) → IsAmong n fresh → IsAmong n nodes
    pub took : (n : N) → IsAmong n nodes → IsAmong n found ⊎ IsAmong n fresh
