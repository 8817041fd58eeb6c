-- Stores that take pieces.
use Rattle.std.proofs.Common.{◌∷◌, ◌≡◌}
use Rattle.exchange_session.proofs.Prelude.{[], EntryMap, IsStoreBelow, join, join-left, List, store_below_refl, store_below_trans, subst, sym}
use Rattle.exchange_session.specs.Joined.{joined}

-- nothing that was held is lost
pub joined_above : (s : EntryMap) (pieces : List EntryMap) → IsStoreBelow s (joined s pieces)
joined_above s [] = store_below_refl s
joined_above s (p ∷ pieces) = store_below_trans s (join s p) (joined (join s p) pieces) (join-left s p) (joined_above (join s p) pieces)

pub kept : (s t u : EntryMap) (pieces : List EntryMap) → t ≡ joined s pieces → IsStoreBelow t u → IsStoreBelow s u
kept s t u pieces is below = store_below_trans s t u (subst (λ (x : EntryMap). IsStoreBelow s x) (sym is) (joined_above s pieces)) below
