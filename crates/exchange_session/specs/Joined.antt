-- Stores that take pieces.
use Rattle.exchange_session.specs.Prelude.{EntryMap, fold, join, List}

-- the store with pieces taken one after another
abbrev pub joined : EntryMap → List EntryMap → EntryMap
joined s pieces = fold join s pieces
