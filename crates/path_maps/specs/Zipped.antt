-- The entries of one store, each with what is held beside it.
-- Source: this project's own.
use Rattle.path_maps.specs.Prelude.{Entry, List, map, Option}

-- Each entry with what is held at its key.
abbrev pub zipped : {K H : Type 0} → (K → H) → List (K × Entry) → List ((K × Entry) × H)
zipped held = map (λ p. (p, held p.0))

-- An entry with its key, and what another store holds there.
abbrev pub Compared : Type 0 → Type 0
Compared K = (K × Entry) × Option Entry
