-- The names of a load, indexed in byte order from 0.
-- Source: this project's own.
use Rattle.std.proofs.Common.{◌<◌, ◌≡◌}
use Rattle.inverse_deps.specs.{Edges.{IsUnitIn}, Prelude.{length, LoadMap, Name, name_of, ℕ}}

-- how many names there are
abbrev pub count_of : LoadMap → ℕ
count_of load = length load.names

-- the name with this index
abbrev pub name_at : LoadMap → ℕ → Name
name_at load index = name_of load.names index

-- this is the index of a unit
pub record IsIndexOf (load : LoadMap) (name : Name) (index : ℕ) : Type 0 where
  pub below : index < count_of load
  pub named : name_at load index ≡ name
  pub unit : IsUnitIn load name
