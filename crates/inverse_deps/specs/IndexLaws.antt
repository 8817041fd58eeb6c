-- Indices of names: they compare as the names do, each unit has one, and what is loaded for a name is at its index.
use Rattle.std.{proofs.Common.{◌<◌, ◌≡◌}, specs.FinMap.Entries.{is_sorted}}
use Rattle.inverse_deps.specs.Prelude.{[], ap, find_place, get_or, IsIndexing, IsTrue, keys_ascend, keys_length, keys_of, length, List, load_at, LoadMap, Name, name_cmp, name_cmp-IsAntisymmetric, NameLoad, nat_list_cmp_total, None, none-some, Option, option_and_then, place_of_found, refl, Some, sym, unit_in, unit_part, ℕ, ◌∙◌}
use Rattle.inverse_deps.specs.{Edges.{IsUnitIn}, Indices.{count_of, name_at}}
-- laws of positions that those of indices use
pub use Rattle.parallel_load.specs.KeyLaws.{find_place, key_at_place, keys_length, place_of_found, sorted_by_keys}

module _ (load : LoadMap) (sorted : IsTrue (is_sorted name_cmp load.names)) where
  -- the indices of names follow their byte order
  pub load_indexing : IsIndexing (count_of load) (name_at load) name_cmp
  load_indexing = record { ascends = λ i j l m. keys_ascend name_cmp load.names i j [] sorted l m }

  -- the unit of a name is what is at its index, if that is a unit
  pub unit_at : (i : ℕ) (d : Name × NameLoad) → i < count_of load → unit_in load (name_at load i) ≡ unit_part (get_or load.names i d).1
  unit_at i d l = ap (λ o. option_and_then unit_part o) (find_place name_cmp nat_list_cmp_total load.names i [] d sorted l)

-- loads with the same names have the same number of names and the same indices
module _ (a b : LoadMap) (names : keys_of a.names ≡ keys_of b.names) where
  pub counts_alike : count_of a ≡ count_of b
  counts_alike = sym (keys_length a.names) ∙ ap length names ∙ keys_length b.names

  pub named_alike : (i : ℕ) → name_at a i ≡ name_at b i
  named_alike i = ap (λ (ks : List Name). get_or ks i []) names

-- each unit has an index
pub unit_index : (load : LoadMap) (u : Name) → IsUnitIn load u → (i : ℕ) × ((i < count_of load) × (name_at load i ≡ u))
unit_index load u h = by (load_at load u) refl h.1
  where
    by : (o : Option NameLoad) → load_at load u ≡ o → option_and_then unit_part o ≡ Some h.0
        → (i : ℕ) × ((i < count_of load) × (name_at load i ≡ u))
    by None e f = absurd (none-some _ f)
    by (Some v) e f = place_of_found name_cmp name_cmp-IsAntisymmetric u load.names v [] e
