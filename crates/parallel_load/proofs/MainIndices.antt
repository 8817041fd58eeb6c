-- The index of a name's main name, as the rows of a load have it.
use Rattle.std.{proofs.Common.{◌<◌, ◌∷◌, ◌≡◌}, specs.FinMap.Entries.{is_sorted}}
use Rattle.parallel_load.proofs.Indexing.{indexed_keys}
use Rattle.parallel_load.proofs.Prelude.{[], All, among_find, ap, AreIndexed, arith, at_within, find, find_at, get_or, HasMainUnit, IsAt, IsIndexOfMain, IsMainIndex, IsTrue, keys_length, length, List, load_at, LoadMap, main_in, main_name, main_part, map_among, Name, name_cmp, name_of, NameLoad, nat_list_cmp_total, OfAlias, OfUnit, option_and_then, option_map, Some, suc, sym, unit_part, zero, ℕ, ◌∙◌}

-- each name has the index of its main name
pub indexed_length : (found ps : List (Name × NameLoad)) (ms : List (Name × ℕ)) → AreIndexed found ps ms → length ms ≡ length ps
indexed_length found ps ms h = sym (keys_length ms) ∙ ap (λ (ks : List Name). length ks) (indexed_keys found ps ms h) ∙ keys_length ps

indexed_at : (found ps : List (Name × NameLoad)) (ms : List (Name × ℕ)) (at : ℕ) (p : Name × NameLoad) (m : Name × ℕ) → AreIndexed found ps ms → at < length ps → IsMainIndex found (get_or ps at p) (get_or ms at m).1
indexed_at found [] ms at p m h l = absurd (omega arith)
indexed_at found (q ∷ ps) [] at p m h l = absurd h
indexed_at found (q ∷ ps) (k ∷ ms) zero p m h l = h.1
indexed_at found (q ∷ ps) (k ∷ ms) (suc at) p m h l = indexed_at found ps ms at p m h.2 (omega arith)

module _ (load : LoadMap) (ms : List (Name × ℕ)) (sorted : IsTrue (is_sorted name_cmp load.names)) (indexed : AreIndexed load.names load.names ms) (mains : All (HasMainUnit load.names) load.names)
    (name : Name) (at : ℕ) (here : IsAt name_cmp name load.names at) where
  pub main_indexed : (p : Name × NameLoad) (m : Name × ℕ) → IsIndexOfMain load name (get_or ms at m).1
  main_indexed p m =
      let q : Name × NameLoad = get_or load.names at p in
      let index = (get_or ms at m).1 in
      let below = at_within name_cmp name load.names at here in
      let has : HasMainUnit load.names q = mains at p below in
      let is : IsMainIndex load.names q index = indexed_at load.names load.names ms at p m indexed below in
      let named : name_of load.names index ≡ main_name q = is.named (map_among (λ (x : Name × NameLoad). x.0) load.names (main_name q, OfUnit has.unit) has.there) in
      record {
        below = is.below;
        main_is = ap (option_map main_part) (find_at name_cmp name load.names at p here) ∙ ap Some (has.main_is ∙ sym named);
        unit = (
          has.unit,
          ap (λ (n : Name). option_and_then unit_part (find name_cmp n load.names)) named
              ∙ ap (option_and_then unit_part) (among_find name_cmp nat_list_cmp_total (main_name q) (OfUnit has.unit) load.names sorted has.there),
        );
      }
