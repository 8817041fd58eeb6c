use Rattle.std.proofs.Common.{◌++◌, ◌+◌, ◌<◌, ◌∷◌, ◌≡◌}
use Rattle.inverse_deps.proofs.Prelude.{[], add-one, all_edges, all_kept, ap, append-nil, append_assoc, AreEdges, AreKept, arith, drop, drop-cons, drop_all, edge_map, EdgeMap, edges_from, get_or, key_at_place, keys_length, keys_of, length, List, lists_from, Name, NameLoad, subst, suc, sym, ℕ, ◌∙◌}
use Rattle.inverse_deps.proofs.building.unit_lists.Goals as goal

-- one more name has its lists
module _ (names : List Name) (tables : List (List (List ℕ))) (i : ℕ) (below : i < length names) (old new : EdgeMap) (name : Name) (lists : List (List Name)) (name_is : name ≡ get_or names i [])
    (lists_are : lists ≡ lists_from names tables i) where
  abbrev pair : Name × List (List Name)
  pair = (name, lists)

  abbrev rest : ℕ → EdgeMap
  rest k = edges_from names tables k (drop k names)

  one_more : new ≡ old ++ pair ∷ [] → old ++ rest i ≡ edge_map names tables → new ++ rest (i + 1) ≡ edge_map names tables
  one_more e h =
      let here : rest i ≡ (get_or names i [], lists_from names tables i) ∷ rest (suc i) = ap (edges_from names tables i) (drop-cons names i [] below) in
      ap (λ (es : EdgeMap). es ++ rest (i + 1)) e ∙ append_assoc old (pair ∷ []) (rest (i + 1)) ∙ ap (λ k. old ++ pair ∷ rest k) (add-one i)
      ∙ ap (λ (n : Name). let p : Name × List (List Name) = (n, lists) in old ++ p ∷ rest (suc i)) name_is
      ∙ ap (λ (ls : List (List Name)). let p : Name × List (List Name) = (get_or names i [], ls) in old ++ p ∷ rest (suc i)) lists_are
      ∙ ap (λ (es : EdgeMap). old ++ es) (sym here) ∙ h

pub loop-index-preserved : goal.loop-index-preserved
loop-index-preserved c =
    let load = c.args.loaded.now in
    let es = c.names-names.result.now in
    let i = c.loop-index.index in
    let x : Name × NameLoad = c.index-names-index.result in
    let same = ap (λ (ns : List (Name × NameLoad)). length ns) c.names-names.ensures.names in
    let below : i < length (keys_of load.names) = omega (arith, c.loop-index-test.true, keys_length load.names, same) in
    let name : c.in_ok-name.name ≡ get_or (keys_of load.names) i [] =
    c.in_ok-name.ensures.copy ∙ ap (λ (p : Name × NameLoad). p.0) c.index-names-index.is ∙ key_at_place es i x [] c.loop-index-test.true
    ∙ ap (λ (ns : List (Name × NameLoad)). get_or (keys_of ns) i []) c.names-names.ensures.names in
    one_more (keys_of load.names) c.args.table.now i below c.loop-index.units.items _ c.in_ok-name.name c.in_ok-lists_at.field-0 name c.in_ok-lists_at.ensures.lists
    c.in_ok-push.ensures.items c.loop-index.invariant

pub returns : goal.returns
returns c =
    let load = c.args.loaded.now in
    let same = ap (λ (ns : List (Name × NameLoad)). length ns) c.names-names.ensures.names in
    let none = drop_all c.loop-index.index (keys_of load.names) (omega (arith, c.loop-index-test.false, keys_length load.names, same)) in
    let units : c.loop-index.units.items ≡ edge_map (keys_of load.names) c.args.table.now =
    sym (append-nil c.loop-index.units.items)
    ∙ ap (λ (ks : List Name). c.loop-index.units.items ++ edges_from (keys_of load.names) c.args.table.now c.loop-index.index ks) (sym none) ∙ c.loop-index.invariant in
    record {
      edges = subst (λ (es : EdgeMap). AreEdges load es) (sym units) (all_edges load c.args.table.now c.requires.table);
      kept = subst (λ (es : EdgeMap). AreKept es c.args.table.now) (sym units) (all_kept load c.args.table.now c.requires.table);
    }
