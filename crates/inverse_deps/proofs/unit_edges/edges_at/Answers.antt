use Rattle.std.proofs.Common.{◌++◌, ◌+◌, ◌<◌, ◌∷◌, ◌≡◌}
use Rattle.inverse_deps.proofs.Prelude.{[], All, All-neighbors, All-push, ap, AreEdgeAdjacency, AreEdgesFrom, arith, Before, count_of, DependencyList, DepKind, get_or, keys_of, List, list_from, map, map-append, Name, name_at, neighbors, subst, sym, table_list, take, take_all, take_more, ℕ, ◌∙◌}
use Rattle.inverse_deps.proofs.unit_edges.edges_at.Goals as goal

pub neighbors-requires : goal.neighbors-requires
neighbors-requires c =
    let dep = get_or c.all-kinds.result.now c.loop-kind.kind-index Before in
    let P : List (List ℕ) → Type 0 = λ rs. AreEdgeAdjacency c.args.loaded.now dep rs in
    let r = subst P (sym c.adjacency.ensures.adjacency) (c.requires.table.each dep) in
    omega (arith, r.within.one_each, c.requires.index)

pub names_at-requires : goal.names_at-requires
names_at-requires c =
    let load = c.args.loaded.now in
    let dep = get_or c.all-kinds.result.now c.loop-kind.kind-index Before in
    let P : List (List ℕ) → Type 0 = λ rs. AreEdgeAdjacency load dep rs in
    let r = subst P (sym c.adjacency.ensures.adjacency) (c.requires.table.each dep) in
    let Q : List ℕ → Type 0 = λ l. All (λ i. i < count_of load) l in
    record { indices = subst Q (sym c.neighbors.ensures) (All-neighbors (count_of load) c.adjacency.result.now c.args.index r.within.within) }

pub loop-kind-preserved : goal.loop-kind-preserved
loop-kind-preserved c =
    let load = c.args.loaded.now in
    let i = c.loop-kind.kind-index in
    let ks : List DepKind = c.all-kinds.result.now in
    let dep : DepKind = get_or ks i Before in
    let list : DependencyList = record { kind = dep; names = c.from_vec.result } in
    let kind_of : DependencyList → DepKind = λ l. l.kind in
    let P : DependencyList → Type 0 = λ l. AreEdgesFrom load l.kind (name_at load c.args.index) l.names in
    let more : take (i + 1) ks ≡ take i ks ++ dep ∷ [] = take_more ks i Before c.loop-kind-test.true in
    let names : c.from_vec.result ≡ list_from (keys_of load.names) c.args.table.now c.args.index dep =
    c.from_vec.ensures.elements ∙ c.in_ok-names.ensures.names ∙ ap (map (name_at load)) (c.neighbors.ensures ∙ ap (λ rs. neighbors rs c.args.index) c.adjacency.ensures.adjacency) in
    let here : P list = subst (λ (ns : List Name). AreEdgesFrom load dep (name_at load c.args.index) ns) (sym names) (table_list load c.args.table.now c.requires.table dep c.args.index c.requires.index) in
    record {
      kinds_are =
          ap (map kind_of) c.in_ok-push.ensures.items ∙ map-append kind_of c.loop-kind.lists.items (list ∷ [])
          ∙ ap (λ (ds : List DepKind). ds ++ dep ∷ []) c.loop-kind.invariant.kinds_are ∙ sym more;
      each = subst (All P) (sym c.in_ok-push.ensures.items) (All-push P c.loop-kind.lists.items list c.loop-kind.invariant.each here);
    }

pub returns : goal.returns
returns c =
    let ks : List DepKind = c.all-kinds.result.now in
    let kind_of : DependencyList → DepKind = λ l. l.kind in
    let P : DependencyList → Type 0 = λ l. AreEdgesFrom c.args.loaded.now l.kind (name_at c.args.loaded.now c.args.index) l.names in
    record {
      lists = record {
        kinds_are = ap (map kind_of) c.from_vec-2.ensures.elements ∙ c.loop-kind.invariant.kinds_are ∙ take_all c.loop-kind.kind-index ks (omega arith) ∙ c.all-kinds.ensures.kinds;
        each = subst (All P) (sym c.from_vec-2.ensures.elements) c.loop-kind.invariant.each;
      };
    }
