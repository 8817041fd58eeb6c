use Rattle.std.proofs.Common.{◌++◌, ◌+◌, ◌<◌, ◌∷◌, ◌≡◌}
use Rattle.inverse_deps.proofs.Prelude.{[], All, All-neighbors, ap, AreEdgeAdjacency, arith, Before, count_of, DepKind, get_or, keys_of, List, list_from, map, map-append, Name, name_at, neighbors, subst, sym, take, take_all, take_more, ℕ, ◌∙◌}
use Rattle.inverse_deps.proofs.building.lists_at.Goals as goal

pub loop-kind-init : goal.loop-kind-init
loop-kind-init c = c.in_ok-lists.ensures.items

pub neighbors-requires : goal.neighbors-requires
neighbors-requires c =
    let dep = get_or c.all-kinds.result.now c.loop-kind.kind-index Before in
    let P : List (List ℕ) → Type 0 = λ rs. AreEdgeAdjacency c.args.loaded.now dep rs in
    let r = subst P (sym c.adjacency.ensures.adjacency) (c.requires.table.each dep) in
    omega (arith, r.within.one_each, c.requires.index)

pub names_at-requires : goal.names_at-requires
names_at-requires c =
    let load = c.args.loaded.now in
    let dep = get_or c.all-kinds.result.now c.loop-kind.kind-index Before in
    let P : List (List ℕ) → Type 0 = λ rs. AreEdgeAdjacency load dep rs in
    let r = subst P (sym c.adjacency.ensures.adjacency) (c.requires.table.each dep) in
    let Q : List ℕ → Type 0 = λ l. All (λ i. i < count_of load) l in
    record { indices = subst Q (sym c.neighbors.ensures) (All-neighbors (count_of load) c.adjacency.result.now c.args.index r.within.within) }

pub loop-kind-preserved : goal.loop-kind-preserved
loop-kind-preserved c =
    let load = c.args.loaded.now in
    let i = c.loop-kind.kind-index in
    let ks : List DepKind = c.all-kinds.result.now in
    let dep = get_or ks i Before in
    let f : DepKind → List Name = list_from (keys_of load.names) c.args.table.now c.args.index in
    let more : take (i + 1) ks ≡ take i ks ++ dep ∷ [] = take_more ks i Before c.loop-kind-test.true in
    let here : c.from_vec.result ≡ f dep =
    c.from_vec.ensures.elements ∙ c.in_ok-names.ensures.names ∙ ap (map (name_at load)) (c.neighbors.ensures ∙ ap (λ rs. neighbors rs c.args.index) c.adjacency.ensures.adjacency) in
    c.in_ok-push.ensures.items ∙ ap (λ ls. ls ++ c.from_vec.result ∷ []) c.loop-kind.invariant ∙ ap (λ (ns : List Name). map f (take i ks) ++ ns ∷ []) here
    ∙ sym (ap (map f) more ∙ map-append f (take i ks) (dep ∷ []))

pub returns : goal.returns
returns c =
    let f : DepKind → List Name = list_from (keys_of c.args.loaded.now.names) c.args.table.now c.args.index in
    record {
      lists =
          c.from_vec-2.ensures.elements ∙ c.loop-kind.invariant
          ∙ ap (map f) (take_all c.loop-kind.kind-index c.all-kinds.result.now (omega arith) ∙ c.all-kinds.ensures.kinds);
    }
