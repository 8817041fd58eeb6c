use Rattle.std.proofs.Common.{◌≡◌}
use Rattle.inverse_deps.proofs.Prelude.{AreEdgeAdjacency, AreFoundIn, AreLinks, AreRowsBy, AreWithin, arith, Before, Dependency, DependsOn, get_or, Global, length, length-map, links_in, List, LoadMap, made_more, subst, sym, Vec, ℕ}
use Rattle.inverse_deps.proofs.{Linking.{adjacency_found, edge_adjacency, rows_within}, Tabling.{made_by_kinds}}
use Rattle.inverse_deps.proofs.edge_table.EdgeTable.of.Goals as goal

-- rows, as they are read, have links
links_of_rows : (load : LoadMap) (rows read adjacency : List (List Dependency)) → read ≡ rows → AreRowsBy load (DependsOn load) rows → AreFoundIn read (length read) adjacency → AreLinks load adjacency
links_of_rows load rows read adjacency e are found = adjacency_found load rows adjacency are (subst (λ (rs : List (List Dependency)). AreFoundIn rs (length rs) adjacency) e found)

pub links_of-requires : goal.links_of-requires
links_of-requires c =
    let load = c.args.loaded.now in
    let rows : List (List Dependency) = c.in_ok-rows.rows.items in
    let within : AreWithin (length rows) rows = subst (λ (n : ℕ). AreWithin n rows) (sym c.in_ok-rows.ensures.rows.one_each) (rows_within load (DependsOn load) rows c.in_ok-rows.ensures.rows) in
    record { within = subst (λ (rs : List (List Dependency)). AreWithin (length rs) rs) (sym c.deref.ensures.value) within }

pub loop-kind-preserved : goal.loop-kind-preserved
loop-kind-preserved c =
    let load = c.args.loaded.now in
    let dep = get_or c.all-all.result.now c.loop-kind.kind-index Before in
    let links : List (Vec Dependency Global) = c.deref-in-loop-kind.result.now in
    let P : ℕ → List (List ℕ) → Type 0 = λ k adjacency. AreEdgeAdjacency load (get_or c.all-all.result.now k Before) adjacency in
    let are = subst (λ (ls : List (Vec Dependency Global)). AreLinks load (links_in ls)) (sym c.deref-in-loop-kind.ensures.value)
    (links_of_rows load c.in_ok-rows.rows.items c.deref.result.now (links_in c.in_ok-links.links.items) c.deref.ensures.value c.in_ok-rows.ensures.rows c.in_ok-links.ensures.links) in
    made_more P c.loop-kind.kind-index _ _ c.in_ok-adjacency_by.field-0 c.loop-kind.invariant c.in_ok-push.ensures.items
    (edge_adjacency load (links_in links) are dep c.in_ok-adjacency_by.field-0 (length links) (sym (length-map links (λ (ls : Vec Dependency Global). ls.items))) c.in_ok-adjacency_by.ensures.lists)

pub invariant_of-result : goal.invariant_of-result
invariant_of-result c =
    (made_by_kinds (AreEdgeAdjacency c.args.loaded.now) c.all-all.result.now c.loop-kind.by_kind.items c.loop-kind.kind-index c.all-all.ensures.kinds (omega arith) c.loop-kind.invariant).0

pub returns : goal.returns
returns c =
    let made = made_by_kinds (AreEdgeAdjacency c.args.loaded.now) c.all-all.result.now c.loop-kind.by_kind.items c.loop-kind.kind-index c.all-all.ensures.kinds (omega arith) c.loop-kind.invariant in
    record { table = record { sorted = c.in_ok-rows.ensures.rows.sorted; all = made.0; each = made.1 } }
