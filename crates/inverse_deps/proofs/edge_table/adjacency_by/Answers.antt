use Rattle.std.proofs.Common.{◌<◌, ◌↔◌, ◌≡◌}
use Rattle.inverse_deps.proofs.Prelude.{[], ap, AreIndicesBy, Dependency, DepKind, get_or, get_or-map, Global, IsAmong, IsKindList, IsStrictlySortedBy, length, links_in, List, made_more, nat_cmp, subst, sym, Vec, ℕ, ◌∙◌}
use Rattle.inverse_deps.proofs.edge_table.adjacency_by.Goals as goal

-- the list at an index, as code reads it, and the indices of a kind in it
kind_list : (links : List (Vec Dependency Global)) (dep : DepKind) (i : ℕ) → i < length links → (x : Vec Dependency Global) → x ≡ get_or links i x → (deps : List Dependency) → deps ≡ x.items
    → (read put nodes : List ℕ) → AreIndicesBy deps dep read → IsStrictlySortedBy nat_cmp put → ((v : ℕ) → IsAmong v put ↔ IsAmong v read) → nodes ≡ put → IsKindList (links_in links) dep i nodes
kind_list links dep i below x x_is deps deps_are read put nodes by ascending members same =
    let items : Vec Dependency Global → List Dependency = λ ls. ls.items in
    let here : deps ≡ get_or (links_in links) i [] = deps_are ∙ ap items x_is ∙ sym (get_or-map items links i x [] below) in
    subst (λ (is : List ℕ). IsKindList (links_in links) dep i is) (sym same) (record {
      ascending = ascending;
      exact = subst (λ (ds : List Dependency). AreIndicesBy ds dep put) here (λ v. (λ h. (by v).0 ((members v).0 h), λ h. (members v).1 ((by v).1 h)));
    })

pub loop-deps-preserved : goal.loop-deps-preserved
loop-deps-preserved c =
    made_more (IsKindList (links_in c.args.links.now) c.args.kind) c.loop-deps.deps-index _ _ c.deref-in-loop-deps.result.now c.loop-deps.invariant c.in_ok-push.ensures.added
    (kind_list c.args.links.now c.args.kind c.loop-deps.deps-index c.loop-deps-test.true c.deps-item.result c.deps-item.is c.deref.result.now c.deref.ensures.value
    c.indices_by.new.indices.items c.put_in_order.new.nodes.items c.deref-in-loop-deps.result.now c.in_ok-indices_by.ensures.indices c.put_in_order.ensures.ascending c.put_in_order.ensures.members
    c.deref-in-loop-deps.ensures.value)
