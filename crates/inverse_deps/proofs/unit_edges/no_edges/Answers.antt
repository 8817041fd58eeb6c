use Rattle.std.proofs.Common.{◌++◌, ◌+◌, ◌∷◌, ◌≡◌}
use Rattle.inverse_deps.proofs.Prelude.{[], All, All-push, ap, arith, Before, DependencyList, DepKind, get_or, List, map, map-append, subst, sym, take, take_all, take_more, ◌∙◌}
use Rattle.inverse_deps.proofs.unit_edges.no_edges.Goals as goal

pub loop-kind-preserved : goal.loop-kind-preserved
loop-kind-preserved c =
    let i = c.loop-kind.kind-index in
    let ks : List DepKind = c.all-kinds.result.now in
    let dep : DepKind = get_or ks i Before in
    let list : DependencyList = record { kind = dep; names = c.new.result } in
    let kind_of : DependencyList → DepKind = λ l. l.kind in
    let P : DependencyList → Type 0 = λ l. l.names ≡ [] in
    let more : take (i + 1) ks ≡ take i ks ++ dep ∷ [] = take_more ks i Before c.loop-kind-test.true in
    let none : P list = c.new.ensures.empty in
    record {
      kinds_are =
          ap (map kind_of) c.in_ok-push.ensures.items ∙ map-append kind_of c.loop-kind.lists.items (list ∷ [])
          ∙ ap (λ (ds : List DepKind). ds ++ dep ∷ []) c.loop-kind.invariant.kinds_are ∙ sym more;
      none = subst (All P) (sym c.in_ok-push.ensures.items) (All-push P c.loop-kind.lists.items list c.loop-kind.invariant.none none);
    }

pub returns : goal.returns
returns c =
    let ks : List DepKind = c.all-kinds.result.now in
    let kind_of : DependencyList → DepKind = λ l. l.kind in
    let P : DependencyList → Type 0 = λ l. l.names ≡ [] in
    record {
      kinds = ap (map kind_of) c.from_vec.ensures.elements ∙ c.loop-kind.invariant.kinds_are ∙ take_all c.loop-kind.kind-index ks (omega arith) ∙ c.all-kinds.ensures.kinds;
      none = subst (All P) (sym c.from_vec.ensures.elements) c.loop-kind.invariant.none;
    }
