use Rattle.inverse_deps.proofs.Prelude.{AreFoundIn, AreMade, Before, Dependency, Global, IfOk-weaker, IsBeforeList, IsKindList, length, length-map, links_in, List, subst, sym, Vec}
use Rattle.inverse_deps.proofs.Pulling.{before_linked}
use Rattle.inverse_deps.proofs.following.before_of.Goals as goal

pub returns : goal.returns
returns c =
    let rows : List (List Dependency) = c.args.given.now in
    let links : List (Vec Dependency Global) = c.deref.result.now in
    let found : AreFoundIn rows (length rows) (links_in links) = subst (λ (ls : List (Vec Dependency Global)). AreFoundIn rows (length rows) (links_in ls)) (sym c.deref.ensures.value) c.in_ok-links.ensures.links in
    record {
      before = IfOk-weaker c.adjacency_by.result (AreMade (IsKindList (links_in links) Before) (length links)) (AreMade (IsBeforeList rows) (length rows))
          (λ lists made. before_linked rows (links_in links) found lists (length links) (sym (length-map links (λ (ls : Vec Dependency Global). ls.items))) made) c.adjacency_by.ensures.lists;
    }
