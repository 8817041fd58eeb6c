use Rattle.std.proofs.Common.{◌++◌, ◌+◌, ◌<◌, ◌∷◌, ◌≡◌}
use Rattle.inverse_deps.proofs.Prelude.{[], ap, AreTransposedIn, arith, Dependency, get_or, get_or-map, Global, length, length-map, links_in, List, map-set, refl, set, subst, sym, take, take_all, take_more, Vec, ◌∙◌}
use Rattle.inverse_deps.proofs.{Linking.{transposed_in_more, transposed_in_none}, Listing.{no_dependency}}
use Rattle.inverse_deps.proofs.links.add_transposed.Goals as goal

pub loop-dep-init : goal.loop-dep-init
loop-dep-init c = transposed_in_none _ _ c.args.from refl

pub loop-dep-preserved : goal.loop-dep-preserved
loop-dep-preserved c =
    let deps : List Dependency = c.args.deps.now in
    let i = c.loop-dep.dep-index in
    let x : Dependency = get_or deps i no_dependency in
    let y : Dependency = record { kind = c.inverse.result; index = c.args.from } in
    let adjacency : List (Vec Dependency Global) = c.loop-dep.links.items in
    let lists = links_in adjacency in
    let own : List Dependency = get_or lists x.index [] in
    let items : Vec Dependency Global → List Dependency = λ neighbors. neighbors.items in
    let more : take (i + 1) deps ≡ take i deps ++ x ∷ [] = take_more deps i no_dependency c.loop-dep-test.true in
    let below = c.requires.within i no_dependency c.loop-dep-test.true in
    let units = c.loop-dep.invariant.units in
    let count = length-map adjacency items in
    let counted = length-map c.args.links.now.items items in
    let within : x.index < length adjacency = omega (arith, below, units, count, counted) in
    let was : own ≡ c.index_mut.result.now.items = get_or-map items adjacency x.index c.index_mut.result.now [] within ∙ ap items (sym c.index_mut.ensures.value) in
    let is : links_in (set adjacency x.index c.push.new.self) ≡ set lists x.index (own ++ y ∷ []) =
    map-set items adjacency x.index c.push.new.self ∙ ap (λ (r : List Dependency). set lists x.index r) (c.in_ok-push.ensures.items ∙ ap (λ (r : List Dependency). r ++ y ∷ []) (sym was)) in
    transposed_in_more (links_in c.args.links.now.items) lists (links_in (set adjacency x.index c.push.new.self)) (take i deps) (take (i + 1) deps) x y c.args.from more c.loop-dep.invariant
    (omega (arith, within, count)) is c.inverse.ensures.inverse refl

pub returns : goal.returns
returns c =
    let old = links_in c.args.links.now.items in
    let new = links_in c.loop-dep.links.items in
    record {
      added = subst (λ (ds : List Dependency). AreTransposedIn old ds c.args.from new) (take_all c.loop-dep.dep-index c.args.deps.now (omega arith)) c.loop-dep.invariant;
    }
