use Rattle.std.proofs.Common.{◌++◌, ◌+◌, ◌∷◌, ◌≡◌}
use Rattle.unit_graph.proofs.Prelude.{[], ap, arith, Bor, GraphMap, List, LoadedUnit, LoadMap, map, map-append, Name, refl, sym, take, take_all, take_more, units_in, ◌∙◌}
use Rattle.unit_graph.proofs.graph.Graph.members.Goals as goal

map_twice : {X Y Z : Type 0} (f : Y → Z) (g : X → Y) (xs : List X) → map (λ x. f (g x)) xs ≡ map f (map g xs)
map_twice f g [] = refl
map_twice f g (x ∷ xs) = ap (λ zs. f (g x) ∷ zs) (map_twice f g xs)

pub loop-unit-preserved : goal.loop-unit-preserved
loop-unit-preserved c =
    let i = c.loop-unit.unit-index in
    let xs : List (Bor LoadedUnit) = c.deref-unit-items.result.now in
    let f : Bor LoadedUnit → Name = λ u. u.now.name in
    let more : take (i + 1) xs ≡ take i xs ++ c.unit-item.result ∷ [] = take_more xs i c.unit-item.result c.loop-unit-test.true ∙ ap (λ (u : Bor LoadedUnit). take i xs ++ u ∷ []) (sym c.unit-item.is) in
    let copy : c.in_ok-try_clone.field-0 ≡ f c.unit-item.result = c.in_ok-try_clone.ensures.copy in
    c.in_ok-push.ensures.items ∙ ap (λ (l : List Name). l ++ c.in_ok-try_clone.field-0 ∷ []) c.loop-unit.invariant
    ∙ ap (λ (n : Name). map f (take i xs) ++ n ∷ []) copy
    ∙ sym (ap (map f) more ∙ map-append f (take i xs) (c.unit-item.result ∷ []))

pub returns : goal.returns
returns c =
    let xs : List (Bor LoadedUnit) = c.deref-unit-items.result.now in
    let f : Bor LoadedUnit → Name = λ u. u.now.name in
    let name : LoadedUnit → Name = λ u. u.name in
    let same : c.self.inside.loaded.now ≡ c.args.self.now.load = ap (λ (g : GraphMap). g.load) c.self.view_is in
    record {
      members =
          c.loop-unit.invariant ∙ ap (map f) (take_all c.loop-unit.unit-index xs (omega arith)) ∙ ap (map f) c.deref-unit-items.ensures.value
          ∙ map_twice name (λ (u : Bor LoadedUnit). u.now) c.in_ok-units.units.items
          ∙ ap (map name) (c.in_ok-units.ensures.units ∙ ap (λ (m : LoadMap). units_in m) same);
    }
