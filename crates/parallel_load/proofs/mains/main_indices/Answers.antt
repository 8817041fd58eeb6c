use Rattle.std.proofs.Common.{◌++◌, ◌+◌, ◌∷◌, ◌≡◌}
use Rattle.parallel_load.proofs.{Indexing.{indexed_more, none_indexed}, Prelude.{[], ap, AreIndexed, IsMainIndex, key_at_place, List, Name, name_of, NameLoad, subst, sym, take, take_all, take_more, ℕ, ◌∙◌}}
use Rattle.parallel_load.proofs.mains.main_indices.Goals as goal

pub loop-index-init : goal.loop-index-init
loop-index-init c = none_indexed c.args.names.now _ c.in_ok-indices.ensures.items

pub loop-index-preserved : goal.loop-index-preserved
loop-index-preserved c =
    let names : List (Name × NameLoad) = c.args.names.now in
    let i = c.loop-index.index in
    let x : Name × NameLoad = c.index-names-index.result in
    let load : NameLoad = x.1 in
    let main = c.main_index-main.result in
    let key : name_of names i ≡ x.0 = sym (key_at_place names i x [] c.loop-index-test.true) ∙ ap (λ (p : Name × NameLoad). p.0) (sym c.index-names-index.is) in
    let first : (let p : Name × NameLoad = (name_of names i, load) in p) ≡ (x.0, load) = ap (λ (n : Name). let p : Name × NameLoad = (n, load) in p) key in
    let M : Name × NameLoad → Type 0 = λ p. IsMainIndex names p main in
    let m : Name × ℕ = (c.in_ok-try_clone.field-0, main) in
    let more : take (i + 1) names ≡ take i names ++ x ∷ [] =
    take_more names i x c.loop-index-test.true ∙ ap (λ (p : Name × NameLoad). take i names ++ p ∷ []) (sym c.index-names-index.is) in
    let P : List (Name × NameLoad) → Type 0 = λ ps. AreIndexed names ps c.push.new.self.items in
    let Q : List (Name × ℕ) → Type 0 = λ ns. AreIndexed names (take i names ++ x ∷ []) ns in
    subst P (sym more) (subst Q (sym c.in_ok-push.ensures.items)
    (indexed_more names (take i names) c.loop-index.indices.items x m c.loop-index.invariant c.in_ok-try_clone.ensures.copy (subst M first c.main_index-main.ensures.main)))

pub returns : goal.returns
returns c =
    let P : List (Name × NameLoad) → Type 0 = λ ps. AreIndexed c.args.names.now ps c.loop-index.indices.items in
    record { indexed = subst P (take_all c.loop-index.index c.args.names.now c.loop-index-test.false) c.loop-index.invariant }
