use Rattle.std.proofs.Common.{◌<◌, ◌≡◌}
use Rattle.inverse_deps.proofs.Prelude.{[], ap, AreMade, arith, count_of, Dependency, get_or, HasAdded, length, List, made_more, Name, NameLoad, subst, ℕ}
use Rattle.inverse_deps.proofs.Mounting.{ByMountsAt, given_named, mounts_at_index}
use Rattle.inverse_deps.proofs.mounts.given_rows.Goals as goal

pub loop-index-preserved : goal.loop-index-preserved
loop-index-preserved c =
    let load = c.args.loaded.now in
    let names : List (Name × NameLoad) = c.names-names.result.now in
    let own : List (List Dependency) = c.dependencies-own.result.now in
    let i = c.loop-index.index in
    let same = ap length c.names-names.ensures.names in
    let each = c.dependencies-own.ensures.rows.one_each in
    let below : i < length own = omega (arith, c.loop-index-test.true, same, each) in
    let P : ℕ → List Dependency → Type 0 = λ k row. HasAdded (get_or own k []) (ByMountsAt load k) row in
    made_more P i c.loop-index.rows.items c.push.new.self.items c.in_ok-given_row.field-0 c.loop-index.invariant c.in_ok-push.ensures.items
    (mounts_at_index load names c.names-names.ensures.names own i c.loop-index-test.true below c.index-names-index.result c.index-names-index.result c.index-names-index.is c.index-own-index.result c.index-own-index.result
    c.index-own-index.is c.in_ok-given_row.field-0 c.in_ok-given_row.ensures.row)

pub returns : goal.returns
returns c =
    let load = c.args.loaded.now in
    let own : List (List Dependency) = c.dependencies-own.result.now in
    let same = ap length c.names-names.ensures.names in
    let done : c.loop-index.index ≡ count_of load = omega (arith, c.loop-index.auto.index-end, c.loop-index-test.false, same) in
    let made = subst (λ (n : ℕ). AreMade (λ k row. HasAdded (get_or own k []) (ByMountsAt load k) row) n c.loop-index.rows.items) done c.loop-index.invariant in
    record { rows = given_named load (rw c.names-names.ensures.names at c.names-names.ensures.sorted) own c.loop-index.rows.items c.dependencies-own.ensures.rows made }
