use Rattle.std.proofs.Common.{◌++◌, ◌+◌, ◌<◌, ◌∷◌, ◌≡◌}
use Rattle.parallel_load.proofs.Prelude.{[], All, All-append, All-cons, All-nil, all_among, ap, AreReadOrLeft, DependencyList, get_or, host_view_of, IfSome, IsOwnUnit, IsReadAgain, length, List, Name, NameLoad, Option, subst, sym, take, take_all, take_more, with_loads, ℕ, ◌∙◌}
use Rattle.parallel_load.proofs.{Again.{item_among}, UnitsPut.{none_read, read_next}}
use Rattle.parallel_load.proofs.patching.units_again.Goals as goal

pub loop-index-init : goal.loop-index-init
loop-index-init c =
    let P : ℕ × NameLoad → Type 0 = λ u. u.0 < length c.args.names.now in (
      subst (All P) (sym c.in_ok-units.ensures.items) (All-nil P),
      none_read (host_view_of c.args.store.now c.args.viewer.now) c.args.kept.now.mains c.args.names.now c.as_slice-named.result.now c.in_ok-units.units.items c.in_ok-units.ensures.items,
    )

pub unit_again-requires : goal.unit_again-requires
unit_again-requires c =
    let index = get_or c.args.affected.now c.loop-index.index-index 0 in
    record {
      own =
          all_among (IsOwnUnit (host_view_of c.args.store.now c.args.viewer.now)) c.args.names.now c.index-names-index.result c.requires.own
          (item_among c.args.names.now index c.index-names-index.result (c.requires.affected c.loop-index.index-index 0 c.loop-index-test.true) c.index-names-index.is);
    }

pub loop-index-preserved : goal.loop-index-preserved
loop-index-preserved c =
    let t = host_view_of c.args.store.now c.args.viewer.now in
    let ms = c.args.kept.now.mains in
    let names : List (Name × NameLoad) = c.args.names.now in
    let named : List (List DependencyList) = c.as_slice-named.result.now in
    let affected : List ℕ = c.args.affected.now in
    let i = c.loop-index.index-index in
    let index = get_or affected i 0 in
    let units : List (ℕ × NameLoad) = c.loop-index.units.items in
    let u : ℕ × NameLoad = (index, c.in-Some.unit) in
    let x : Name × NameLoad = c.index-names-index.result in
    let lists : List DependencyList = c.index-named-index.result in
    let below : index < length names = c.requires.affected i 0 c.loop-index-test.true in
    let each : length named ≡ length names = ap length c.as_slice-named.ensures.value ∙ c.requires.each in
    let P : ℕ × NameLoad → Type 0 = λ v. v.0 < length names in
    let Q : Option NameLoad → Type 0 = λ o. IfSome o (IsReadAgain t ms x lists) in
    let R : List ℕ → Type 0 = λ read. AreReadOrLeft t ms read names named (with_loads names (units ++ u ∷ [])) in
    let S : List (ℕ × NameLoad) → Type 0 = λ us. All P us × AreReadOrLeft t ms (take (i + 1) affected) names named (with_loads names us) in
    subst S (sym c.in_ok-push.ensures.items) (
      All-append P units (u ∷ []) c.loop-index.invariant.0 (All-cons P u [] below (All-nil P)),
      subst R (sym (take_more affected i 0 c.loop-index-test.true))
          (read_next t ms names named (take i affected) units u x lists c.loop-index.invariant.1 below each c.index-names-index.is c.index-named-index.is
          (subst Q c.in-Some.is c.in_ok-unit.ensures.again)),
    )

pub returns : goal.returns
returns c =
    let t = host_view_of c.args.store.now c.args.viewer.now in
    let names : List (Name × NameLoad) = c.args.names.now in
    let units : List (ℕ × NameLoad) = c.loop-index.units.items in
    let P : List ℕ → Type 0 = λ read. AreReadOrLeft t c.args.kept.now.mains read names c.as_slice-named.result.now (with_loads names units) in
    let Q : List (List DependencyList) → Type 0 = λ ls. AreReadOrLeft t c.args.kept.now.mains c.args.affected.now names ls (with_loads names units) in
    record {
      within = c.loop-index.invariant.0;
      again = subst Q c.as_slice-named.ensures.value (subst P (take_all c.loop-index.index-index c.args.affected.now c.loop-index-test.false) c.loop-index.invariant.1);
    }
