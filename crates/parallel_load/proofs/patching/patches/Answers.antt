use Rattle.std.{proofs.Common.{◌<◌}, specs.declared.vec.Vec.{Vec}}
use Rattle.parallel_load.proofs.Prelude.{All, ap, AreReadOrLeft, CachedRows, Global, host_view_of, IfSome, IsOwnUnit, length, List, Name, NameLoad, Option, subst, sym, Viewer, with_loads, ℕ, ◌∙◌}
use Rattle.parallel_load.proofs.{Again.{one_each, owns, read_for}, UnitsPut.{units_of}}
use Rattle.parallel_load.proofs.patching.patches.Goals as goal

pub units_again-requires : goal.units_again-requires
units_again-requires c =
    let P : Viewer → Type 0 = λ viewer. All (IsOwnUnit (host_view_of c.args.store.now viewer)) c.names.result.now in
    let Q : List (Name × NameLoad) → Type 0 = λ names. All (IsOwnUnit (host_view_of c.args.store.now c.args.loaded.now.viewer)) names in
    let R : List (Name × NameLoad) → Type 0 = λ names. All (λ i. i < length names) c.deref.result.now in
    let S : List ℕ → Type 0 = λ affected. All (λ i. i < length c.args.loaded.now.names) affected in
    record {
      affected = subst R (sym c.names.ensures.names) (subst S (sym c.deref.ensures.value) c.in_ok-affected.ensures.within);
      each = ap (λ (k : CachedRows). length k.named.items) c.get.ensures.value ∙ ap length c.in_ok-kept.ensures.named
          ∙ one_each c.args.loaded.now.names c.args.loaded.now.named c.in_ok-kept.kept.deps.items c.in_ok-kept.kept.mains c.in_ok-kept.ensures.kept ∙ ap length (sym c.names.ensures.names);
      own = subst P (sym c.viewer-viewer.ensures.viewer) (subst Q (sym c.names.ensures.names)
          (owns c.args.loaded.now c.args.store.now c.args.touched.now c.requires.before c.requires.words c.args.parts.now c.requires.parts c.in_ok-kept.kept.deps.items c.in_ok-kept.kept.mains
          c.in_ok-kept.ensures.kept));
    }

pub returns : goal.returns
returns c =
    let P : Option (Vec (ℕ × NameLoad) Global) → Type 0 = λ o. IfSome o (λ units. AreReadOrLeft (host_view_of c.args.store.now c.viewer-viewer.result.now) c.get.result.now.mains c.deref.result.now
    c.names.result.now c.get.result.now.named.items (with_loads c.names.result.now units.items)) in
    let Q : Option (Vec (ℕ × NameLoad) Global) → Type 0 = λ o. IfSome o (λ units. All (λ u. u.0 < length c.names.result.now) units.items) in
    let H : List ℕ → Type 0 = λ affected. AreReadOrLeft (host_view_of c.args.store.now c.viewer-viewer.result.now) c.get.result.now.mains affected c.names.result.now c.get.result.now.named.items
    (with_loads c.names.result.now c.in-Some.units.items) in
    let R : List (Name × NameLoad) → Type 0 = λ names. All (λ u. u.0 < length names) c.in-Some.units.items in
    record {
      units = units_of c.args.loaded.now c.args.store.now c.args.touched.now c.requires.before c.requires.words c.args.parts.now c.requires.parts
          (record { kept = c.in_ok-kept.kept; units = c.in-Some.units }) c.in_ok-kept.ensures.named c.in_ok-kept.ensures.words c.in_ok-kept.ensures.kept
          (subst R c.names.ensures.names (subst Q c.in-Some.is c.in_ok-units.ensures.within))
          c.in_ok-affected.affected.items c.in_ok-affected.ensures.affected
          (read_for c.args.store.now c.viewer-viewer.result.now c.args.loaded.now.viewer c.in_ok-affected.affected.items c.get.result.now.mains c.in_ok-kept.kept.mains c.names.result.now c.args.loaded.now.names
          c.get.result.now.named.items c.args.loaded.now.named c.in-Some.units.items c.viewer-viewer.ensures.viewer (ap (λ (k : CachedRows). k.mains) c.get.ensures.value) c.names.ensures.names
          (ap (λ (k : CachedRows). k.named.items) c.get.ensures.value ∙ c.in_ok-kept.ensures.named) (subst H c.deref.ensures.value (subst P c.in-Some.is c.in_ok-units.ensures.again)))
          c.in_ok-kept.ensures.second;
    }
