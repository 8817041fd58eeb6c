use Rattle.std.proofs.Common.{◌++◌, ◌+◌, ◌∷◌, ◌≡◌}
use denote.Enum.Bare.{same_false, same_true}
use Rattle.inverse_deps.proofs.Prelude.{[], ap, AreIndicesBy, arith, Dependency, get_or, Global, List, subst, sym, take, take_all, take_more, Vec, ℕ, ◌∙◌}
use Rattle.inverse_deps.proofs.{Listing.{index_passed, index_read, no_dependency}, edge_table.indices_by.Goals.{else-eq, then-eq+in_ok-push}}
use Rattle.setting_rules.specs.contracts.kinds.DepKind as kinds
use Rattle.inverse_deps.proofs.edge_table.indices_by.Goals as goal

pub loop-dep-preserved : goal.loop-dep-preserved
loop-dep-preserved c =
    let deps : List Dependency = c.args.deps.now in
    let i = c.loop-dep.dep-index in
    let x : Dependency = get_or deps i no_dependency in
    let more : take (i + 1) deps ≡ take i deps ++ x ∷ [] = take_more deps i no_dependency c.loop-dep-test.true in
    elim c.if-eq.branch [
      | then-eq+in_ok-push w ↦ index_read c.args.kind (take i deps) (take (i + 1) deps) x more c.loop-dep.indices.items c.loop-dep.invariant _
          (same_true kinds.the_type tt x.kind c.args.kind (sym c.eq.ensures ∙ w.if-eq.true))
          (ap (λ (v : Vec ℕ Global). v.items) w.indices-is ∙ w.in_ok-push.ensures.items)
      | else-eq w ↦ index_passed c.args.kind (take i deps) (take (i + 1) deps) x more c.loop-dep.indices.items c.loop-dep.invariant _
          (same_false kinds.the_type x.kind c.args.kind (sym c.eq.ensures ∙ w.if-eq.false))
          (ap (λ (v : Vec ℕ Global). v.items) w.indices-is)
    ]

pub returns : goal.returns
returns c =
    let P : List Dependency → Type 0 = λ ds. AreIndicesBy ds c.args.kind c.loop-dep.indices.items in
    record { indices = subst P (take_all c.loop-dep.dep-index c.args.deps.now (omega arith)) c.loop-dep.invariant }
