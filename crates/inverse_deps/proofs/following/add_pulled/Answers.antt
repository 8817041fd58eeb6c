use Rattle.std.proofs.Common.{◌++◌, ◌+◌, ◌↔◌, ◌∷◌, ◌≡◌, ◌⊎◌}
use Rattle.inverse_deps.proofs.Prelude.{[], ap, arith, Dependency, get_or, Global, HasPulled, IsAmong, IsPulled, List, subst, take, take_all, take_more, Vec, ℕ, ◌∙◌}
use Rattle.inverse_deps.proofs.{Listing.{no_dependency}, Pulling.{denied, pulled_passed, pulled_read}, following.add_pulled.Goals.{else-is_pulled, then-is_pulled+in_ok-push}}
use Rattle.inverse_deps.proofs.following.add_pulled.Goals as goal

pub loop-dep-preserved : goal.loop-dep-preserved
loop-dep-preserved c =
    let names = c.args.names.now in
    let before : List ℕ = c.args.before.now in
    let deps : List Dependency = c.args.deps.now in
    let i = c.loop-dep.dep-index in
    let x : Dependency = get_or deps i no_dependency in
    let more : take (i + 1) deps ≡ take i deps ++ x ∷ [] = take_more deps i no_dependency c.loop-dep-test.true in
    elim c.if-is_pulled.branch [
      | then-is_pulled+in_ok-push w ↦ pulled_read names before (take i deps) (take (i + 1) deps) x more c.args.indices.now.items c.loop-dep.indices.items c.if-is_pulled.indices.items c.loop-dep.invariant
          (c.is_pulled.ensures.pulled.0 w.if-is_pulled.true) (ap (λ (v : Vec ℕ Global). v.items) w.indices-is ∙ w.in_ok-push.ensures.items)
      | else-is_pulled w ↦ pulled_passed names before (take i deps) (take (i + 1) deps) x more c.args.indices.now.items c.loop-dep.indices.items c.if-is_pulled.indices.items c.loop-dep.invariant
          (denied c.is_pulled.result (IsPulled names before x) c.is_pulled.ensures.pulled w.if-is_pulled.false) (ap (λ (v : Vec ℕ Global). v.items) w.indices-is)
    ]

pub returns : goal.returns
returns c =
    let P : List Dependency → Type 0 = λ ds. (j : ℕ) → IsAmong j c.loop-dep.indices.items ↔ (IsAmong j c.args.indices.now.items ⊎ HasPulled c.args.names.now c.args.before.now ds j) in
    record { added = subst P (take_all c.loop-dep.dep-index c.args.deps.now (omega arith)) c.loop-dep.invariant }
