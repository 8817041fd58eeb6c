use Rattle.std.proofs.Common.{◌∷◌}
use Rattle.parallel_load.proofs.{Keeping.{all_more}, Prelude.{[], All, All-head, All-tail, inl, inr, IsAmong, IsSource, List, Name, subst, take_all}}
use Rattle.parallel_load.proofs.asked.are_sources.Goals as goal

-- what holds of all names holds of each that is among them
of_each : (P : Name → Type 0) (names : List Name) → All P names → (n : Name) → IsAmong n names → P n
of_each P [] all n h = absurd h
of_each P (x ∷ xs) all n (inl e) = subst P e (All-head P x xs all)
of_each P (x ∷ xs) all n (inr h) = of_each P xs (All-tail P x xs all) n h

pub loop-name-preserved : goal.loop-name-preserved
loop-name-preserved c =
    all_more (IsSource c.args.view.now c.args.others.now) c.args.names.now c.loop-name.name-index c.name-item.result c.name-item.result c.loop-name-test.true
    c.name-item.is c.loop-name.invariant (c.is_source.ensures.source c.if-not-is_source.false)

pub returns : goal.returns
returns c =
    let P : Name → Type 0 = IsSource c.args.view.now c.args.others.now in
    record {
      sources = λ _. of_each P c.args.names.now (subst (All P) (take_all c.loop-name.name-index c.args.names.now c.loop-name-test.false) c.loop-name.invariant);
    }
