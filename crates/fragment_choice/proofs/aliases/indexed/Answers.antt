use Rattle.std.proofs.Common.{◌≡◌}
use Rattle.fragment_choice.proofs.{aliases.indexed.Goals.{in-Some+in_ok-try_clone+in_ok-try_clone-2+in_ok-put_under+in_ok-put_alias, in_default}, Indexing.{maps_more, maps_same, no_pairs}, Prelude.{alias_in, aliases_in, AreMapsOf, NamedWords, subst, sym, take_all, ◌∙◌}}
use Rattle.fragment_choice.proofs.aliases.indexed.Goals as goal

pub loop-name-init : goal.loop-name-init
loop-name-init c = no_pairs c.new-aliases.result c.new-owners.result c.new-aliases.ensures.empty c.new-owners.ensures.empty

pub loop-name-preserved : goal.loop-name-preserved
loop-name-preserved c =
    let i = c.loop-name.name-index in
    let x = c.loop-name-item.result in
    let said : alias_in x ≡ c.in_ok-own.field-0 = sym c.in_ok-own.ensures.alias in
    elim c.match-branch-2.branch [
      | in-Some+in_ok-try_clone+in_ok-try_clone-2+in_ok-put_under+in_ok-put_alias w ↦
          maps_more c.args.targets.now i x c.loop-name-test.true c.loop-name-item.is w.in-Some.own w.in-Some.alias w.in_ok-try_clone-2.field-0 w.in_ok-try_clone.field-0
          c.loop-name.aliases w.put_alias.new.aliases c.match-branch-2.aliases c.loop-name.owners w.put_under.new.owners c.match-branch-2.owners
          (said ∙ w.in-Some.is) c.loop-name.invariant w.in_ok-put_under.ensures.put w.in_ok-try_clone-2.ensures.copy w.in_ok-try_clone.ensures.copy w.in_ok-put_alias.ensures.put
          w.aliases-is w.owners-is
      | in_default w ↦
          maps_same c.args.targets.now i x c.loop-name-test.true c.loop-name-item.is c.loop-name.aliases c.match-branch-2.aliases c.loop-name.owners c.match-branch-2.owners
          (said ∙ w.in_default.is) c.loop-name.invariant w.aliases-is w.owners-is
    ]

pub returns : goal.returns
returns c = record {
  index = subst (λ (all : NamedWords). AreMapsOf (aliases_in all) c.loop-name.aliases c.loop-name.owners) (take_all c.loop-name.name-index c.args.targets.now c.loop-name-test.false) c.loop-name.invariant;
}
