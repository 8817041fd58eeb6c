use Rattle.dropins.proofs.{dirs.kinds_of.Goals.{else-not-has_kind, then-not-has_kind+in_ok-push}, KindWords.{kind_known, kind_new}, Prelude.{ap, arith, is_among, map, sym, word, ◌∙◌}}
use Rattle.dropins.proofs.dirs.kinds_of.Goals as goal

pub loop-name-preserved : goal.loop-name-preserved
loop-name-preserved c =
    let kind = c.kind-kind.result in
    let same = ap (λ ks. is_among (word kind) (map word ks)) c.as_slice.ensures.value in
    elim c.if-not-has_kind.branch [
      | then-not-has_kind+in_ok-push w ↦
          kind_new c.args.names.now c.loop-name.name-index c.name-item.result kind (omega arith) c.name-item.is c.kind-kind.ensures.kind c.loop-name.kinds.items c.loop-name.invariant
          (sym same ∙ sym w.if-not-has_kind.ensures.test) c.if-not-has_kind.kinds.items (ap (λ v. v.items) w.kinds-is ∙ w.in_ok-push.ensures.items)
      | else-not-has_kind w ↦
          ap (λ v. map word v.items) w.kinds-is
          ∙ kind_known c.args.names.now c.loop-name.name-index c.name-item.result kind (omega arith) c.name-item.is c.kind-kind.ensures.kind c.loop-name.kinds.items c.loop-name.invariant
          (sym same ∙ sym w.if-not-has_kind.ensures.test)
    ]
