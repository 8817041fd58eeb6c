use Rattle.parallel_load.proofs.{loaded.Loaded.units.Goals.{in-Unit+in_ok-push, in_default}, Prelude.{ap, Bor, LoadedUnit, map, map-append, Some, sym, unit_part, ◌∙◌}, Steps.{made_none, made_one}}
use Rattle.parallel_load.proofs.loaded.Loaded.units.Goals as goal

pub loop-load-preserved : goal.loop-load-preserved
loop-load-preserved c = elim c.match-load.branch [
  | in-Unit+in_ok-push w ↦
      ap (λ us. map (λ (u : Bor LoadedUnit). u.now) us.items) w.units-is ∙ ap (map (λ (u : Bor LoadedUnit). u.now)) w.in_ok-push.ensures.items
      ∙ map-append (λ (u : Bor LoadedUnit). u.now) c.loop-load.units.items _
      ∙ made_one (λ p. unit_part p.1) c.deref-load-items.result.now c.loop-load.load-index c.loop-load-item.result c.loop-load-item.result c.loop-load-test.true c.loop-load-item.is
      (map (λ (u : Bor LoadedUnit). u.now) c.loop-load.units.items) w.get.result.now (ap unit_part w.in-Unit.is ∙ ap Some (sym w.get.ensures.value)) c.loop-load.invariant
  | in_default w ↦
      ap (λ us. map (λ (u : Bor LoadedUnit). u.now) us.items) w.units-is
      ∙ made_none (λ p. unit_part p.1) c.deref-load-items.result.now c.loop-load.load-index c.loop-load-item.result c.loop-load-item.result c.loop-load-test.true c.loop-load-item.is
      (map (λ (u : Bor LoadedUnit). u.now) c.loop-load.units.items) (ap unit_part w.in_default.is) c.loop-load.invariant
]
