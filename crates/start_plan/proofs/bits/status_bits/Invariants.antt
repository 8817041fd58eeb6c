use Rattle.std.proofs.Common.{◌≡◌}
use Rattle.start_plan.proofs.Prelude.{AreMade, is_loaded, is_manual, is_perpetual_by, name_at, unit_in}
use Rattle.start_plan.proofs.bits.status_bits.Given as goal

abbrev pub invariant-loop-index : goal.invariant-loop-index
invariant-loop-index l =
    AreMade (λ k b. b ≡ is_loaded (unit_in l.load (name_at l.load k))) l.index l.loaded.items
    × AreMade (λ k b. b ≡ is_manual (unit_in l.load (name_at l.load k))) l.index l.manual.items
    × AreMade (λ k b. b ≡ is_perpetual_by l.load.viewer.profile (unit_in l.load (name_at l.load k))) l.index l.perpetual.items
