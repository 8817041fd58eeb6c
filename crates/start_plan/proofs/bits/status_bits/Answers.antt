use Rattle.std.proofs.Common.{◌≡◌}
use Rattle.start_plan.proofs.{BitSets.{bits_made, part_at}, Prelude.{ap, arith, Bool, is_loaded, is_manual, is_perpetual_by, length, made_more, name_at, sym, unit_in, ℕ, ◌∙◌}}
use Rattle.start_plan.proofs.bits.status_bits.Goals as goal

pub loop-index-preserved : goal.loop-index-preserved
loop-index-preserved c =
    let load = c.args.load.now in
    let i = c.loop-index.index in
    let L : ℕ → Bool → Type 0 = λ k b. b ≡ is_loaded (unit_in load (name_at load k)) in
    let M : ℕ → Bool → Type 0 = λ k b. b ≡ is_manual (unit_in load (name_at load k)) in
    let P : ℕ → Bool → Type 0 = λ k b. b ≡ is_perpetual_by load.viewer.profile (unit_in load (name_at load k)) in
    let unit = sym (part_at load c.names-names.result.now c.names-names.ensures.names c.names-names.ensures.sorted i c.index-names-index.result c.loop-index-test.true) in (
      made_more L i _ _ c.is_loaded.result c.loop-index.invariant.0 c.in_ok-push.ensures.items (c.is_loaded.ensures.loaded ∙ ap is_loaded unit),
      made_more M i _ _ c.is_manual.result c.loop-index.invariant.1 c.in_ok-push-2.ensures.items (c.is_manual.ensures.manual ∙ ap is_manual unit),
      made_more P i _ _ c.is_perpetual_by.result c.loop-index.invariant.2 c.in_ok-push-3.ensures.items
          (c.is_perpetual_by.ensures.perpetual ∙ ap (λ u. is_perpetual_by c.viewer.result.now.profile u) unit
          ∙ ap (λ v. is_perpetual_by v.profile (unit_in load (name_at load i))) c.viewer.ensures.viewer),
    )

pub returns : goal.returns
returns c =
    let load = c.args.load.now in
    let end : c.loop-index.index ≡ length c.names-names.result.now = omega (arith, c.loop-index-test.false, c.loop-index.auto.index-end) in
    let same = c.names-names.ensures.names in
    record {
      loaded = bits_made load c.names-names.result.now same is_loaded c.loop-index.index c.loop-index.loaded.items end c.loop-index.invariant.0;
      manual = bits_made load c.names-names.result.now same is_manual c.loop-index.index c.loop-index.manual.items end c.loop-index.invariant.1;
      perpetual = bits_made load c.names-names.result.now same (is_perpetual_by load.viewer.profile) c.loop-index.index c.loop-index.perpetual.items end c.loop-index.invariant.2;
    }
