use Rattle.std.proofs.Common.{◌≡◌}
use Rattle.parallel_load.proofs.{Keeping.{any_there}, Prelude.{ap, false, footprint, IsAmong, List, LoadedUnit, OfUnit, subst, sym, true, ℕ, ◌∙◌}}
use Rattle.parallel_load.proofs.affected_units.is_in_footprint.Goals as goal

same_unit : (w v : LoadedUnit) → OfUnit w ≡ OfUnit v → w ≡ v
same_unit w v k = cc (k)

pub returns-in_ok-footprint-in-Unit : goal.returns-in_ok-footprint-in-Unit
returns-in_ok-footprint-in-Unit c = record {
  missed = λ f h.
      (let unit : h.unit ≡ c.in-Unit.unit = same_unit h.unit c.in-Unit.unit (sym h.load_is ∙ c.in-Unit.is) in
      let parts : footprint c.args.name.now h.unit.names ≡ c.deref.result.now =
      ap (λ (u : LoadedUnit). footprint c.args.name.now u.names) unit
      ∙ sym (c.deref.ensures.value ∙ c.in_ok-footprint-in-Unit.ensures.parts
      ∙ ap (footprint c.args.name.now) (c.as_slice.ensures.elements ∙ ap (λ (u : LoadedUnit). u.names) c.get.ensures.value)) in
      let wrong : false ≡ true = sym f ∙ c.contains.ensures.value
      ∙ any_there c.args.part.now c.deref.result.now (subst (λ (ps : List (List ℕ)). IsAmong c.args.part.now ps) parts h.there) in
      cc (wrong));
}
