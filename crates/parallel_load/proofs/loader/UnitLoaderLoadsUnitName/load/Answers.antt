use Rattle.std.proofs.Common.{◌≡◌}
use Rattle.parallel_load.proofs.Prelude.{ap, false, IfOk-weaker, IsAliasOf, IsLoadAlone, IsUnit, mains_are_their_own, Name, name_eq-Decides, OfUnit, Resolution, resolution, subst, sym, true, ◌∙◌}
use Rattle.parallel_load.proofs.loader.UnitLoaderLoadsUnitName.load.Goals as goal

differ : false ≡ true → ⊥
differ h = cc (h)

pub load_resolved-requires : goal.load_resolved-requires
load_resolved-requires c =
    let s = c.args.self.now.index in
    let e : c.in_ok-resolved.resolved ≡ resolution s c.args.node.now = c.in_ok-resolved.ensures.resolution in
    record { resolved = ap (λ (r : Resolution). resolution s r.main) e ∙ (mains_are_their_own s c.args.node.now).1 ∙ sym e }

pub returns-in_ok-unit : goal.returns-in_ok-unit
returns-in_ok-unit c =
    let s = c.args.self.now.index in
    let same : c.in_ok-resolved.resolved.main ≡ c.args.node.now = (name_eq-Decides c.in_ok-resolved.resolved.main c.args.node.now).0 (sym c.eq.ensures ∙ c.if-eq.true) in
    let is = subst (λ (n : Name). IsUnit s n c.in_ok-unit.unit) same c.in_ok-unit.ensures.unit in
    record {
      loaded =
          IfOk-weaker c.fresh.result (λ one. one ≡ OfUnit c.in_ok-unit.unit) (λ one. IsLoadAlone s c.args.node.now one)
          (λ one e. subst (IsLoadAlone s c.args.node.now) (sym e) is) c.fresh.ensures.kept;
    }

pub returns-else-eq : goal.returns-else-eq
returns-else-eq c =
    let s = c.args.self.now.index in
    let e : c.in_ok-resolved.resolved ≡ resolution s c.args.node.now = c.in_ok-resolved.ensures.resolution in
    let is : IsAliasOf s c.args.node.now c.in_ok-resolved.resolved.main = record {
      main_is = sym (ap (λ (r : Resolution). r.main) e);
      other = λ f. differ (sym c.if-eq.false ∙ c.eq.ensures ∙ (name_eq-Decides c.in_ok-resolved.resolved.main c.args.node.now).1 f);
    } in
    record {
      loaded = subst (IsLoadAlone s c.args.node.now) (sym c.alias.ensures.kept) is;
    }
