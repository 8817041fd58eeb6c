-- At most one thing is loaded for a name.
use Rattle.std.proofs.Common.{◌≡◌}
use Rattle.parallel_load.specs.Prelude.{ap, HostViewMap, Name, one_unit, sym, ◌∙◌}
use Rattle.parallel_load.specs.{Alone.{IsLoadAlone}, declared.{loaded.NameLoad.{NameLoad, TheVariants.{Alias as OfAlias, Unit as OfUnit}}, loader.UnitLoader.{UnitLoader}}}

pub one_of_name : (s : HostViewMap) (name : Name) (x y : NameLoad) → IsLoadAlone s name x → IsLoadAlone s name y → x ≡ y
one_of_name s name (OfUnit u) (OfUnit v) p q = ap OfUnit (one_unit s name u v p q)
one_of_name s name (OfUnit u) (OfAlias m) p q = absurd (q.other (sym q.main_is ∙ p.main_is))
one_of_name s name (OfAlias m) (OfUnit v) p q = absurd (p.other (sym p.main_is ∙ q.main_is))
one_of_name s name (OfAlias m) (OfAlias k) p q = ap OfAlias (sym p.main_is ∙ q.main_is)

pub one_alone : (loader : UnitLoader) (name : Name) (x y : NameLoad) → IsLoadAlone loader.index name x
    → IsLoadAlone loader.index name y → x ≡ y
one_alone loader = one_of_name loader.index
