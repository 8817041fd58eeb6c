-- A store has one load.
use Rattle.std.proofs.Common.{◌∷◌, ◌≡◌}
use Rattle.parallel_load.specs.Prelude.{[], ap, DependencyList, HostViewMap, keys_of, List, main, Name, name_cmp, nat_list_cmp_total, one_closure, one_load_of_nodes, one_unit, refl, subst, sym, ◌∙◌}
use Rattle.parallel_load.specs.{AloneLaws.{one_of_name}, declared.loaded.NameLoad.{NameLoad, TheVariants.{Alias as OfAlias, Unit as OfUnit}}, Loads.{AreNamedAlone, by_mains, IsLoad, IsNamedAlone, IsNameLoad, lists_in, LoadMap, with_lists}, OwnWordLaws.{one_list_of_words}, Universe.{IsSource, LeadsTo}}

-- A store and names that are asked for have one load.
abbrev pub OneLoad : Type 0
OneLoad = (s : HostViewMap) (extra : List Name) (a b : LoadMap) → IsLoad s extra a → IsLoad s extra b → a ≡ b

-- and a name resolves to one thing
pub one_name_load : (s : HostViewMap) (name : Name) (x y : NameLoad) → IsNameLoad s name x → IsNameLoad s name y → x ≡ y
one_name_load s name (OfUnit u) (OfUnit v) p q =
    ap OfUnit (p.by_mains_is ∙ ap (by_mains (main s)) (one_unit s name p.alone q.alone p.is_unit q.is_unit) ∙ sym q.by_mains_is)
one_name_load s name (OfUnit u) (OfAlias m) p q = absurd (q.other (sym q.main_is ∙ p.is_unit.main_is))
one_name_load s name (OfAlias m) (OfUnit v) p q = absurd (p.other (sym p.main_is ∙ q.is_unit.main_is))
one_name_load s name (OfAlias m) (OfAlias k) p q = ap OfAlias (sym p.main_is ∙ q.main_is)

-- and has one list for each kind
one_list : (s : HostViewMap) (name : Name) (one : NameLoad) (a b : List DependencyList) → IsNamedAlone s name one a
    → IsNamedAlone s name one b → a ≡ b
one_list s name one a b p q = p.lists_are ∙ ap lists_in (one_of_name s name (with_lists one a) (with_lists one b) p.alone q.alone) ∙ sym q.lists_are

one_named : (s : HostViewMap) (names : List (Name × NameLoad)) (a b : List (List DependencyList))
    → AreNamedAlone s names a → AreNamedAlone s names b → a ≡ b
one_named s [] [] [] p q = refl
one_named s [] (x ∷ a) b p q = absurd p
one_named s [] [] (y ∷ b) p q = absurd q
one_named s (n ∷ names) [] b p q = absurd p
one_named s (n ∷ names) (x ∷ a) [] p q = absurd q
one_named s (n ∷ names) (x ∷ a) (y ∷ b) p q =
    ap (λ (l : List DependencyList). l ∷ a) (one_list s n.0 n.1 x y p.0 q.0) ∙ ap (λ (ls : List (List DependencyList)). y ∷ ls) (one_named s names a b p.1 q.1)

pub one_load : OneLoad
one_load s extra a b p q =
    let nodes = one_closure (IsSource s extra) (LeadsTo s) name_cmp nat_list_cmp_total (keys_of a.names) (keys_of b.names) p.universe q.universe in
    let names = one_load_of_nodes (IsNameLoad s) (one_name_load s) a.names b.names nodes p.loaded q.loaded in
    let viewer = p.viewer_is ∙ sym q.viewer_is in
    let asked = p.extra_is ∙ sym q.extra_is in
    let named = one_named s a.names a.named b.named p.named (subst (λ (ps : List (Name × NameLoad)). AreNamedAlone s ps b.named) (sym names) q.named) in
    let words = one_list_of_words s a.words b.words p.words q.words in
    (λ i. record { viewer = viewer i; extra = asked i; names = names i; named = named i; words = words i })
