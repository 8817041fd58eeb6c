use Rattle.std.proofs.Common.{◌↔◌, ◌≡◌}
use Rattle.parallel_load.proofs.{Keeping.{order_ascends, order_stays}, Prelude.{ap, dedup_is, eq_by_cmp, footprint, IsAmong, List, LoadedUnit, Name, name_cmp, option_copied, same_Some, subst, sym, ℕ, ◌∙◌}}
use Rattle.parallel_load.proofs.footprints.footprint.Goals as goal

pub returns-clause-ascending : goal.returns-clause-ascending
returns-clause-ascending c =
    order_ascends c.in_ok-parts.parts.items c.sort_unstable.new.self.items c.dedup.new.self.items c.sort_unstable.ensures.permutation c.sort_unstable.ensures.sorted (dedup_is (eq_by_cmp name_cmp) _ _ c.dedup.ensures.filtered)

pub returns-clause-exact : goal.returns-clause-exact
returns-clause-exact c unit e =
    let d : List (List ℕ) = c.dedup.new.self.items in
    let same : c.in-Some.unit.now ≡ unit = same_Some _ _ (sym (ap option_copied c.in-Some.is) ∙ c.unit.ensures.unit ∙ e) in
    let P : List (List ℕ) → Type 0 = λ parts. (part : List ℕ) → IsAmong part d ↔ IsAmong part parts in
    let Q : LoadedUnit → Type 0 = λ u. P (footprint c.args.name.now u.names) in
    let R : List Name → Type 0 = λ ns. P (footprint c.args.name.now ns) in
    subst Q same (subst R c.as_slice.ensures.elements (subst P c.in_ok-parts.ensures.parts
    (order_stays c.in_ok-parts.parts.items c.sort_unstable.new.self.items d c.sort_unstable.ensures.permutation c.sort_unstable.ensures.sorted (dedup_is (eq_by_cmp name_cmp) _ _ c.dedup.ensures.filtered))))
