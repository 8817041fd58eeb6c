use Rattle.std.proofs.Common.{◌+◌, ◌<◌}
use Rattle.parallel_load.proofs.Prelude.{All, all_among, ap, AreAffected, AreAffectedBy, get_or, GrowsWithin, length, List, subst, sym, take, take_all, ℕ}
use Rattle.parallel_load.proofs.{affected_units.indices_affected.Goals.{in-None+in_ok-add_by_search_prefix-in-None, in-Some+in_ok-add_of_type-in-Some}, Keeping.{get_among}, Seeking.{affected_more}}
use Rattle.parallel_load.proofs.affected_units.indices_affected.Goals as goal

pub loop-part-preserved : goal.loop-part-preserved
loop-part-preserved c =
    let names = c.args.loaded.now.names in
    let parts = c.args.parts.now in
    let i = c.loop-part.part-index in
    let limit = length names in
    let P : List ℕ → Type 0 = λ affected. All (λ n. n < limit) affected × AreAffected (take (i + 1) parts) names affected in
    let more : (new : List ℕ) → GrowsWithin limit c.loop-part.affected.items new → AreAffectedBy names new c.part-item.result → P new = λ new grows one.
    (grows.within c.loop-part.invariant.0, affected_more limit parts names c.loop-part.affected.items new i c.part-item.result c.loop-part-test.true c.part-item.is grows c.loop-part.invariant.1 one) in
    elim c.match-type_of.branch [
      | in-Some+in_ok-add_of_type-in-Some w ↦
          subst P (sym (ap (λ v. v.items) w.affected-is)) (more w.add_of_type.new.affected.items w.in_ok-add_of_type-in-Some.ensures.grows w.in_ok-add_of_type-in-Some.ensures.affected)
      | in-None+in_ok-add_by_search_prefix-in-None w ↦
          subst P (sym (ap (λ v. v.items) w.affected-is)) (more w.add_by_search_prefix.new.affected.items w.in_ok-add_by_search_prefix-in-None.ensures.grows w.in_ok-add_by_search_prefix-in-None.ensures.affected)
    ]

pub returns-clause-within : goal.returns-clause-within
returns-clause-within c = λ k d l.
    all_among (λ (i : ℕ). i < length c.args.loaded.now.names) c.loop-part.affected.items (get_or c.put_in_order.new.nodes.items k d) c.loop-part.invariant.0
    ((c.put_in_order.ensures.members (get_or c.put_in_order.new.nodes.items k d)).0 (get_among c.put_in_order.new.nodes.items k d l))

pub returns-clause-affected : goal.returns-clause-affected
returns-clause-affected c =
    let all : AreAffected c.args.parts.now c.args.loaded.now.names c.loop-part.affected.items =
    subst (λ (ps : List (List ℕ)). AreAffected ps c.args.loaded.now.names c.loop-part.affected.items) (take_all c.loop-part.part-index c.args.parts.now c.loop-part-test.false) c.loop-part.invariant.1 in
    λ part a i l p h. (c.put_in_order.ensures.members i).1 (all part a i l p h)
