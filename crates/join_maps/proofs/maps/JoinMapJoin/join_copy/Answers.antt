use Rattle.join_maps.proofs.{HeldPairs.{joined_to_least}, Prelude.{map_chain, refl}}
use Rattle.join_maps.proofs.maps.JoinMapJoin.join_copy.Goals as goal

pub returns-in_err-self-inside-clause-known : goal.returns-in_err-self-inside-clause-known
returns-in_err-self-inside-clause-known g c = λ below.
    let least = c.if-is_bottom.ensures.least.0 refl in
    let t = c.if-is_bottom-2.ensures.least.1 (λ z. map_chain g.V.Join.below g.met.V.Join.reflexive g.met.V.Join.transitive g.K.Ord.cmp _ _ z below (least z)) in
    cc (t)

pub returns-then-is_bottom-clause-ok : goal.returns-then-is_bottom-clause-ok
returns-then-is_bottom-clause-ok g c =
    rw (c.branch.view_is, c.in_ok-self-inside.ensures.copy)
    (joined_to_least _ _ _ (c.if-is_bottom.ensures.least.0 refl))

pub returns-clause-single : goal.returns-clause-single
returns-clause-single g c = rw (← c.self.view_is) c.join_all_copies.ensures.joined.single
