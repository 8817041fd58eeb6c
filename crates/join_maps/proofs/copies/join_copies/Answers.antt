use Rattle.std.{proofs.Common.{◌∷◌, ◌≡◌}, specs.FinMap.{find}}
use Rattle.join_maps.proofs.Prelude.{[], AreCopiesJoined, arith, drop, IsHeld, IsJoin, IsMap, MapBelow, None, OnFalse, OnTrue, subst, sym}
use Rattle.join_maps.proofs.CopyWalks.{copied_all, copied_first, copied_more, drop_is_map, held_at, not_known, rest_copied, still_known, stopped_joined, take_rest}
use Rattle.join_maps.proofs.copies.join_copies.Goals as goal

pub join_pair_copy-requires-clause-held : goal.join_pair_copy-requires-clause-held
join_pair_copy-requires-clause-held g c =
    subst (λ pair. IsHeld g.V.Join.below g.V.Join.is_valid pair.1) (sym c.index-other-i.is)
    (held_at g.V.Join.below g.V.Join.is_valid c.args.other.now c.loop-i.i c.index-other-i.result c.loop-i-test.true c.requires.other_map.held)

pub returns-in_err-join_pair_copy-clause-joined : goal.returns-in_err-join_pair_copy-clause-joined
returns-in_err-join_pair_copy-clause-joined g c =
    stopped_joined g.K.Ord.cmp g.met.K.Ord.total g.V.Join.below g.met.V.Join.reflexive g.met.V.Join.transitive g.V.Join.is_valid _ _ _ _ c.loop-i.invariant c.index-other-i.result c.index-other-i.is c.loop-i-test.true c.requires.other_map g.V.Join.is_single _ _ c.from_residual.ensures.0
    c.in_err-join_pair_copy.ensures.map c.in_err-join_pair_copy.ensures.refused c.in_err-join_pair_copy.ensures.single

pub returns-in_err-join_pair_copy-clause-known : goal.returns-in_err-join_pair_copy-clause-known
returns-in_err-join_pair_copy-clause-known g c = λ known.
    let ok = c.in_err-join_pair_copy.ensures.known (still_known g.K.Ord.cmp g.met.K.Ord.total g.V.Join.below g.met.V.Join.reflexive g.met.V.Join.transitive g.V.Join.is_valid _ _ _ _ c.loop-i.invariant c.index-other-i.result c.index-other-i.is c.loop-i-test.true c.requires.other_map known) in
    cc (ok)

pub join_copies_in_one-requires : goal.join_copies_in_one-requires
join_copies_in_one-requires g c =
    let rest = subst (IsMap g.K.Ord.cmp g.V.Join.below g.V.Join.is_valid) (sym (take_rest c.args.other.now c.loop-i.i (omega arith))) (drop_is_map g.K.Ord.cmp g.met.K.Ord.total g.V.Join.below g.V.Join.is_valid c.args.other.now c.loop-i.i c.requires.other_map) in
    record { maps = (c.in_ok-join_pair_copy.ensures.map, rest) }

pub returns-then-not-branch-clause-joined : goal.returns-then-not-branch-clause-joined
returns-then-not-branch-clause-joined g c =
    let unchanged : c.join_pair_copy.new.pairs.items ≡ c.loop-i.pairs.items = subst (λ b. OnFalse b (c.join_pair_copy.new.pairs.items ≡ c.loop-i.pairs.items)) c.if-not-branch.true c.in_ok-join_pair_copy.ensures.unchanged in
    let rest = take_rest c.args.other.now c.loop-i.i (omega arith) in
    let joined = subst (λ l. AreCopiesJoined g.K.Ord.cmp g.V.Join.below g.V.Join.is_valid g.V.Join.is_single c.join_copies_in_one.result c.join_pair_copy.new.pairs.items l c.join_copies_in_one.new.pairs.items) rest c.join_copies_in_one.ensures.joined in
    rest_copied g.K.Ord.cmp g.met.K.Ord.total g.V.Join.below g.met.V.Join.reflexive g.met.V.Join.transitive g.V.Join.is_valid _ _ _ _ c.loop-i.invariant c.index-other-i.result c.index-other-i.is c.loop-i-test.true c.requires.other_map g.V.Join.is_single _ _
    (subst (λ x. AreCopiesJoined g.K.Ord.cmp g.V.Join.below g.V.Join.is_valid g.V.Join.is_single c.join_copies_in_one.result x (drop c.loop-i.i c.args.other.now) c.join_copies_in_one.new.pairs.items) unchanged joined)

pub returns-then-not-branch-clause-known : goal.returns-then-not-branch-clause-known
returns-then-not-branch-clause-known g c = λ known.
    let none : find g.K.Ord.cmp c.index-other-i.result.0 c.loop-i.pairs.items ≡ None = subst (λ b. OnFalse b (find g.K.Ord.cmp c.index-other-i.result.0 c.loop-i.pairs.items ≡ None)) c.if-not-branch.true c.in_ok-join_pair_copy.ensures.absent in
    absurd (not_known g.K.Ord.cmp g.met.K.Ord.total g.V.Join.below g.met.V.Join.reflexive g.met.V.Join.transitive g.V.Join.is_valid _ _ _ _ c.loop-i.invariant c.index-other-i.result c.index-other-i.is c.loop-i-test.true c.requires.other_map none known)

pub loop-i-preserved : goal.loop-i-preserved
loop-i-preserved g c =
    let joined : IsJoin (MapBelow g.K.Ord.cmp g.V.Join.below) c.loop-i.pairs.items ((c.index-other-i.result.0, c.index-other-i.result.1) ∷ []) c.join_pair_copy.new.pairs.items = subst (λ b. OnTrue b (IsJoin (MapBelow g.K.Ord.cmp g.V.Join.below) c.loop-i.pairs.items ((c.index-other-i.result.0, c.index-other-i.result.1) ∷ []) c.join_pair_copy.new.pairs.items)) c.if-not-branch.false c.in_ok-join_pair_copy.ensures.ok in
    copied_more g.K.Ord.cmp g.met.K.Ord.total g.V.Join.below g.met.V.Join.reflexive g.met.V.Join.transitive g.V.Join.is_valid _ _ _ _ c.loop-i.invariant c.index-other-i.result c.index-other-i.is c.loop-i-test.true c.requires.other_map _ c.in_ok-join_pair_copy.ensures.map joined

pub loop-i-init : goal.loop-i-init
loop-i-init g c =
    copied_first g.K.Ord.cmp g.met.K.Ord.total g.V.Join.below g.met.V.Join.reflexive g.met.V.Join.transitive g.V.Join.is_valid _ _ c.requires.map

pub returns-clause-joined : goal.returns-clause-joined
returns-clause-joined g c = record {
  map = c.loop-i.invariant.map;
  ok = copied_all g.K.Ord.cmp g.met.K.Ord.total g.V.Join.below g.met.V.Join.reflexive g.met.V.Join.transitive g.V.Join.is_valid _ _ _ _ c.loop-i.invariant (omega arith);
  refused = tt;
  single = tt;
}
