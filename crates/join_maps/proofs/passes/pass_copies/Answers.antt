use Rattle.std.proofs.Common.{◌++◌, ◌∷◌, ◌≡◌}
use Rattle.join_maps.proofs.Prelude.{[], ap, AreBelow, arith, get_or, IsBetween, IsHeld, IsJoin, IsMap, length, Less, MapBelow, subst, sym, ◌∙◌}
use Rattle.join_maps.proofs.{After.{keys_ascend}, CopyWalks.{copied_all, copied_first, copied_more, held_at, stopped_joined}}
use Rattle.join_maps.proofs.passes.pass_copies.Goals as goal

pub loop-pair-init : goal.loop-pair-init
loop-pair-init g c = record {
  copied = rw c.requires.none (copied_first g.K.Ord.cmp g.met.K.Ord.total g.V.Join.below g.met.V.Join.reflexive g.met.V.Join.transitive g.V.Join.is_valid _ _ c.requires.map);
  before = rw c.requires.none (λ j d a b. tt);
  room = omega (arith, ap length c.requires.none);
}

pub pass_below-requires-clause-below : goal.pass_below-requires-clause-below
pass_below-requires-clause-below g c =
    subst (λ pair. AreBelow g.K.Ord.cmp pair.0 c.loop-pair.passed.items) (sym c.pair-item.is)
    (c.loop-pair.invariant.before c.loop-pair.pair-index c.pair-item.result (omega arith) c.loop-pair-test.true)

pub place_copy-requires-clause-map : goal.place_copy-requires-clause-map
place_copy-requires-clause-map g c =
    subst (IsMap g.K.Ord.cmp g.V.Join.below g.V.Join.is_valid) (sym c.pass_below.ensures.pairs) c.loop-pair.invariant.copied.map

pub place_copy-requires-clause-held : goal.place_copy-requires-clause-held
place_copy-requires-clause-held g c =
    subst (λ pair. IsHeld g.V.Join.below g.V.Join.is_valid pair.1) (sym c.pair-item.is)
    (held_at g.V.Join.below g.V.Join.is_valid c.args.other.now c.loop-pair.pair-index c.pair-item.result c.loop-pair-test.true c.requires.other_map.held)

pub loop-pair-preserved : goal.loop-pair-preserved
loop-pair-preserved g c =
    let new = c.place_copy.new.passed.items ++ c.place_copy.new.ahead.items in
    record {
      copied = copied_more g.K.Ord.cmp g.met.K.Ord.total g.V.Join.below g.met.V.Join.reflexive g.met.V.Join.transitive g.V.Join.is_valid _ _ _ _ c.loop-pair.invariant.copied c.pair-item.result c.pair-item.is c.loop-pair-test.true c.requires.other_map _ c.in_ok-place_copy.ensures.map (subst (λ now. IsJoin (MapBelow g.K.Ord.cmp g.V.Join.below) now ((c.pair-item.result.0, c.pair-item.result.1) ∷ []) new) c.pass_below.ensures.pairs c.in_ok-place_copy.ensures.ok);
      before = λ j d past within.
          c.in_ok-place_copy.ensures.below (get_or c.args.other.now j d).0
          (subst (λ pair. g.K.Ord.cmp pair.0 (get_or c.args.other.now j d).0 ≡ Less) (sym c.pair-item.is)
          (keys_ascend g.K.Ord.cmp c.args.other.now c.loop-pair.pair-index j c.pair-item.result d c.requires.other_map.sorted (omega arith) within));
      room = omega arith;
    }

pub returns-in_err-place_copy-clause-joined : goal.returns-in_err-place_copy-clause-joined
returns-in_err-place_copy-clause-joined g c =
    let new = c.place_copy.new.passed.items ++ c.place_copy.new.ahead.items in
    stopped_joined g.K.Ord.cmp g.met.K.Ord.total g.V.Join.below g.met.V.Join.reflexive g.met.V.Join.transitive g.V.Join.is_valid _ _ _ _ c.loop-pair.invariant.copied c.pair-item.result c.pair-item.is c.loop-pair-test.true c.requires.other_map g.V.Join.is_single _ _ c.from_residual.ensures.0 c.in_err-place_copy.ensures.map
    (subst (λ now. IsBetween (MapBelow g.K.Ord.cmp g.V.Join.below) now ((c.pair-item.result.0, c.pair-item.result.1) ∷ []) new) c.pass_below.ensures.pairs c.in_err-place_copy.ensures.refused)
    (λ single. c.in_err-place_copy.ensures.single single ∙ c.pass_below.ensures.pairs)

pub returns-clause-joined : goal.returns-clause-joined
returns-clause-joined g c = record {
  map = c.loop-pair.invariant.copied.map;
  ok = copied_all g.K.Ord.cmp g.met.K.Ord.total g.V.Join.below g.met.V.Join.reflexive g.met.V.Join.transitive g.V.Join.is_valid _ _ _ _ c.loop-pair.invariant.copied (omega arith);
  refused = tt;
  single = tt;
}
