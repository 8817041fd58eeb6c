use Rattle.std.proofs.Common.{◌++◌, ◌<◌}
use Rattle.join_maps.proofs.Prelude.{arith, length, length-drop, subst, sym, take, take-append-drop, ◌∙◌}
use Rattle.join_maps.proofs.{CopyWalks.{take_rest}, Slices.{IsPassed, left_is_map, left_known, none_left, passed_all, passed_between, passed_more, passed_none, passed_single, some_left, some_taken}}
use Rattle.join_law.specs.OutcomeLaws.{not_ok, on_err}
use Rattle.join_maps.proofs.merges.join_slice.Goals as goal

pub loop-left-init : goal.loop-left-init
loop-left-init g c = (passed_none g.K.Ord.cmp g.met.K.Ord.total g.V.Join.is_valid g.V.Join.below g.met.V.Join.reflexive g.met.V.Join.transitive _ _, c.requires.map)

pub join_some-requires-clause-map : goal.join_some-requires-clause-map
join_some-requires-clause-map g c = c.loop-left.invariant.1

pub join_some-requires-clause-pairs_map : goal.join_some-requires-clause-pairs_map
join_some-requires-clause-pairs_map g c = left_is_map g.K.Ord.cmp g.met.K.Ord.total g.V.Join.is_valid g.V.Join.below g.met.V.Join.reflexive g.met.V.Join.transitive _ _ _ _ c.loop-left.invariant.0 c.requires.pairs_map

pub returns-in_err-count-clause-joined : goal.returns-in_err-count-clause-joined
returns-in_err-count-clause-joined g c = record {
  map = c.in_err-count.ensures.map.map;
  ok = not_ok _ _ c.from_residual.ensures.0;
  refused = on_err _ (passed_between g.K.Ord.cmp g.met.K.Ord.total g.V.Join.is_valid g.V.Join.below g.met.V.Join.reflexive g.met.V.Join.transitive _ _ _ _ c.loop-left.invariant.0 c.requires.pairs_map _ c.in_err-count.ensures.refused);
  single = on_err _ (passed_single g.K.Ord.cmp g.met.K.Ord.total g.V.Join.is_valid g.V.Join.below g.met.V.Join.reflexive g.met.V.Join.transitive _ _ _ _ c.loop-left.invariant.0 c.requires.pairs_map g.V.Join.is_single _ (some_left c.loop-left.left.now c.is_empty.result c.is_empty.ensures c.loop-left-test.true) c.in_err-count.ensures.single);
}

pub returns-in_err-count-clause-known : goal.returns-in_err-count-clause-known
returns-in_err-count-clause-known g c = λ known.
    let ok = c.in_err-count.ensures.known (left_known g.K.Ord.cmp g.met.K.Ord.total g.V.Join.is_valid g.V.Join.below g.met.V.Join.reflexive g.met.V.Join.transitive _ _ _ _ c.loop-left.invariant.0 c.requires.pairs_map known) in
    cc (ok)

pub loop-left-smaller : goal.loop-left-smaller
loop-left-smaller g c =
    let left = c.loop-left.left.now in
    let count = c.in_ok-count.count in
    subst (λ l. length l < length left) (sym (take_rest left count c.in_ok-count.ensures.within)) (omega (arith, length-drop count left, c.in_ok-count.ensures.some, c.in_ok-count.ensures.within))

pub loop-left-preserved : goal.loop-left-preserved
loop-left-preserved g c =
    let left = c.loop-left.left.now in
    let count = c.in_ok-count.count in
    let rest = take_rest left count c.in_ok-count.ensures.within in (
      passed_more g.K.Ord.cmp g.met.K.Ord.total g.V.Join.is_valid g.V.Join.below g.met.V.Join.reflexive g.met.V.Join.transitive _ _ _ _ c.loop-left.invariant.0 c.requires.pairs_map (take count left) _ _
          (sym (take-append-drop count left) ∙ (λ i. take count left ++ sym rest i)) (some_taken left count c.in_ok-count.ensures.some c.in_ok-count.ensures.within) c.in_ok-count.ensures.joined,
      c.in_ok-count.ensures.map,
    )

pub returns-clause-chunks : goal.returns-clause-chunks
returns-clause-chunks g c = c.loop-left.invariant.1.chunks

pub returns-clause-joined : goal.returns-clause-joined
returns-clause-joined g c = record {
  map = c.loop-left.invariant.1.map;
  ok = passed_all g.K.Ord.cmp g.met.K.Ord.total g.V.Join.is_valid g.V.Join.below g.met.V.Join.reflexive g.met.V.Join.transitive _ _ _ (subst (IsPassed g.K.Ord.cmp g.V.Join.below _ _ _) (none_left c.loop-left.left.now (c.is_empty.result) c.is_empty.ensures c.loop-left-test.false) c.loop-left.invariant.0);
  refused = tt;
  single = tt;
}
