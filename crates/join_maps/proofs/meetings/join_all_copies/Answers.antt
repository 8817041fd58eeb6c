use Rattle.std.proofs.Common.{rules}
use Rattle.join_maps.proofs.Prelude.{ap, arith, IsMap, length, length-append, subst, sym}
use Rattle.join_maps.proofs.{HeldPairs.{map_of}, Slices.{front_between, front_is_map, front_known, front_single, IsPassed, left_is_map, left_known, passed_all, passed_between, passed_more, passed_none, passed_single}}
use Rattle.join_law.specs.OutcomeLaws.{not_ok, on_err}
use Rattle.join_maps.proofs.meetings.join_all_copies.Goals as goal

pub loop-run-init : goal.loop-run-init
loop-run-init g c = (subst (IsPassed g.K.Ord.cmp g.V.Join.below _ _ c.args.other.now) (sym c.pairs-left.ensures.pairs) (passed_none g.K.Ord.cmp g.met.K.Ord.total g.V.Join.is_valid g.V.Join.below g.met.V.Join.reflexive g.met.V.Join.transitive _ _), c.requires.map)

pub join_run_copies-requires : goal.join_run_copies-requires
join_run_copies-requires g c = (
  search rules,
  (
    c.loop-run.invariant.1,
    (
      front_is_map g.K.Ord.cmp g.met.K.Ord.total g.V.Join.is_valid g.V.Join.below g.met.V.Join.reflexive g.met.V.Join.transitive _ _ (subst (IsMap g.K.Ord.cmp g.V.Join.below g.V.Join.is_valid) c.in-Some.ensures.first.0 (left_is_map g.K.Ord.cmp g.met.K.Ord.total g.V.Join.is_valid g.V.Join.below g.met.V.Join.reflexive g.met.V.Join.transitive _ _ _ _ c.loop-run.invariant.0 c.pairs-left.ensures.map)),
      c.in-Some.ensures.first.1,
    ),
  ),
)

pub loop-run-smaller : goal.loop-run-smaller
loop-run-smaller g c = omega (arith, ap length c.in-Some.ensures.first.0, length-append c.in-Some.run'.now c.next_run.new.self, c.in-Some.ensures.first.1)

pub loop-run-preserved : goal.loop-run-preserved
loop-run-preserved g c = (
  passed_more g.K.Ord.cmp g.met.K.Ord.total g.V.Join.is_valid g.V.Join.below g.met.V.Join.reflexive g.met.V.Join.transitive _ _ _ _ c.loop-run.invariant.0 c.pairs-left.ensures.map c.in-Some.run'.now _ _ c.in-Some.ensures.first.0 c.in-Some.ensures.first.1 c.in_ok-join_run_copies.ensures.joined.ok,
  c.in_ok-join_run_copies.ensures.map,
)

pub returns-in_err-join_run_copies-clause-joined : goal.returns-in_err-join_run_copies-clause-joined
returns-in_err-join_run_copies-clause-joined g c =
    let walk = c.loop-run.invariant.0 in
    let parts = c.in-Some.ensures.first in
    let joined = c.in_err-join_run_copies.ensures.joined in
    let left = left_is_map g.K.Ord.cmp g.met.K.Ord.total g.V.Join.is_valid g.V.Join.below g.met.V.Join.reflexive g.met.V.Join.transitive _ _ _ _ walk c.pairs-left.ensures.map in
    record {
      map = joined.map;
      ok = not_ok _ _ c.from_residual.ensures.0;
      refused = on_err _ (passed_between g.K.Ord.cmp g.met.K.Ord.total g.V.Join.is_valid g.V.Join.below g.met.V.Join.reflexive g.met.V.Join.transitive _ _ _ _ walk c.pairs-left.ensures.map _ (front_between g.K.Ord.cmp g.met.K.Ord.total g.V.Join.is_valid g.V.Join.below g.met.V.Join.reflexive g.met.V.Join.transitive _ _ _ c.in-Some.run'.now c.next_run.new.self parts.0 left joined.refused));
      single = on_err _ (passed_single g.K.Ord.cmp g.met.K.Ord.total g.V.Join.is_valid g.V.Join.below g.met.V.Join.reflexive g.met.V.Join.transitive _ _ _ _ walk c.pairs-left.ensures.map g.V.Join.is_single _
          (omega (arith, ap length parts.0, length-append c.in-Some.run'.now c.next_run.new.self, parts.1)) (λ s. joined.single (front_single g.V.Join.is_single _ c.in-Some.run'.now c.next_run.new.self parts.0 parts.1 s)));
    }

pub returns-in_err-join_run_copies-clause-known : goal.returns-in_err-join_run_copies-clause-known
returns-in_err-join_run_copies-clause-known g c = λ known.
    let walk = c.loop-run.invariant.0 in
    let left = left_is_map g.K.Ord.cmp g.met.K.Ord.total g.V.Join.is_valid g.V.Join.below g.met.V.Join.reflexive g.met.V.Join.transitive _ _ _ _ walk c.pairs-left.ensures.map in
    let ok = c.in_err-join_run_copies.ensures.known (front_known g.K.Ord.cmp g.met.K.Ord.total g.V.Join.is_valid g.V.Join.below g.met.V.Join.reflexive g.met.V.Join.transitive _ _ c.in-Some.run'.now c.next_run.new.self c.in-Some.ensures.first.0 left (left_known g.K.Ord.cmp g.met.K.Ord.total g.V.Join.is_valid g.V.Join.below g.met.V.Join.reflexive g.met.V.Join.transitive _ _ _ _ walk c.pairs-left.ensures.map known)) in
    cc (ok)

pub returns-clause-joined : goal.returns-clause-joined
returns-clause-joined g c = record {
  map = map_of g.K.Ord.cmp g.V.Join.below g.V.Join.is_valid _ c.loop-run.invariant.1;
  ok = passed_all g.K.Ord.cmp g.met.K.Ord.total g.V.Join.is_valid g.V.Join.below g.met.V.Join.reflexive g.met.V.Join.transitive _ _ _ (subst (IsPassed g.K.Ord.cmp g.V.Join.below _ _ _) c.in_default.ensures.first.0 c.loop-run.invariant.0);
  refused = tt;
  single = tt;
}
