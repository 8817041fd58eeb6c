use Rattle.std.proofs.Common.{◌<◌, ◌↔◌, ◌≡◌}
use Rattle.plan_choice.proofs.Prelude.{ap, arith, Bool, count_of, false, Global, IsAmong, IsMember, IsMember-none, IsMember-within, IsTrue, length, List, neighbors_of, SetsBits, subst, sym, true, Vec, ℕ, ◌∙◌}
use Rattle.plan_choice.proofs.{case_sets.conflict_losers.Goals.{else-lost, else-lost-via-else-lost, else-lost-via-then-lost+else-is_extra, then-lost+then-is_extra+in_ok-push}, ChoiceLemmas.{bits_of_neighbors, clean_again, loser_is, loser_was, LosesConflict}, Fitting.{neighbors_fits, untrue}, WeakDependencyLemmas.{listed_more, listed_still}}
use Rattle.plan_choice.proofs.case_sets.conflict_losers.Goals as goal

pub loop-unit-init : goal.loop-unit-init
loop-unit-init c = record {
  bits = c.in_ok-named.ensures.units;
  clean = λ v. subst (λ l. ¬ IsMember l v) (sym c.in_ok-named.ensures.none) (IsMember-none (length c.args.extra.now) v);
  listed = λ v. (
    λ h. absurd (subst (λ l. IsAmong v l) c.new-units.ensures.items h),
    λ h. absurd (let l : v < 0 = h.0 in omega arith),
  );
}

pub set_bits-requires : goal.set_bits-requires
set_bits-requires c =
    neighbors_fits (length c.loop-unit.named.items) (count_of c.args.case.now) c.args.case.now.conflicts.now c.loop-unit.unit c.neighbors.result.now c.neighbors.ensures c.args.case.now.valid_conflicts (c.loop-unit.invariant.bits ∙ c.requires.units)

pub loses-lost-requires-clause-namers : goal.loses-lost-requires-clause-namers
loses-lost-requires-clause-namers c =
    neighbors_fits (length c.args.extra.now) (count_of c.args.case.now) c.args.case.now.conflicted_by.now c.loop-unit.unit c.neighbors-in-loop-unit.result.now c.neighbors-in-loop-unit.ensures c.args.case.now.valid_conflicted_by c.requires.units

pub set_bits-requires-in-loop-unit : goal.set_bits-requires-in-loop-unit
set_bits-requires-in-loop-unit c =
    neighbors_fits (length c.set_bits.new.bits.items) (count_of c.args.case.now) c.args.case.now.conflicts.now c.loop-unit.unit c.neighbors-in-loop-unit-2.result.now
    c.neighbors-in-loop-unit-2.ensures c.args.case.now.valid_conflicts (c.set_bits.ensures.units ∙ c.loop-unit.invariant.bits ∙ c.requires.units)

pub loop-unit-preserved : goal.loop-unit-preserved
loop-unit-preserved c =
    let first : c.neighbors.result.now ≡ neighbors_of c.args.case.now.conflicts.now c.loop-unit.unit = c.neighbors.ensures in
    let second : c.neighbors-in-loop-unit-2.result.now ≡ neighbors_of c.args.case.now.conflicts.now c.loop-unit.unit = c.neighbors-in-loop-unit-2.ensures in
    let namers : c.neighbors-in-loop-unit.result.now ≡ neighbors_of c.args.case.now.conflicted_by.now c.loop-unit.unit = c.neighbors-in-loop-unit.ensures in
    let set = subst (λ l. SetsBits c.loop-unit.named.items c.set_bits.new.bits.items l true) first c.set_bits.ensures in
    let cleared = subst (λ l. SetsBits c.set_bits.new.bits.items c.set_bits-in-loop-unit.new.bits.items l false) second c.set_bits-in-loop-unit.ensures in
    let sets = bits_of_neighbors c.loop-unit.named.items c.set_bits.new.bits.items (neighbors_of c.args.case.now.conflicts.now c.loop-unit.unit) c.loop-unit.invariant.clean set in
    let L : List ℕ → List Bool → Type 0 = λ l m. IsTrue c.loses-lost.result ↔ ((v : ℕ) × (IsAmong v l × IsMember c.args.extra.now v × (IsMember m v → v < c.loop-unit.unit))) in
    let lost = subst (λ m. L (neighbors_of c.args.case.now.conflicted_by.now c.loop-unit.unit) m) c.deref.ensures.value (subst (λ l. L l c.deref.result.now) namers c.loses-lost.ensures) in
    let was = loser_was c.args.case.now c.args.extra.now c.set_bits.new.bits.items c.loop-unit.unit c.requires sets in
    record {
      bits = c.set_bits-in-loop-unit.ensures.units ∙ c.set_bits.ensures.units ∙ c.loop-unit.invariant.bits;
      clean = clean_again c.loop-unit.named.items c.set_bits.new.bits.items c.set_bits-in-loop-unit.new.bits.items (neighbors_of c.args.case.now.conflicts.now c.loop-unit.unit) c.loop-unit.invariant.clean set cleared;
      listed = elim c.if-lost.branch [
        | then-lost+then-is_extra+in_ok-push w ↦
            listed_more (LosesConflict c.args.case.now) _ _ _ c.loop-unit.invariant.listed
            (loser_is c.args.case.now c.args.extra.now c.set_bits.new.bits.items c.loop-unit.unit c.requires sets w.if-is_extra.true (lost.0 w.if-lost.true))
            (ap (λ (v : Vec ℕ Global). v.items) w.units-is ∙ w.in_ok-push.ensures.items)
        | else-lost w ↦ elim w.else-lost.branch [
          | else-lost-via-then-lost+else-is_extra v ↦
              listed_still (LosesConflict c.args.case.now) _ _ _ c.loop-unit.invariant.listed (λ l. untrue _ v.if-is_extra.false (was l).0) (ap (λ (v : Vec ℕ Global). v.items) w.units-is)
          | else-lost-via-else-lost v ↦
              listed_still (LosesConflict c.args.case.now) _ _ _ c.loop-unit.invariant.listed (λ l. untrue _ v.if-lost.false (lost.1 (was l).1)) (ap (λ (v : Vec ℕ Global). v.items) w.units-is)
        ]
      ];
    }

pub returns : goal.returns
returns c =
    let all : (v : ℕ) → IsAmong v c.loop-unit.units.items ↔ LosesConflict c.args.case.now v = λ v. (
      λ h. ((c.loop-unit.invariant.listed v).0 h).1,
      λ l. (let lt = IsMember-within c.args.extra.now v ((c.requires.sets v).1 l.1.extra) in (c.loop-unit.invariant.listed v).1 (omega (arith, lt), l)),
    ) in
    record {
      below = λ v h. (let lt : v < c.loop-unit.unit = ((c.loop-unit.invariant.listed v).0 h).0 in omega (arith, lt, c.requires.units));
      members = all;
    }
