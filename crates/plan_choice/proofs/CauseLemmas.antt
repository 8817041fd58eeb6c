-- The causes of refusals, over bit sets and adjacency lists.
use Rattle.std.proofs.Common.{◌<◌, ◌↔◌, ◌≡◌}
use Rattle.plan_choice.proofs.Prelude.{AreBitsOf, AreInConflict, AreNeededConflicts, ArePairsOf, arith, Bool, case_of, count_of, false, get_or, IndexedCase, IsAmong, IsClearBelow, IsAbsent, IsFirstPair, IsLeast, IsMember, IsNeeded, IsTrue, IsUnloadedNeed, Lacks, LacksRequisite, least_along, length, List, member_read, nat_cmp, non_members_read, successors-below, successors_from, true, ℕ}
use Rattle.plan_choice.proofs.Fitting.{is_false, stable, untrue}

pub pair_along : (R S : ℕ → ℕ → Type 0) → ((u v : ℕ) → R u v ↔ S u v) → (a b : ℕ) → IsFirstPair nat_cmp R a b → IsFirstPair nat_cmp S a b
pair_along R S same a b f = record {
  outer = least_along nat_cmp (λ x. (y : ℕ) × R x y) (λ x. (y : ℕ) × S x y) (λ x h. (h.0, (same x h.0).0 h.1)) (λ x h. (h.0, (same x h.0).1 h.1)) a f.outer;
  inner = least_along nat_cmp (R a) (S a) (λ y. (same a y).0) (λ y. (same a y).1) b f.inner;
}

module _ (p : IndexedCase) (needed : List Bool) (n : AreBitsOf (count_of p) (IsNeeded (case_of p)) needed) where
  module _ (unloaded : List Bool) (left : (v : ℕ) → IsMember unloaded v ↔ (IsMember needed v × ¬ IsMember p.loaded.items v)) where
    all_loaded : ((v : ℕ) → ¬ IsMember unloaded v) → (u : ℕ) → IsNeeded (case_of p) u → IsTrue ((case_of p).is_loaded u)
    all_loaded none u h = stable ((case_of p).is_loaded u) (λ out. none u ((left u).1 ((n.sets u).1 h, out)))

    -- the target and what it needs are loaded, and the target may be started, as was read
    pub clear_4 : (loaded refuses : Bool) → loaded ≡ get_or p.loaded.items p.target loaded → loaded ≡ true
        → refuses ≡ get_or p.refuses_manual_start.items p.target refuses → refuses ≡ false
        → ((v : ℕ) → ¬ IsMember unloaded v) → IsClearBelow nat_cmp (case_of p) 4
    clear_4 loaded refuses load_read is switch_read may none =
        let inside : p.target < length p.refuses_manual_start.items = omega (arith, p.valid_target, p.valid_refuses) in
        record {
          target_loaded = λ l. member_read p.loaded.items p.target loaded load_read p.valid_target is;
          needs_loaded = λ l. all_loaded none;
          may_start = λ l. is_false _ (non_members_read p.refuses_manual_start.items p.target refuses switch_read inside may);
          requisites_there = λ l. absurd (omega arith);
          at_peace = λ l. absurd (omega arith);
          none_waits = λ l. absurd (omega arith);
        }

    pub first_unloaded : (u : ℕ) → IsLeast nat_cmp (IsMember unloaded) u → IsLeast nat_cmp (IsUnloadedNeed nat_cmp (case_of p)) u
    first_unloaded u l = least_along nat_cmp (IsMember unloaded) (IsUnloadedNeed nat_cmp (case_of p))
        (λ v m. (let k = (left v).0 m in ((n.sets v).0 k.0, is_false ((case_of p).is_loaded v) k.1)))
        (λ v h. (left v).1 ((n.sets v).1 h.0, untrue ((case_of p).is_loaded v) h.1)) u l

  module _ (absent : List Bool) (o : AreBitsOf (count_of p) (IsAbsent (count_of p) (case_of p)) absent) where
    pub lacking : (u v : ℕ) → (IsMember needed u × IsAmong v (successors_from p.requisites u) × IsMember absent v) ↔ LacksRequisite nat_cmp (case_of p) u v
    lacking u v = (
      λ h. (let a = (o.sets v).0 h.2 in ((n.sets u).0 h.0, record { asked = h.1; rests = a.rests; unpulled = a.unpulled })),
      λ h. ((n.sets u).1 h.0, h.1.asked, (o.sets v).1 (record { within = successors-below (count_of p) p.requisites u v p.valid_requisites h.1.asked; rests = h.1.rests; unpulled = h.1.unpulled })),
    )

    pub none_lacks : ((u v : ℕ) → ¬ (IsMember needed u × IsAmong v (successors_from p.requisites u) × IsMember absent v)) → (u v : ℕ) → IsNeeded (case_of p) u → ¬ Lacks (case_of p) u v
    none_lacks none u v h l = none u v ((lacking u v).1 (h, l))

  module _ (conflicting : List (List (List ℕ))) (r : ArePairsOf (count_of p) (AreInConflict (case_of p)) conflicting) where
    pub rivalry : (u v : ℕ) → (IsMember needed u × IsAmong v (successors_from conflicting u) × IsMember needed v) ↔ AreNeededConflicts nat_cmp (case_of p) u v
    rivalry u v = (
      λ h. ((n.sets u).0 h.0, (n.sets v).0 h.2, (r.pairs u v).0 h.1),
      λ h. ((n.sets u).1 h.0, (r.pairs u v).1 h.2, (n.sets v).1 h.1),
    )

-- what was tested so far
module _ (p : IndexedCase) where
  pub clear_2 : IsTrue ((case_of p).is_loaded p.target) → IsClearBelow nat_cmp (case_of p) 2
  clear_2 t = record {
    target_loaded = λ l. t;
    needs_loaded = λ l. absurd (omega arith);
    may_start = λ l. absurd (omega arith);
    requisites_there = λ l. absurd (omega arith);
    at_peace = λ l. absurd (omega arith);
    none_waits = λ l. absurd (omega arith);
  }

  pub clear_5 : IsClearBelow nat_cmp (case_of p) 4
      → ((u v : ℕ) → IsNeeded (case_of p) u → ¬ Lacks (case_of p) u v)
      → IsClearBelow nat_cmp (case_of p) 5
  clear_5 k there = record {
    target_loaded = λ l. k.target_loaded (omega arith);
    needs_loaded = λ l. k.needs_loaded (omega arith);
    may_start = λ l. k.may_start (omega arith);
    requisites_there = λ l. there;
    at_peace = λ l. absurd (omega arith);
    none_waits = λ l. absurd (omega arith);
  }

  pub clear_6 : IsClearBelow nat_cmp (case_of p) 5
      → ((u v : ℕ) → IsNeeded (case_of p) u → IsNeeded (case_of p) v → ¬ AreInConflict (case_of p) u v)
      → IsClearBelow nat_cmp (case_of p) 6
  clear_6 k peace = record {
    target_loaded = λ l. k.target_loaded (omega arith);
    needs_loaded = λ l. k.needs_loaded (omega arith);
    may_start = λ l. k.may_start (omega arith);
    requisites_there = λ l. k.requisites_there (omega arith);
    at_peace = λ l. peace;
    none_waits = λ l. absurd (omega arith);
  }
