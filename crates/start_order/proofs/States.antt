-- How far the start list has come.
use Rattle.std.proofs.Common.{◌++◌, ◌<◌, ◌↔◌, ◌∷◌, ◌≡◌, ◌≤◌, ◌⊎◌}
use Rattle.start_order.proofs.Prelude.{[], ap, arith, Bool, can_start_along, CanStart, cmp_below, false, get_or, inl, inr, IsAmong, IsLeast, IsLowered, IsMember, IsMember-none, IsMember-set, IsMember-set_other, IsMember-set_same, IsMember-within, IsStartList, length, length-replicate, length-set, List, Listed, nat_cmp, neighbors, Precedes, refl, replicate, set, subst, sym, times, times-in, times_cases, true, waiting, ℕ, ◌∙◌}
use Rattle.start_order.proofs.{Rings.{agree_push}, Waiting.{counted_all, waiting-none, waiting-ready, waiting-set}}

-- where a list that grew by one is split
record IsPushedCut (list : List ℕ) (x : ℕ) (prefix : List ℕ) (u : ℕ) (rest : List ℕ) : Type 0 where
  old : List ℕ
  here : ((prefix ≡ list) × (u ≡ x)) ⊎ (list ≡ prefix ++ u ∷ old)

pushed_cut : (list : List ℕ) (x : ℕ) (prefix : List ℕ) (u : ℕ) (rest : List ℕ) → list ++ x ∷ [] ≡ prefix ++ u ∷ rest → IsPushedCut list x prefix u rest
pushed_cut [] x [] u rest e = record { old = []; here = inl (refl, cc) }
pushed_cut [] x (y ∷ []) u rest e = cc
pushed_cut [] x (y ∷ z ∷ prefix) u rest e = cc
pushed_cut (y ∷ ys) x [] u rest e = record { old = ys; here = inr (let same : y ≡ u = cc in ap (λ z. z ∷ ys) same) }
pushed_cut (y ∷ ys) x (z ∷ prefix) u rest e =
    let tails : ys ++ x ∷ [] ≡ prefix ++ u ∷ rest = cc in
    let heads : y ≡ z = cc in
    let r = pushed_cut ys x prefix u rest tails in
    record {
      old = r.old;
      here = elim r.here [
        | inl h ↦ inl (ap (λ w. w ∷ prefix) (sym heads) ∙ ap (λ l. y ∷ l) h.0, h.1)
        | inr h ↦ inr (ap (λ w. w ∷ ys) heads ∙ ap (λ l. z ∷ l) h)
      ];
    }

module _ (chosen : ℕ → Type 0) (before : ℕ → ℕ → Type 0) where
  -- each of the list is the least node that can start once those before it are started
  abbrev pub IsInOrder : List ℕ → Type 0
  IsInOrder list = (prefix : List ℕ) (u : ℕ) (rest : List ℕ) → list ≡ prefix ++ u ∷ rest → IsLeast nat_cmp (CanStart chosen before (Listed prefix)) u

  in_order_none : IsInOrder []
  in_order_none [] u rest e = cc
  in_order_none (y ∷ prefix) u rest e = cc

  in_order_push : (list : List ℕ) (x : ℕ) → IsInOrder list → IsLeast nat_cmp (CanStart chosen before (Listed list)) x → IsInOrder (list ++ x ∷ [])
  in_order_push list x p l prefix u rest e =
      let r = pushed_cut list x prefix u rest e in
      elim r.here [
        | inl h ↦ (let F : List ℕ → Type 0 = λ f. IsLeast nat_cmp (CanStart chosen before (Listed f)) x in
            let U : ℕ → Type 0 = λ v. IsLeast nat_cmp (CanStart chosen before (Listed prefix)) v in
            subst U (sym h.1) (subst F (sym h.0) l))
        | inr h ↦ p prefix u r.old h
      ]

pub record IsState (chosen : List Bool) (before : List (List ℕ)) (standing : List Bool) (counts list keys : List ℕ) : Type 0 where
  pub units : length standing ≡ length chosen
  pub slots : length counts ≡ length chosen
  pub agree : (v : ℕ) → IsMember standing v ↔ IsAmong v list
  pub in_order : IsInOrder (IsMember chosen) (Precedes before) list
  pub counted : (v : ℕ) → get_or counts v 0 ≡ waiting chosen standing (neighbors before v)
  pub settled : (v : ℕ) → IsMember standing v → get_or counts v 0 ≡ 0
  pub free : (v : ℕ) → IsAmong v keys ↔ (IsMember chosen v × ¬ IsMember standing v × (get_or counts v 0 ≡ 0))

IsState-init : (chosen : List Bool) (before : List (List ℕ)) (counts keys : List ℕ) → length counts ≡ length chosen
    → ((v : ℕ) → get_or counts v 0 ≡ waiting chosen (replicate (length chosen) false) (neighbors before v)) → ((v : ℕ) → IsAmong v keys ↔ (IsMember chosen v × (get_or counts v 0 ≡ 0)))
    → IsState chosen before (replicate (length chosen) false) counts [] keys
IsState-init chosen before counts keys slots counted free = record {
  units = length-replicate (length chosen) false;
  slots = slots;
  agree = λ v. (λ m. absurd (IsMember-none (length chosen) v m), λ h. absurd h);
  in_order = in_order_none (IsMember chosen) (Precedes before);
  counted = counted;
  settled = λ v m. absurd (IsMember-none (length chosen) v m);
  free = λ v. (λ h. (let f = (free v).0 h in (f.0, IsMember-none (length chosen) v, f.1)), λ h. (free v).1 (h.0, h.2));
}

-- the same where the slices are other names of these lists
pub IsState-begin : (chosen standing given : List Bool) (before : List (List ℕ)) (counts read list keys : List ℕ) → standing ≡ replicate (length chosen) false → given ≡ standing
    → read ≡ counts → list ≡ [] → length before ≡ length chosen → length counts ≡ length chosen
    → ((v : ℕ) → v < length chosen → get_or counts v 0 ≡ waiting chosen given (neighbors before v)) → ((v : ℕ) → IsAmong v keys ↔ (IsMember chosen v × (get_or read v 0 ≡ 0)))
    → IsState chosen before standing counts list keys
IsState-begin chosen standing given before counts read list keys e f g h p q counted free =
    let P : List Bool → Type 0 = λ s. (v : ℕ) → v < length chosen → get_or counts v 0 ≡ waiting chosen s (neighbors before v) in
    let Q : List ℕ → Type 0 = λ l. (v : ℕ) → IsAmong v keys ↔ (IsMember chosen v × (get_or l v 0 ≡ 0)) in
    let R : List Bool → Type 0 = λ s. IsState chosen before s counts list keys in
    let S : List ℕ → Type 0 = λ l. IsState chosen before (replicate (length chosen) false) counts l keys in
    subst R (sym e)
    (subst S (sym h) (IsState-init chosen before counts keys q (counted_all chosen (replicate (length chosen) false) before counts (length chosen) p q (subst P (f ∙ e) counted)) (subst Q g free)))

module _ (chosen : List Bool) (before : List (List ℕ)) (standing : List Bool) (counts list keys : List ℕ) (st : IsState chosen before standing counts list keys) where
  free_to : (v : ℕ) → IsAmong v keys → CanStart (IsMember chosen) (Precedes before) (IsMember standing) v
  free_to v h =
      let f = (st.free v).0 h in
      record { is_chosen = f.0; waiting = f.1; ready = waiting-ready chosen standing (neighbors before v) (sym (st.counted v) ∙ f.2) }

  free_from : (v : ℕ) → CanStart (IsMember chosen) (Precedes before) (IsMember standing) v → IsAmong v keys
  free_from v f = (st.free v).1 (f.is_chosen, f.waiting, st.counted v ∙ waiting-none chosen standing (neighbors before v) f.ready)

  to_bits : (v : ℕ) → CanStart (IsMember chosen) (Precedes before) (Listed list) v → CanStart (IsMember chosen) (Precedes before) (IsMember standing) v
  to_bits = can_start_along (IsMember chosen) (Precedes before) (Listed list) (IsMember standing) (λ v. (st.agree v).1) (λ v. (st.agree v).0)

  to_list : (v : ℕ) → CanStart (IsMember chosen) (Precedes before) (IsMember standing) v → CanStart (IsMember chosen) (Precedes before) (Listed list) v
  to_list = can_start_along (IsMember chosen) (Precedes before) (IsMember standing) (Listed list) (λ v. (st.agree v).0) (λ v. (st.agree v).1)

  pub done : ((v : ℕ) → ¬ IsAmong v keys) → IsStartList nat_cmp (IsMember chosen) (Precedes before) list
  done none = record { each_least = st.in_order; whole = λ u f. none u (free_from u (to_bits u f)) }

  pub non_members_of : (u : ℕ) → IsAmong u keys → ¬ IsMember standing u
  non_members_of u h = ((st.free u).0 h).1

  pub within_of : (u : ℕ) → IsAmong u keys → u < length chosen
  within_of u h = IsMember-within chosen u ((st.free u).0 h).0

  -- a node waits for the removed node as often as it has it in its list
  pub enough_of : (u : ℕ) → IsAmong u keys → (v n : ℕ) → n ≡ times u (neighbors before v) → n ≤ get_or counts v 0
  enough_of u h v n e =
      let a = within_of u h in
      let b = st.units in
      let inside' : u < length standing = omega (arith, a, b) in
      let d = waiting-set chosen standing u inside' ((st.free u).0 h).0 (non_members_of u h) (neighbors before v) in
      let f = st.counted v in
      omega (arith, d, e, f)

  -- the removed node waits for nothing, so a node that has it in its list is another one, and isn't started
  module _ (u : ℕ) (h : IsAmong u keys) (least : (v : ℕ) → IsAmong v keys → u ≤ v) (neighbors_after mid new later : List ℕ) (rest : (v : ℕ) → IsAmong v mid ↔ (IsAmong v keys × ¬ (u ≡ v)))
      (lowered : IsLowered chosen neighbors_after counts new mid later) (transposed : (v : ℕ) → times v neighbors_after ≡ times u (neighbors before v)) where
    mine : IsMember chosen u
    mine = ((st.free u).0 h).0

    zero_here : get_or counts u 0 ≡ 0
    zero_here = ((st.free u).0 h).2

    inside : u < length standing
    inside = let a = within_of u h in let b = st.units in omega (arith, a, b)

    next : IsLeast nat_cmp (CanStart (IsMember chosen) (Precedes before) (Listed list)) u
    next = record {
      member = to_list u (free_to u h);
      least = λ v f l. (let a = least v (free_from v (to_bits v f)) in let b = cmp_below v u l in omega (arith, a, b));
    }

    falls : (v : ℕ) → get_or counts v 0 ≡ 0 → get_or new v 0 ≡ 0
    falls v z = let a = lowered.counts v in omega (arith, a)

    -- before u was started, those after it had something to wait for
    waited : (v : ℕ) → IsAmong v neighbors_after → ¬ (get_or counts v 0 ≡ 0)
    waited v k z =
        let a = lowered.counts v in
        let b = times-in v neighbors_after k in
        omega (arith, a, b)

    to : (v : ℕ) → IsAmong v later → IsMember chosen v × ¬ IsMember (set standing u true) v × (get_or new v 0 ≡ 0)
    to v k = elim ((lowered.keys v).0 k) [
      | inl a ↦ (let b = (rest v).0 a in
          let f = (st.free v).0 b.0 in
          (f.0, (λ m. elim (IsMember-set standing u v inside m) [ inl n ↦ f.1 n | inr e ↦ b.1 e ]), falls v f.2))
      | inr a ↦ (
        a.0,
        (λ m. elim (IsMember-set standing u v inside m) [
          | inl n ↦ waited v a.1 (st.settled v n)
          | inr e ↦ (let P : ℕ → Type 0 = λ w. get_or counts w 0 ≡ 0 in waited v a.1 (subst P e zero_here))
        ]),
        a.2,
      )
    ]

    from : (v : ℕ) → IsMember chosen v × ¬ IsMember (set standing u true) v × (get_or new v 0 ≡ 0) → IsAmong v later
    from v k = elim (times_cases v neighbors_after) [
      | inl z ↦ (let a = lowered.counts v in
          let b : get_or new v 0 ≡ 0 = k.2 in
          let old : get_or counts v 0 ≡ 0 = omega (arith, a, b, z) in
          let P : ℕ → Type 0 = λ w. IsMember (set standing u true) w in
          (lowered.keys v).1 (inl ((rest v).1 ((st.free v).1 (k.0, (λ m. k.1 (IsMember-set_other standing u v m)), old), (λ e. k.1 (subst P e (IsMember-set_same standing u inside)))))))
      | inr c ↦ (lowered.keys v).1 (inr (k.0, c, k.2))
    ]

    pub step : IsState chosen before (set standing u true) new (list ++ u ∷ []) later
    step = record {
      units = length-set standing u true ∙ st.units;
      slots = lowered.units ∙ st.slots;
      agree = agree_push standing list u inside st.agree;
      in_order = in_order_push (IsMember chosen) (Precedes before) list u st.in_order next;
      counted = λ v. (let a = lowered.counts v in
          let b = st.counted v in
          let d = transposed v in
          let e = waiting-set chosen standing u inside mine (non_members_of u h) (neighbors before v) in
          omega (arith, a, b, d, e));
      settled = λ v m. elim (IsMember-set standing u v inside m) [
        | inl n ↦ falls v (st.settled v n)
        | inr e ↦ (let P : ℕ → Type 0 = λ w. get_or counts w 0 ≡ 0 in falls v (subst P e zero_here))
      ];
      free = λ v. (to v, from v);
    }
