-- What a map holds: one pair that stands alone, or runs.
use Rattle.std.proofs.Common.{◌<◌, ◌∷◌, ◌≡◌, ◌≤◌}
use Rattle.join_maps.proofs.Prelude.{[], and_parts, ap, append-nil, AreMapped, arith, cond, eqb-true, Equal, find, Greater, is_eq, is_less, IsJoin, IsLeast, IsMap, IsSome, IsTotalOrder, least_exactly_empty, length, Less, List, MapBelow, None, OptionBelow, Ordering, ordering_reverse, refl, Some, subst, sym, tied_itself, ◌∙◌}
use Rattle.chunked_pairs.specs.Chunks.{in_runs}
use Rattle.join_maps.specs.declared.held.Held.{Held, TheVariants.{Alone, Runs}}
use Rattle.join_maps.specs.Held.{HasSeat, HaveSeats, held_pairs, IsHeldMap}

module _ {K V : Type 0} (R : K → K → Ordering) (below : V → V → Type 0) (valid : V → Type 0) where
  -- few pairs are one run
  pub run_is_mapped : (run : List (K × V)) → length run ≤ 128 → IsMap R below valid run → AreMapped R below valid (in_runs run [])
  run_is_mapped run few m = record {
    chunks = record { chained = record { sorted = m.sorted; within = few }; some = λ z. absurd (omega (arith, z)) };
    map = subst (IsMap R below valid) (sym (append-nil run)) m;
  }

  pub map_of : (h : Held K V) → IsHeldMap R below valid h → IsMap R below valid (held_pairs h)
  map_of (Alone a pairs) m = m.0
  map_of (Runs c) m = m.map

  -- a key that is held has a seat
  pub found_seat : (k : K) (h : Held K V) → IsHeldMap R below valid h → IsSome (find R k (held_pairs h)) → HasSeat R k h
  found_seat k (Runs c) m some = tt
  found_seat k (Alone a []) m some = absurd (omega (arith, m.1))
  found_seat k (Alone a (e ∷ f ∷ es)) m some = absurd (omega (arith, m.1))
  found_seat k (Alone a (e ∷ [])) m some = same (R k e.0) some
    where
      same : (r : Ordering) → IsSome (cond (is_eq r) (Some e.1) None) → r ≡ Equal
      same Less some = cc (some)
      same Equal some = refl
      same Greater some = cc (some)

  module _ (o : IsTotalOrder R) where
    held_key : (k : K) (v : V) (p : K × V) → ¬ IsLeast below v → OptionBelow below (Some v) (find R k (p ∷ [])) → R k p.0 ≡ Equal
    held_key k v p n = same (R k p.0)
      where
        same : (r : Ordering) → OptionBelow below (Some v) (cond (is_eq r) (Some p.1) None) → r ≡ Equal
        same Less h = absurd (n h)
        same Equal h = refl
        same Greater h = absurd (n h)

    itself : (e : K × V) (es : List (K × V)) → find R e.0 (e ∷ es) ≡ Some e.1
    itself e es = ap (λ r. cond (is_eq r) (Some e.1) (find R e.0 es)) (tied_itself o e.0)

    first_key : (e : K × V) (es : List (K × V)) (p : K × V) → IsMap R below valid (e ∷ es) → MapBelow R below (e ∷ es) (p ∷ []) → R e.0 p.0 ≡ Equal
    first_key e es p m h = held_key e.0 e.1 p m.held.0.not_least (subst (λ x. OptionBelow below x (find R e.0 (p ∷ []))) (itself e es) (h.at e.0))

    second_key : (e f : K × V) (es : List (K × V)) (p : K × V) → R e.0 f.0 ≡ Less → IsMap R below valid (e ∷ f ∷ es) → MapBelow R below (e ∷ f ∷ es) (p ∷ []) → R f.0 p.0 ≡ Equal
    second_key e f es p l m h =
        let passed : find R f.0 (e ∷ f ∷ es) ≡ Some f.1 = ap (λ r. cond (is_eq r) (Some e.1) (find R f.0 (f ∷ es))) (o.antisymm f.0 e.0 ∙ ap ordering_reverse l) ∙ itself f es in
        held_key f.0 f.1 p m.held.1.0.not_least (subst (λ x. OptionBelow below x (find R f.0 (p ∷ []))) passed (h.at f.0))

    least_is_empty : (es : List (K × V)) → IsMap R below valid es → IsLeast (MapBelow R below) es → es ≡ []
    least_is_empty [] m least = refl
    least_is_empty (e ∷ es) m least = absurd (omega (arith, eqb-true (length (e ∷ es)) 0 ((least_exactly_empty R below o valid (e ∷ es) (length (e ∷ es)) refl m).1 least)))

    -- a map that is bottom has no key
    pub found_nowhere : (k : K) (es : List (K × V)) → IsMap R below valid es → IsLeast (MapBelow R below) es → find R k es ≡ None
    found_nowhere k es m least = ap (find R k) (least_is_empty es m least)

    -- pairs that are held already have seats
    pub known_seats : (es : List (K × V)) (h : Held K V) → 0 < length es → IsMap R below valid es → IsHeldMap R below valid h → MapBelow R below es (held_pairs h) → HaveSeats R es h
    known_seats es (Runs c) some m n b = tt
    known_seats es (Alone a []) some m n b = absurd (omega (arith, n.1))
    known_seats es (Alone a (p ∷ q ∷ ps)) some m n b = absurd (omega (arith, n.1))
    known_seats [] (Alone a (p ∷ [])) some m n b = absurd (omega (arith, some))
    known_seats (e ∷ []) (Alone a (p ∷ [])) some m n b = first_key e [] p m b
    known_seats (e ∷ f ∷ es) (Alone a (p ∷ [])) some m n b =
        let less = is_less _ (and_parts _ _ (and_parts _ _ m.sorted).0).0 in
        let first = first_key e (f ∷ es) p m b in
        let second = second_key e f es p less m b in
        let t = sym less ∙ o.congr e.0 p.0 f.0 first ∙ o.antisymm p.0 f.0 ∙ ap ordering_reverse second in
        cc (t)

-- a value with nothing joined to it
pub least_joined : {A : Type 0} (below : A → A → Type 0) (x y : A) → IsLeast below y → IsJoin below x y x
least_joined below x y least = record { bounds = λ z. (λ h. (h, least z), λ p. p.0) }

-- a value joined to nothing
pub joined_to_least : {A : Type 0} (below : A → A → Type 0) (x y : A) → IsLeast below x → IsJoin below x y y
joined_to_least below x y least = record { bounds = λ z. (λ h. (least z, h), λ p. p.1) }
