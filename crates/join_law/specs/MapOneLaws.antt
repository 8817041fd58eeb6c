-- Maps that are below each other are equal, and the bottom map is the empty map.
use Rattle.std.proofs.Common.{◌==◌, ◌↔◌, ◌∷◌, ◌≡◌}
use Rattle.join_law.specs.Prelude.{[], alike_right, and_parts, ap, arith, below_all, Bool, cond, eq-eqb, eq_by_cmp, eqb-true, Equal, false, find, find_before, Greater, is_eq, is_equal, is_less, IsTotalOrder, IsTrue, length, Less, List, None, Option, Ordering, ordering_reverse, refl, Some, subst, sym, tied_back, tied_itself, true, ℕ, ◌∙◌}
use Rattle.join_law.specs.{Maps.{IsMap, MapBelow, OptionBelow}, Order.{IsBelowBoth, IsLeast}}

module _ {K V : Type 0} (R : K → K → Ordering) (below : V → V → Type 0) (o : IsTotalOrder R) (valid : V → Type 0) where
  find_head : (e : K × V) (es : List (K × V)) → find R e.0 (e ∷ es) ≡ Some e.1
  find_head e es = ap (λ r. cond (is_eq r) (Some e.1) (find R e.0 es)) (tied_itself o e.0)

  -- a key below all keys of a map isn't in it, so its value must be bottom
  missed : (e f : K × V) (es fs : List (K × V)) → IsMap R below valid (f ∷ fs) → R e.0 f.0 ≡ Less
      → ((q : K) → OptionBelow below (find R q (e ∷ es)) (find R q (f ∷ fs))) → IsLeast below e.1
  missed e f es fs m p h =
      let none = ap (λ r. cond (is_eq r) (Some f.1) (find R e.0 fs)) p ∙ find_before R e.0 o f.0 p fs (and_parts _ _ m.sorted).0 in
      subst (λ x. OptionBelow below (Some e.1) x) none (subst (λ x. OptionBelow below x (find R e.0 (f ∷ fs))) (find_head e es) (h e.0))

  tail_at : (b : Bool) (v w : V) (x y : Option V) → (b ≡ true → x ≡ None)
      → OptionBelow below (cond b (Some v) x) (cond b (Some w) y) → OptionBelow below x y
  tail_at true v w x y n h = subst (λ z. OptionBelow below z y) (sym (n refl)) tt
  tail_at false v w x y n h = h

  tails : (e f : K × V) (es fs : List (K × V)) → IsMap R below valid (e ∷ es) → R e.0 f.0 ≡ Equal
      → ((q : K) → OptionBelow below (find R q (e ∷ es)) (find R q (f ∷ fs))) → (q : K)
      → OptionBelow below (find R q es) (find R q fs)
  tails e f es fs m p h q =
      tail_at (eq_by_cmp R q e.0) e.1 f.1 (find R q es) (find R q fs)
      (λ t. not_in q e.0 es (is_equal _ t) (and_parts _ _ m.sorted).0)
      (subst (λ r. OptionBelow below (find R q (e ∷ es)) (cond (is_eq r) (Some f.1) (find R q fs))) (sym (alike_right o e.0 f.0 q p)) (h q))
    where
      not_in : (q x : K) (es : List (K × V)) → R q x ≡ Equal → IsTrue (below_all R x es) → find R q es ≡ None
      not_in q x [] t h = refl
      not_in q x (e ∷ es) t h = ap (λ r. cond (is_eq r) (Some e.1) (find R q es)) (o.congr q x e.0 t ∙ is_less _ (and_parts _ _ h).0) ∙ not_in q x es t (and_parts _ _ h).1

  heads : (e f : K × V) (es fs : List (K × V)) → R e.0 f.0 ≡ Equal
      → ((q : K) → OptionBelow below (find R q (e ∷ es)) (find R q (f ∷ fs))) → below e.1 f.1
  heads e f es fs p h = subst (λ r. OptionBelow below (Some e.1) (cond (is_eq r) (Some f.1) (find R e.0 fs))) p (subst (λ x. OptionBelow below x (find R e.0 (f ∷ fs))) (find_head e es) (h e.0))

  rest_is_map : (e : K × V) (es : List (K × V)) → IsMap R below valid (e ∷ es) → IsMap R below valid es
  rest_is_map e es m = record { sorted = (and_parts _ _ m.sorted).1; held = m.held.1 }

  -- the bottom map is the empty map
  pub least_exactly_empty : (es : List (K × V)) (n : ℕ) → n ≡ length es → IsMap R below valid es → IsTrue (n == 0)
      ↔ IsLeast (MapBelow R below) es
  least_exactly_empty [] n is m = (λ t z. record { at = λ q. tt }, λ l. eq-eqb n 0 is)
  least_exactly_empty (e ∷ es) n is m = (λ t. absurd (not_zero t), λ l. absurd (m.held.0.not_least (subst (λ x. OptionBelow below x None) (find_head e es) ((l []).at e.0))))
    where
      not_zero : ¬ IsTrue (n == 0)
      not_zero t = let h = eqb-true n 0 t in omega (arith, h)

  -- if keys that tie are equal, and so are values that are below each other
  module _ (exact : (x y : K) → R x y ≡ Equal → x ≡ y) (one : (x y : V) → valid x → valid y → IsBelowBoth below x y → x ≡ y) where
    one_from : (es fs : List (K × V)) → IsMap R below valid es → IsMap R below valid fs
        → ((q : K) → OptionBelow below (find R q es) (find R q fs))
        → ((q : K) → OptionBelow below (find R q fs) (find R q es)) → es ≡ fs
    one_from [] [] m n h k = refl
    one_from [] (f ∷ fs) m n h k = absurd (n.held.0.not_least (subst (λ x. OptionBelow below x None) (find_head f fs) (k f.0)))
    one_from (e ∷ es) [] m n h k = absurd (m.held.0.not_least (subst (λ x. OptionBelow below x None) (find_head e es) (h e.0)))
    one_from (e ∷ es) (f ∷ fs) m n h k =
        elim (R e.0 f.0) as (λ r. R e.0 f.0 ≡ r → e ∷ es ≡ f ∷ fs) [
          | Less ↦ λ p. absurd (m.held.0.not_least (missed e f es fs n p h))
          | Greater ↦ λ p. absurd (n.held.0.not_least (missed f e fs es m (o.antisymm f.0 e.0 ∙ ap ordering_reverse p) k))
          | Equal ↦ λ p.
              let key = exact e.0 f.0 p in
              let back = tied_back o e.0 f.0 p in
              let value = one e.1 f.1 m.held.0.well_formed n.held.0.well_formed (heads e f es fs p h, heads f e fs es back k) in
              let rest = one_from es fs (rest_is_map e es m) (rest_is_map f fs n) (tails e f es fs m p h) (tails f e fs es n back k) in
              λ i. (key i, value i) ∷ rest i
        ] refl

    pub maps_one : (es fs : List (K × V)) → IsMap R below valid es → IsMap R below valid fs → IsBelowBoth (MapBelow R below) es fs → es ≡ fs
    maps_one es fs m n b = one_from es fs m n b.0.at b.1.at
