-- Sorted pairs: a search for a key finds the value that the list has for it.
use Rattle.std.{proofs.Common.{◌∷◌, ◌≡◌}, specs.FinMap.Entries.{find, is_sorted}}
use Rattle.parallel_load.specs.Prelude.{[], and_parts, ap, below_all, cond, Equal, Greater, inl, inr, is_eq, is_less, IsAmong, IsAntisymmetric, IsTotalOrder, IsTrue, Less, List, Ordering, refl, same_Some, Some, sym, tied_itself, turned, ◌∙◌}

module _ {K V : Type 0} (R : K → K → Ordering) where
  -- what is found is in the list
  pub find_among : IsAntisymmetric R → (k : K) (es : List (K × V)) (v : V) → find R k es ≡ Some v → IsAmong {X = K × V} (k, v) es
  find_among exact k [] v h = cc (h)
  find_among exact k (e ∷ es) v h = by (R k e.0) refl h (find_among exact k es v)
    where
      by : (r : Ordering) → R k e.0 ≡ r → cond (is_eq r) (Some e.1) (find R k es) ≡ Some v → (find R k es ≡ Some v → IsAmong {X = K × V} (k, v) es)
          → IsAmong {X = K × V} (k, v) (e ∷ es)
      by Less c f more = inr (more f)
      by Equal c f more = inl (ap (λ x. (x, e.1)) (sym (exact k e.0 c)) ∙ ap (λ y. (k, y)) (same_Some _ _ f))
      by Greater c f more = inr (more f)

  -- what is below all keys is below each
  below_among : (x k : K) (v : V) (es : List (K × V)) → IsTrue (below_all R x es) → IsAmong {X = K × V} (k, v) es → R x k ≡ Less
  below_among x k v [] b h = absurd h
  below_among x k v (e ∷ es) b (inl f) = ap (λ (p : K × V). R x p.0) (sym f) ∙ is_less _ (and_parts _ _ b).0
  below_among x k v (e ∷ es) b (inr h) = below_among x k v es (and_parts _ _ b).1 h

  -- what is in the list is found
  pub among_find : IsTotalOrder R → (k : K) (v : V) (es : List (K × V)) → IsTrue (is_sorted R es) → IsAmong {X = K × V} (k, v) es → find R k es ≡ Some v
  among_find o k v [] s h = absurd h
  among_find o k v (e ∷ es) s (inl f) =
      ap (λ (p : K × V). cond (is_eq (R k p.0)) (Some p.1) (find R k es)) f
      ∙ ap (λ r. cond (is_eq r) (Some v) (find R k es)) (tied_itself o k)
  among_find o k v (e ∷ es) s (inr h) =
      let below = below_among e.0 k v es (and_parts _ _ s).0 h in
      ap (λ r. cond (is_eq r) (Some e.1) (find R k es)) (turned R o e.0 k Less below)
      ∙ among_find o k v es (and_parts _ _ s).1 h
