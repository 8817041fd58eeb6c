-- The nodes that a round names and that aren't its own.
use Rattle.std.proofs.Common.{◌++◌, ◌+◌, ◌<◌, ◌↔◌, ◌∷◌, ◌≡◌, ◌⊎◌}
use Rattle.name_closure.proofs.Prelude.{[], ap, append-nil, AreApart, AreOthers, arith, flat_map, flat_map-append, get_or, inl, inr, IsAmong, IsAmong-append_cases, IsAmong-append_left, IsAmong-append_right, keys_of, length, List, subst, suc, sym, take, take_more, zero, ℕ, ◌∙◌}

module _ {N U : Type 0} where
  -- the key of a pair is among the keys
  pub key_at : (n : N) (pairs : List (N × U)) (i : ℕ) (d : N × U) → i < length pairs → (get_or pairs i d).0 ≡ n → IsAmong n (keys_of pairs)
  key_at n [] i d l e = absurd (omega arith)
  key_at n (q ∷ qs) zero d l e = inl e
  key_at n (q ∷ qs) (suc i) d l e = inr (key_at n qs i d (omega arith) e)

-- the images of one more element follow those of the elements before it
pub made_more : {P N : Type 0} (f : P → List N) (l : List P) (i : ℕ) (d x : P) (more : List N) → i < length l → x ≡ get_or l i d → more ≡ f x → flat_map f (take i l) ++ more ≡ flat_map f (take (i + 1) l)
made_more f l i d x more within is e =
    ap (λ v. flat_map f (take i l) ++ v) (e ∙ sym (append-nil (f x))) ∙ sym (flat_map-append f (take i l) (x ∷ []))
    ∙ ap (flat_map f) (ap (λ y. take i l ++ y ∷ []) is ∙ sym (take_more l i d within))

module _ {N : Type 0} (own : List N) where
  -- one more node, which is the round's own
  pub others_kept : (all some : List N) (n : N) → IsAmong n own → AreOthers own all some → AreOthers own (all ++ n ∷ []) some
  others_kept all some n h o = record {
    origin = λ m a. IsAmong-append_left m all (n ∷ []) (o.origin m a);
    took = λ m a. elim (IsAmong-append_cases m all (n ∷ []) a) [ inl b ↦ o.took m b | inr b ↦ last m b ];
  }
    where
      last : (m : N) → IsAmong m (n ∷ []) → IsAmong m own ⊎ IsAmong m some
      last m (inl e) = inl (subst (λ v. IsAmong v own) e h)
      last m (inr f) = absurd f

  -- one more node, which isn't the round's own
  pub apart_more : (some : List N) (n : N) → AreApart own some → ¬ IsAmong n own → AreApart own (some ++ n ∷ [])
  apart_more some n apart other m h = elim (IsAmong-append_cases m some (n ∷ []) h) [ inl a ↦ apart m a | inr b ↦ last m b ]
    where
      last : (m : N) → IsAmong m (n ∷ []) → ¬ IsAmong m own
      last m (inl e) = subst (λ v. ¬ IsAmong v own) e other
      last m (inr f) = absurd f

  -- and is added
  pub others_more : (all some : List N) (n : N) → AreOthers own all some → AreOthers own (all ++ n ∷ []) (some ++ n ∷ [])
  others_more all some n o = record {
    origin = λ m a. elim (IsAmong-append_cases m some (n ∷ []) a) [
      | inl b ↦ IsAmong-append_left m all (n ∷ []) (o.origin m b)
      | inr b ↦ IsAmong-append_right m all (n ∷ []) b
    ];
    took = λ m a. elim (IsAmong-append_cases m all (n ∷ []) a) [
      | inl b ↦ after m (o.took m b)
      | inr b ↦ inr (IsAmong-append_right m some (n ∷ []) b)
    ];
  }
    where
      after : (m : N) → IsAmong m own ⊎ IsAmong m some → IsAmong m own ⊎ IsAmong m (some ++ n ∷ [])
      after m (inl a) = inl a
      after m (inr a) = inr (IsAmong-append_left m some (n ∷ []) a)

  -- what was named before, and more
  pub others_after : (all some more some' : List N) → AreOthers own all some → AreOthers own (some ++ more) some' → AreOthers own (all ++ more) some'
  others_after all some more some' o p = record {
    origin = λ n h. elim (IsAmong-append_cases n some more (p.origin n h)) [
      | inl a ↦ IsAmong-append_left n all more (o.origin n a)
      | inr b ↦ IsAmong-append_right n all more b
    ];
    took = λ n h. elim (IsAmong-append_cases n all more h) [
      | inl a ↦ next n (o.took n a)
      | inr b ↦ p.took n (IsAmong-append_right n some more b)
    ];
  }
    where
      next : (n : N) → IsAmong n own ⊎ IsAmong n some → IsAmong n own ⊎ IsAmong n some'
      next n (inl a) = inl a
      next n (inr a) = p.took n (IsAmong-append_left n some more a)

  -- another list of the same nodes
  pub others_of_same : (all some some' : List N) → ((n : N) → (IsAmong n some' → IsAmong n some) × (IsAmong n some → IsAmong n some')) → AreOthers own all some → AreOthers own all some'
  others_of_same all some some' same o = record {
    origin = λ n h. o.origin n ((same n).0 h);
    took = λ n h. elim (o.took n h) [ inl a ↦ inl a | inr b ↦ inr ((same n).1 b) ];
  }

-- the same, where a part of the names is replaced by a list with the same members
pub others_of_members : {N : Type 0} (own all more once some : List N) → ((n : N) → IsAmong n once ↔ IsAmong n more) → AreOthers own (all ++ once) some → AreOthers own (all ++ more) some
others_of_members {N} own all more once some same o = record {
  origin = λ n h. from n (IsAmong-append_cases n all once (o.origin n h));
  took = λ n h. o.took n (to n (IsAmong-append_cases n all more h));
}
  where
    from : (n : N) → IsAmong n all ⊎ IsAmong n once → IsAmong n (all ++ more)
    from n (inl a) = IsAmong-append_left n all more a
    from n (inr b) = IsAmong-append_right n all more ((same n).0 b)

    to : (n : N) → IsAmong n all ⊎ IsAmong n more → IsAmong n (all ++ once)
    to n (inl a) = IsAmong-append_left n all once a
    to n (inr b) = IsAmong-append_right n all once ((same n).1 b)
