-- Finding a key among pairs that stand one behind another.
use Rattle.std.proofs.Common.{◌&&◌, ◌++◌, ◌∷◌, ◌≡◌, ◌≢◌}
use Rattle.chunked_pairs.specs.Prelude.{[], and_parts, ap, below_all, Bool, cond, Equal, false, find, Greater, is_eq, is_lt, is_sorted, IsTotalOrder, IsTrue, Less, List, None, Ordering, ordering_reverse, refl, Some, sym, true, turned, ◌∙◌}
use Rattle.chunked_pairs.specs.Chunks.{AllKeys}

pub both : (a b : Bool) → IsTrue a → IsTrue b → IsTrue (a && b)
both true b p q = q
both false b p q = cc (p)

module _ {K V : Type 0} where
  pub keys_weaker : {P Q : K → Type 0} → ((q : K) → P q → Q q) → (xs : List (K × V)) → AllKeys P xs → AllKeys Q xs
  keys_weaker f [] h = tt
  keys_weaker f (x ∷ xs) h = (f x.0 h.0, keys_weaker f xs h.1)

  pub keys_both : (P Q : K → Type 0) (xs : List (K × V)) → AllKeys P xs → AllKeys Q xs → AllKeys (λ q. P q × Q q) xs
  keys_both P Q [] h k = tt
  keys_both P Q (x ∷ xs) h k = ((h.0, k.0), keys_both P Q xs h.1 k.1)

  pub keys_append : (P : K → Type 0) (xs ys : List (K × V)) → AllKeys P xs → AllKeys P ys → AllKeys P (xs ++ ys)
  keys_append P [] ys h k = k
  keys_append P (x ∷ xs) ys h k = (h.0, keys_append P xs ys h.1 k)

  pub keys_parts : (P : K → Type 0) (xs ys : List (K × V)) → AllKeys P (xs ++ ys) → AllKeys P xs × AllKeys P ys
  keys_parts P [] ys h = (tt, h)
  keys_parts P (x ∷ xs) ys h = let t = keys_parts P xs ys h.1 in ((h.0, t.0), t.1)

module _ {K : Type 0} (R : K → K → Ordering) (o : IsTotalOrder R) where
  greater_back : (r : Ordering) → ordering_reverse r ≡ Greater → r ≡ Less
  greater_back Less h = refl
  greater_back Equal h = cc (h)
  greater_back Greater h = cc (h)

  -- x < s ≤ y
  pub below_from : (x s y : K) → R x s ≡ Less → R y s ≢ Less → R x y ≡ Less
  below_from x s y h n =
      elim (R s y) as (λ r. R s y ≡ r → R x y ≡ Less) [
        | Less ↦ λ e. o.trans x s y h e
        | Equal ↦ λ e. o.antisymm x y ∙ ap ordering_reverse (sym (o.congr s y x e) ∙ turned R o x s Less h)
        | Greater ↦ λ e. absurd (n (turned R o s y Greater e))
      ] refl

  -- s ≤ x < t
  pub from_below : (s x t : K) → R x s ≢ Less → R x t ≡ Less → R s t ≡ Less
  from_below s x t n h =
      elim (R s x) as (λ r. R s x ≡ r → R s t ≡ Less) [
        | Less ↦ λ e. o.trans s x t e h
        | Equal ↦ λ e. o.congr s x t e ∙ h
        | Greater ↦ λ e. absurd (n (turned R o s x Greater e))
      ] refl

  pub not_below : (s y : K) → R s y ≡ Less → R y s ≢ Less
  not_below s y h e = let t = turned R o s y Less h in cc (t, e)

  pub not_equal : (x y : K) → R x y ≡ Less → R y x ≢ Equal
  not_equal x y h e = let t = turned R o x y Less h in cc (t, e)

  module _ {V : Type 0} where
    pub find_none : (q : K) (xs : List (K × V)) → AllKeys (λ x. R q x ≢ Equal) xs → find R q xs ≡ None
    find_none q [] h = refl
    find_none q (x ∷ xs) h =
        elim (R q x.0) as (λ r. R q x.0 ≡ r → cond (is_eq r) (Some x.1) (find R q xs) ≡ None) [
          | Less ↦ λ e. find_none q xs h.1
          | Equal ↦ λ e. absurd (h.0 e)
          | Greater ↦ λ e. find_none q xs h.1
        ] refl

    pub find_first : (q : K) (xs ys : List (K × V)) → find R q ys ≡ None → find R q (xs ++ ys) ≡ find R q xs
    find_first q [] ys h = h
    find_first q (x ∷ xs) ys h = ap (cond (is_eq (R q x.0)) (Some x.1)) (find_first q xs ys h)

    pub find_second : (q : K) (xs ys : List (K × V)) → find R q xs ≡ None → find R q (xs ++ ys) ≡ find R q ys
    find_second q [] ys h = refl
    find_second q (x ∷ xs) ys h =
        elim (is_eq (R q x.0)) as (λ b. cond b (Some x.1) (find R q xs) ≡ None → cond b (Some x.1) (find R q (xs ++ ys)) ≡ find R q ys) [
          | true ↦ λ e. cc (e)
          | false ↦ λ e. find_second q xs ys e
        ] h

    -- a key at or above s isn't among lesser ones
    pub find_above : (q s : K) (xs : List (K × V)) → R q s ≢ Less → AllKeys (λ x. R x s ≡ Less) xs → find R q xs ≡ None
    find_above q s xs n h = find_none q xs (keys_weaker (λ x l. not_equal x q (below_from x s q l n)) xs h)

    -- a key below s isn't among the others
    pub find_below : (q s : K) (xs : List (K × V)) → R q s ≡ Less → AllKeys (λ x. R x s ≢ Less) xs → find R q xs ≡ None
    find_below q s xs h n = find_none q xs (keys_weaker (λ x l e. let t = below_from q s x h l in cc (t, e)) xs n)

    below_all_append : (x s : K) (xs ys : List (K × V)) → R x s ≡ Less → IsTrue (below_all R x xs)
        → AllKeys (λ q. R q s ≢ Less) ys → IsTrue (below_all R x (xs ++ ys))
    below_all_append x s [] [] h b k = refl
    below_all_append x s [] (y ∷ ys) h b k = both _ _ (ap is_lt (below_from x s y.0 h k.0)) (below_all_append x s [] ys h refl k.1)
    below_all_append x s (e ∷ es) ys h b k = both _ _ (and_parts _ _ b).0 (below_all_append x s es ys h (and_parts _ _ b).1 k)

    -- sorted pairs below s, and sorted pairs at or above s
    pub sorted_append : (s : K) (xs ys : List (K × V)) → IsTrue (is_sorted R xs) → IsTrue (is_sorted R ys)
        → AllKeys (λ q. R q s ≡ Less) xs → AllKeys (λ q. R q s ≢ Less) ys → IsTrue (is_sorted R (xs ++ ys))
    sorted_append s [] ys a b h k = b
    sorted_append s (x ∷ xs) ys a b h k =
        both _ _ (below_all_append x.0 s xs ys h.0 (and_parts _ _ a).0 k) (sorted_append s xs ys (and_parts _ _ a).1 b h.1 k)

    pub sorted_second : (xs ys : List (K × V)) → IsTrue (is_sorted R (xs ++ ys)) → IsTrue (is_sorted R ys)
    sorted_second [] ys h = h
    sorted_second (x ∷ xs) ys h = sorted_second xs ys (and_parts _ _ h).1
