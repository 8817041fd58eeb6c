-- The members of a sorted list of keys after an insertion.
use Rattle.std.proofs.Common.{◌∷◌, ◌≡◌, ◌⊎◌}
use Rattle.list_laws.specs.{Members.{IsAmong}, Prelude.{[], Equal, Greater, inl, inr, insert_key, Less, List, match_ordering, Ordering, refl, sym}}

module _ {N : Type 0} (order : N → N → Ordering) where
  -- every old member is still a member
  pub put_kept : (k : N) (ks : List N) (n : N) → IsAmong n ks → IsAmong n (insert_key order ks k)
  put_kept k [] n h = absurd h
  put_kept k (x ∷ xs) n h = by (order k x) h (put_kept k xs n)
    where
      by : (r : Ordering) → IsAmong n (x ∷ xs) → (IsAmong n xs → IsAmong n (insert_key order xs k))
          → IsAmong n (match_ordering r (k ∷ x ∷ xs) (x ∷ xs) (x ∷ insert_key order xs k))
      by Less a more = inr a
      by Equal a more = a
      by Greater (inl a) more = inl a
      by Greater (inr a) more = inr (more a)

  -- the only new member is the inserted key
  pub put_sound : (k : N) (ks : List N) (n : N) → IsAmong n (insert_key order ks k) → IsAmong n ks ⊎ (k ≡ n)
  put_sound k [] n (inl h) = inr h
  put_sound k [] n (inr h) = absurd h
  put_sound k (x ∷ xs) n h = by (order k x) h (put_sound k xs n)
    where
      after : IsAmong n xs ⊎ (k ≡ n) → IsAmong n (x ∷ xs) ⊎ (k ≡ n)
      after (inl a) = inl (inr a)
      after (inr a) = inr a

      by : (r : Ordering) → IsAmong n (match_ordering r (k ∷ x ∷ xs) (x ∷ xs) (x ∷ insert_key order xs k))
          → (IsAmong n (insert_key order xs k) → IsAmong n xs ⊎ (k ≡ n)) → IsAmong n (x ∷ xs) ⊎ (k ≡ n)
      by Less (inl a) more = inr a
      by Less (inr a) more = inl a
      by Equal a more = inl a
      by Greater (inl a) more = inl (inl a)
      by Greater (inr a) more = after (more a)

  -- the inserted key is a member, if the order calls no other key equal to it
  pub put_there : ((x y : N) → order x y ≡ Equal → x ≡ y) → (k : N) (ks : List N) → IsAmong k (insert_key order ks k)
  put_there exact k [] = inl refl
  put_there exact k (x ∷ xs) = by (order k x) refl (put_there exact k xs)
    where
      by : (r : Ordering) → order k x ≡ r → IsAmong k (insert_key order xs k)
          → IsAmong k (match_ordering r (k ∷ x ∷ xs) (x ∷ xs) (x ∷ insert_key order xs k))
      by Less e more = inl refl
      by Equal e more = inl (sym (exact k x e))
      by Greater e more = inr more
