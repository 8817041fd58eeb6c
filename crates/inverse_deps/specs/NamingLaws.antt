-- Sets of indices and the sets of their names: unions, other descriptions, and reversed edges.
use Rattle.std.proofs.Common.{◌++◌, ◌<◌, ◌↔◌, ◌≡◌, ◌⊎◌}
use Rattle.inverse_deps.specs.Prelude.{AreNamedSuccessors, AreNames, index_of, inl, inr, IsAmong, IsAmong-append_cases, IsAmong-append_left, IsAmong-append_right, IsIndexing, IsTotalOrder, List, Listed, Ordering, refl, subst, sym, ℕ}

module _ {N : Type 0} (count : ℕ) (name : ℕ → N) where
  -- the same sets, described otherwise
  pub names_along : (P P' : ℕ → Type 0) (Q Q' : N → Type 0) → AreNames count name P Q → ((i : ℕ) → P i ↔ P' i) → ((u : N) → Q u ↔ Q' u)
      → AreNames count name P' Q'
  names_along P P' Q Q' a p q = record {
    within = λ i h. a.within i ((p i).1 h);
    named = λ i h. (q (name i)).0 (a.named i ((p i).1 h));
    indexed = λ u h. (let r = a.indexed u ((q u).1 h) in (r.0, ((p r.0).0 r.1.0, r.1.1)));
  }

  -- no indices, and no names
  pub names_none : (P : ℕ → Type 0) (Q : N → Type 0) → ((i : ℕ) → ¬ P i) → ((u : N) → ¬ Q u) → AreNames count name P Q
  names_none P Q p q = record { within = λ i h. absurd (p i h); named = λ i h. absurd (p i h); indexed = λ u h. absurd (q u h) }

  -- one index and its name
  pub names_one : (i : ℕ) (u : N) → i < count → name i ≡ u → AreNames count name (λ j. i ≡ j) (λ v. u ≡ v)
  names_one i u l e = record {
    within = λ j h. (let P : ℕ → Type 0 = λ k. k < count in subst P h l);
    named = λ j h. (let P : ℕ → Type 0 = λ k. u ≡ name k in subst P h (sym e));
    indexed = λ v h. (i, (refl, (let P : N → Type 0 = λ w. name i ≡ w in subst P h e)));
  }

  -- the union of two sets
  pub names_either : (P P' : ℕ → Type 0) (Q Q' : N → Type 0) → AreNames count name P Q → AreNames count name P' Q'
      → AreNames count name (λ i. P i ⊎ P' i) (λ u. Q u ⊎ Q' u)
  names_either P P' Q Q' a b = record { within = within; named = named; indexed = indexed }
    where
      within : (i : ℕ) → P i ⊎ P' i → i < count
      within i (inl h) = a.within i h
      within i (inr h) = b.within i h

      named : (i : ℕ) → P i ⊎ P' i → Q (name i) ⊎ Q' (name i)
      named i (inl h) = inl (a.named i h)
      named i (inr h) = inr (b.named i h)

      indexed : (u : N) → Q u ⊎ Q' u → (i : ℕ) × ((P i ⊎ P' i) × (name i ≡ u))
      indexed u (inl h) = let r = a.indexed u h in (r.0, (inl r.1.0, r.1.1))
      indexed u (inr h) = let r = b.indexed u h in (r.0, (inr r.1.0, r.1.1))

  -- two lists, one after the other
  pub listed_either : (is js ks : List ℕ) (Q Q' : N → Type 0) → AreNames count name (Listed is) Q
      → AreNames count name (Listed js) Q' → ks ≡ is ++ js
      → AreNames count name (Listed ks) (λ u. Q u ⊎ Q' u)
  listed_either is js ks Q Q' a b e =
      names_along (λ i. Listed is i ⊎ Listed js i) (Listed ks) (λ u. Q u ⊎ Q' u) (λ u. Q u ⊎ Q' u) (names_either (Listed is) (Listed js) Q Q' a b)
      (λ i. (let P : List ℕ → Type 0 = λ l. IsAmong i l in
      (λ h. subst P (sym e) (both i h), λ h. IsAmong-append_cases i is js (subst P e h))))
      (λ u. (λ h. h, λ h. h))
    where
      both : (i : ℕ) → IsAmong i is ⊎ IsAmong i js → IsAmong i (is ++ js)
      both i (inl h) = IsAmong-append_left i is js h
      both i (inr h) = IsAmong-append_right i is js h

  -- Reversed edges between indices are reversed edges between their names.
  pub transposed_named : (order : N → N → Ordering) → IsTotalOrder order → IsIndexing count name order
      → (E F : ℕ → ℕ → Type 0) (L : N → N → Type 0)
      → AreNamedSuccessors count name E L → ((i j : ℕ) → F i j ↔ E j i) → ((i j : ℕ) → F i j → j < count)
      → ((u v : N) → L u v → (i : ℕ) × ((i < count) × (name i ≡ u))) → AreNamedSuccessors count name F (λ u v. L v u)
  transposed_named order total n E F L successors transposed within indices i l = record {
    within = λ j h. within i j h;
    named = λ j h. (successors j (within i j h)).named i ((transposed i j).0 h);
    indexed = λ u h. (let r = indices u (name i) h in
        let P : N → Type 0 = λ w. L w (name i) in
        let s = successors r.0 r.1.0 in
        let back : E r.0 i = index_of count name order total n (E r.0) (L (name r.0)) s i l (subst P (sym r.1.1) h) in
        (r.0, ((transposed i r.0).1 back, r.1.1)));
  }
