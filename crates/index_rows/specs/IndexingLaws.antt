-- What is reached, closures and distances are carried from indices to names.
use Rattle.std.proofs.Common.{◌<◌, ◌↔◌, ◌∷◌, ◌≡◌, ◌⊎◌}
use Rattle.index_rows.specs.Prelude.{[], AllByRecursion, ap, arith, Equal, Greater, inl, inr, IsAmong, IsChain, IsClosure, IsReached, IsStrictlySortedBy, IsTotalOrder, Less, List, Listed, map, nat_cmp, nat_cmp_is, Ordering, ranked, refl, subst, suc, sym, tied_itself, turned, zero, ℕ, ◌∙◌}
use Rattle.index_rows.specs.Indexing.{AreNamedSuccessors, AreNames, IsIndexing}

-- the members of a mapped list are the images of the list's members
pub among_mapped : {M N : Type 0} (f : M → N) (x : M) (xs : List M) → IsAmong x xs → IsAmong (f x) (map f xs)
among_mapped f x [] h = absurd h
among_mapped f x (y ∷ ys) (inl e) = inl (ap f e)
among_mapped f x (y ∷ ys) (inr h) = inr (among_mapped f x ys h)

pub mapped_from : {M N : Type 0} (f : M → N) (u : N) (xs : List M) → IsAmong u (map f xs) → (x : M) × (IsAmong x xs × (f x ≡ u))
mapped_from f u [] h = absurd h
mapped_from f u (y ∷ ys) (inl e) = (y, (inl refl, e))
mapped_from f u (y ∷ ys) (inr h) = let r = mapped_from f u ys h in (r.0, (inr r.1.0, r.1.1))

three_ways : (i j : ℕ) → (i < j) ⊎ ((j < i) ⊎ (i ≡ j))
three_ways zero zero = inr (inr refl)
three_ways zero (suc j) = inl (omega arith)
three_ways (suc i) zero = inr (inl (omega arith))
three_ways (suc i) (suc j) = elim (three_ways i j) [
  | inl l ↦ inl (omega arith)
  | inr r ↦ elim r [ inl l ↦ inr (inl (omega arith)) | inr e ↦ inr (inr (ap suc e)) ]
]

module _ {N : Type 0} (count : ℕ) (name : ℕ → N) (order : N → N → Ordering) (total : IsTotalOrder order)
    (n : IsIndexing count name order) where
  -- names compare as their indices do
  pub names_compare : (i j : ℕ) → i < count → j < count → order (name i) (name j) ≡ nat_cmp i j
  names_compare i j a b = elim (three_ways i j) [
    | inl l ↦ n.ascends i j l b ∙ nat_cmp_is i j Less l
    | inr r ↦ elim r [
      | inl l ↦ turned order total (name j) (name i) Less (n.ascends j i l a) ∙ nat_cmp_is i j Greater l
      | inr e ↦ ap (λ k. order (name i) (name k)) (sym e) ∙ tied_itself total (name i) ∙ nat_cmp_is i j Equal e
    ]
  ]

  -- two indices with the same name are equal
  pub one_index : (i j : ℕ) → i < count → j < count → name i ≡ name j → i ≡ j
  one_index i j a b e = ranked i j Equal (sym (tied_itself total (name i)) ∙ ap (order (name i)) e ∙ names_compare i j a b)

  -- what holds of a name holds of its index
  pub index_of : (P : ℕ → Type 0) (Q : N → Type 0) → AreNames count name P Q → (i : ℕ) → i < count → Q (name i) → P i
  index_of P Q a i l q = let r = a.indexed (name i) q in subst P (one_index r.0 i (a.within r.0 r.1.0) l r.1.1) r.1.0

  -- the names of an ascending list of indices are ascending
  below_named : (i : ℕ) (js : List ℕ) → i < count → ((j : ℕ) → IsAmong j js → j < count) → AllByRecursion (λ j. nat_cmp i j ≡ Less) js
      → AllByRecursion (λ v. order (name i) v ≡ Less) (map name js)
  below_named i [] l within a = tt
  below_named i (j ∷ js) l within a = (names_compare i j l (within j (inl refl)) ∙ a.0, below_named i js l (λ k h. within k (inr h)) a.1)

  pub ascending_named : (is : List ℕ) → ((i : ℕ) → IsAmong i is → i < count) → IsStrictlySortedBy nat_cmp is
      → IsStrictlySortedBy order (map name is)
  unfolding IsStrictlySortedBy
  ascending_named [] within s = tt
  ascending_named (i ∷ is) within s = (below_named i is (within i (inl refl)) (λ j h. within j (inr h)) s.0, ascending_named is (λ j h. within j (inr h)) s.1)

-- the members of a list of indices below the count, and those of the list of their names
pub listed_names : {N : Type 0} (count : ℕ) (name : ℕ → N) (is : List ℕ) → ((i : ℕ) → IsAmong i is → i < count)
    → AreNames count name (Listed is) (Listed (map name is))
listed_names count name is within = record {
  within = within;
  named = λ i h. among_mapped name i is h;
  indexed = λ u h. mapped_from name u is h;
}

module _ {N : Type 0} (count : ℕ) (name : ℕ → N) (S : ℕ → Type 0) (S' : N → Type 0) (E : ℕ → ℕ → Type 0) (E' : N → N → Type 0)
    (sources : AreNames count name S S') (successors : AreNamedSuccessors count name E E') where
  chain_within : (k i : ℕ) → IsChain S E k i → i < count
  chain_within zero i c = sources.within i c
  chain_within (suc k) i c = (successors c.0 (chain_within k c.0 c.1.0)).within i c.1.1

  chain_named : (k i : ℕ) → IsChain S E k i → IsChain S' E' k (name i)
  chain_named zero i c = sources.named i c
  chain_named (suc k) i c = (name c.0, (chain_named k c.0 c.1.0, (successors c.0 (chain_within k c.0 c.1.0)).named i c.1.1))

  chain_indexed : (k : ℕ) (u : N) → IsChain S' E' k u → (i : ℕ) × (IsChain S E k i × (name i ≡ u))
  chain_indexed zero u c = sources.indexed u c
  chain_indexed (suc k) u c =
      let m = chain_indexed k c.0 c.1.0 in
      let P : N → Type 0 = λ v. E' v u in
      let j = (successors m.0 (chain_within k m.0 m.1.0)).indexed u (subst P (sym m.1.1) c.1.1) in
      (j.0, ((m.0, (m.1.0, j.1.0)), j.1.1))

  pub chains_named : (k : ℕ) → AreNames count name (IsChain S E k) (IsChain S' E' k)
  chains_named k = record { within = chain_within k; named = chain_named k; indexed = chain_indexed k }

  -- what is reached over names are the names of what is reached over indices
  pub reached_named : AreNames count name (IsReached S E) (IsReached S' E')
  reached_named = record {
    within = λ i r. chain_within r.steps i r.chain;
    named = λ i r. record { steps = r.steps; chain = chain_named r.steps i r.chain };
    indexed = λ u r. (let j = chain_indexed r.steps u r.chain in (j.0, (record { steps = r.steps; chain = j.1.0 }, j.1.1)));
  }

-- the ascending list of a set of indices, and that of the set of their names
module _ {N : Type 0} (count : ℕ) (name : ℕ → N) (order : N → N → Ordering) (total : IsTotalOrder order)
    (n : IsIndexing count name order) where
  -- the names of a list's members are those of the set
  pub members_named : (P : ℕ → Type 0) (Q : N → Type 0) → AreNames count name P Q → (is : List ℕ)
      → ((i : ℕ) → IsAmong i is ↔ P i) → (u : N) → IsAmong u (map name is) ↔ Q u
  members_named P Q a is members u = (
    λ h. (let r = mapped_from name u is h in subst Q r.1.1 (a.named r.0 ((members r.0).0 r.1.0))),
    λ q. (let r = a.indexed u q in let R : N → Type 0 = λ v. IsAmong v (map name is) in subst R r.1.1 (among_mapped name r.0 is ((members r.0).1 r.1.0))),
  )

  module _ (S : ℕ → Type 0) (S' : N → Type 0) (E : ℕ → ℕ → Type 0) (E' : N → N → Type 0)
      (sources : AreNames count name S S') (successors : AreNamedSuccessors count name E E') where
    reach : AreNames count name (IsReached S E) (IsReached S' E')
    reach = reached_named count name S S' E E' sources successors

    -- the names of a closure are the closure of the names
    pub closure_named : (is : List ℕ) → IsClosure S E nat_cmp is → IsClosure S' E' order (map name is)
    closure_named is c = record {
      ascending = ascending_named count name order total n is (λ i h. reach.within i ((c.members i).0 h)) c.ascending;
      members = members_named (IsReached S E) (IsReached S' E') reach is c.members;
    }
