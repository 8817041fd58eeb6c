-- The list of secondary names is complete, and stays so where units are read again.
use Rattle.std.proofs.Common.{◌++◌, ◌+◌, ◌<◌, ◌∷◌, ◌≡◌, ◌≤◌, ◌⊎◌}
use Rattle.parallel_load.proofs.Prelude.{[], AddsNames, All, All-append, All-cons, All-nil, all_among, among_from_contains, ap, AreReadOrLeft, AreSecondaryNames, arith, cases_lt, Contains-permutation, contains_from_among, DependencyList, get_or, HasSecondaryNames, HasThese, HostViewMap, inl, inr, IsAmong, IsAmong-append_cases, IsAmong-append_left, IsAmong-append_right, IsName, IsOwnUnit, IsPermutation, IsPermutation-sym, IsReadOrLeft, length, List, LoadedUnit, Name, NameLoad, OfAlias, OfUnit, one_list_of_names, refl, subst, sym, take, take_all, take_more, unit_normalized, ℕ, ◌∙◌}
use Rattle.parallel_load.proofs.Keeping.{any_at, get_among}

-- ---- one unit's

-- the first i of a unit's names were looked at
pub record AreLookedAt (index : ℕ) (name : Name) (names : List Name) (old new : List (Name × ℕ)) (i : ℕ) : Type 0 where
  pub has : HasSecondaryNames new index name (take i names)
  pub kept : (p : Name × ℕ) → IsAmong p old → IsAmong p new
  pub added : (p : Name × ℕ) → IsAmong p new → IsAmong p old ⊎ (p.1 ≡ index)

all_from : {X : Type 0} (P : X → Type 0) (xs : List X) → ((x : X) → IsAmong x xs → P x) → All P xs
all_from P [] h = All-nil P
all_from P (x ∷ xs) h = All-cons P x xs (h x (inl refl)) (all_from P xs (λ y a. h y (inr a)))

module _ (index : ℕ) (name : Name) (own : IsName name) where
  pub none_looked_at : (names : List Name) (old : List (Name × ℕ)) → AreLookedAt index name names old old 0
  none_looked_at names old = record {
    has = record { own = own; well_formed = All-nil IsName; listed = λ m a. absurd a };
    kept = λ p a. a;
    added = λ p a. inl a;
  }

  module _ (names : List Name) (old new : List (Name × ℕ)) (i : ℕ) (h : AreLookedAt index name names old new i) (x : Name) (l : i < length names) (e : x ≡ get_or names i x) (well_formed : IsName x) where
    taken : take (i + 1) names ≡ take i names ++ x ∷ []
    taken = take_more names i x l ∙ ap (λ (y : Name). take i names ++ y ∷ []) (sym e)

    has_next : (now : List (Name × ℕ)) → ((p : Name × ℕ) → IsAmong p new → IsAmong p now) → (x ≡ name) ⊎ IsAmong {X = Name × ℕ} (x, index) now → HasSecondaryNames now index name (take (i + 1) names)
    has_next now more here =
        subst (λ (ns : List Name). HasSecondaryNames now index name ns) (sym taken) (record {
          own = own;
          well_formed = All-append IsName (take i names) (x ∷ []) h.has.well_formed (All-cons IsName x [] well_formed (All-nil IsName));
          listed = λ m a. by m (IsAmong-append_cases m (take i names) (x ∷ []) a);
        })
      where
        before : (m : Name) → (m ≡ name) ⊎ IsAmong {X = Name × ℕ} (m, index) new → (m ≡ name) ⊎ IsAmong {X = Name × ℕ} (m, index) now
        before m (inl f) = inl f
        before m (inr a) = inr (more (m, index) a)

        by : (m : Name) → IsAmong m (take i names) ⊎ IsAmong m (x ∷ []) → (m ≡ name) ⊎ IsAmong {X = Name × ℕ} (m, index) now
        by m (inl a) = before m (h.has.listed m a)
        by m (inr (inl f)) = subst (λ (n : Name). (n ≡ name) ⊎ IsAmong {X = Name × ℕ} (n, index) now) f here
        by m (inr (inr a)) = absurd a

    -- one more, which is the unit's main name
    pub own_next : x ≡ name → AreLookedAt index name names old new (i + 1)
    own_next f = record { has = has_next new (λ p a. a) (inl f); kept = h.kept; added = h.added }

    -- or is added
    pub other_next : (now : List (Name × ℕ)) (n : Name) → n ≡ x → now ≡ new ++ (n, index) ∷ [] → AreLookedAt index name names old now (i + 1)
    other_next now n f g =
        let P : List (Name × ℕ) → Type 0 = λ ps. AreLookedAt index name names old ps (i + 1) in
        let Q : Name → Type 0 = λ m. AreLookedAt index name names old (new ++ (m, index) ∷ []) (i + 1) in
        subst P (sym g) (subst Q (sym f) (record {
          has = has_next (new ++ (x, index) ∷ []) there (inr (IsAmong-append_right {X = Name × ℕ} (x, index) new ((x, index) ∷ []) (inl refl)));
          kept = λ p a. there p (h.kept p a);
          added = λ p a. by p (IsAmong-append_cases p new ((x, index) ∷ []) a);
        }))
      where
        there : (p : Name × ℕ) → IsAmong p new → IsAmong p (new ++ (x, index) ∷ [])
        there p a = IsAmong-append_left p new ((x, index) ∷ []) a

        by : (p : Name × ℕ) → IsAmong p new ⊎ IsAmong {X = Name × ℕ} p ((x, index) ∷ []) → IsAmong p old ⊎ (p.1 ≡ index)
        by p (inl a) = h.added p a
        by p (inr (inl f)) = inr (sym (ap (λ (q : Name × ℕ). q.1) f))
        by p (inr (inr a)) = absurd a

  pub names_added : (names : List Name) (old new : List (Name × ℕ)) (i : ℕ) → length names ≤ i → AreLookedAt index name names old new i → AddsNames index name names old new
  names_added names old new i l h = record {
    has = subst (λ (ns : List Name). HasSecondaryNames new index name ns) (take_all i names l) h.has;
    kept = h.kept;
    added = h.added;
  }

-- ---- those of all units

more_listed : (second more : List (Name × ℕ)) (i : ℕ) (n : Name) (ns : List Name) → ((p : Name × ℕ) → IsAmong p second → IsAmong p more) → HasSecondaryNames second i n ns → HasSecondaryNames more i n ns
more_listed second more i n ns there h = record { own = h.own; well_formed = h.well_formed; listed = λ m a. by m (h.listed m a) }
  where
    by : (m : Name) → (m ≡ n) ⊎ IsAmong {X = Name × ℕ} (m, i) second → (m ≡ n) ⊎ IsAmong {X = Name × ℕ} (m, i) more
    by m (inl e) = inl e
    by m (inr a) = inr (there (m, i) a)

module _ (names : List (Name × NameLoad)) where
  -- those of the first i names
  pub record AreOfFirst (i : ℕ) (second : List (Name × ℕ)) : Type 0 where
    pub within : All (λ p. p.1 < length names) second
    pub each : (k : ℕ) (p : Name × NameLoad) → k < i → HasThese second k (get_or names k p)

  pub of_none : AreOfFirst 0 []
  of_none = record { within = All-nil (λ (p : Name × ℕ). p.1 < length names); each = λ k p l. absurd (omega (arith, l)) }

  pub of_all : (i : ℕ) (second : List (Name × ℕ)) → length names ≤ i → AreOfFirst i second → AreSecondaryNames names second
  of_all i second l h = record { within = h.within; each = λ k p m. h.each k p (omega (arith, l, m)) }

  module _ (i : ℕ) (old : List (Name × ℕ)) (h : AreOfFirst i old) (x : Name × NameLoad) (l : i < length names) (e : x ≡ get_or names i x) where
    here : (second : List (Name × ℕ)) → HasThese second i x → (k : ℕ) (p : Name × NameLoad) → i ≡ k → HasThese second k (get_or names k p)
    here second has k p f =
        let same : x ≡ get_or names k p = e ∙ any_at names i x p l ∙ ap (λ (n : ℕ). get_or names n p) f in
        subst (λ (q : Name × NameLoad). HasThese second k q) same (subst (λ (n : ℕ). HasThese second n x) f has)

    -- one more, which has a unit
    pub unit_next : (new : List (Name × ℕ)) (unit : LoadedUnit) (n : Name) (ns : List Name) → x.1 ≡ OfUnit unit → n ≡ x.0 → ns ≡ unit.names → AddsNames i n ns old new → AreOfFirst (i + 1) new
    unit_next new unit n ns f g d a = record {
      within = all_from (λ (p : Name × ℕ). p.1 < length names) new (λ p b. below p (a.added p b));
      each = λ k p m u v. by k p (cases_lt k i) m u v;
    }
      where
        below : (p : Name × ℕ) → IsAmong p old ⊎ (p.1 ≡ i) → p.1 < length names
        below p (inl b) = all_among (λ (q : Name × ℕ). q.1 < length names) old p h.within b
        below p (inr b) = subst (λ (k : ℕ). k < length names) (sym b) l

        own : HasThese new i x
        own u v =
            let same : unit ≡ u = same_unit (sym f ∙ v) in
            subst (λ (w : LoadedUnit). HasSecondaryNames new i x.0 w.names) same
            (subst (λ (m : Name). HasSecondaryNames new i m unit.names) g (subst (λ (ms : List Name). HasSecondaryNames new i n ms) d a.has))
          where
            same_unit : {w v : LoadedUnit} → OfUnit w ≡ OfUnit v → w ≡ v
            same_unit k = cc (k)

        by : (k : ℕ) (p : Name × NameLoad) → (k < i) ⊎ (i ≤ k) → k < i + 1 → HasThese new k (get_or names k p)
        by k p (inl b) m u v = more_listed old new k (get_or names k p).0 u.names a.kept (h.each k p b u v)
        by k p (inr b) m u v = here new own k p (omega (arith, b, m)) u v

    -- or which is an alias
    pub alias_next : (of : Name) → x.1 ≡ OfAlias of → AreOfFirst (i + 1) old
    alias_next of f = record { within = h.within; each = λ k p m u v. by k p (cases_lt k i) m u v }
      where
        none : HasThese old i x
        none u v = let g = sym f ∙ v in cc (g)

        by : (k : ℕ) (p : Name × NameLoad) → (k < i) ⊎ (i ≤ k) → k < i + 1 → HasThese old k (get_or names k p)
        by k p (inl b) m u v = h.each k p b u v
        by k p (inr b) m u v = here old none k p (omega (arith, b, m)) u v

  -- in any order
  pub in_order : (second sorted : List (Name × ℕ)) → IsPermutation second sorted → AreSecondaryNames names second → AreSecondaryNames names sorted
  in_order second sorted moved h = record {
    within = all_from (λ (p : Name × ℕ). p.1 < length names) sorted
        (λ p a. all_among (λ (q : Name × ℕ). q.1 < length names) second p h.within (to sorted second p (IsPermutation-sym second sorted moved) a));
    each = λ i p l u v. more_listed second sorted i (get_or names i p).0 u.names (λ q a. to second sorted q moved a) (h.each i p l u v);
  }
    where
      to : (xs ys : List (Name × ℕ)) (p : Name × ℕ) → IsPermutation xs ys → IsAmong p xs → IsAmong p ys
      to xs ys p m a = among_from_contains p ys (Contains-permutation xs ys p m (contains_from_among p xs a))

-- ---- where units are read again

-- units that are read again have the names that they had
pub second_again : (t : HostViewMap) (ms : List (Name × ℕ)) (affected : List ℕ) (names : List (Name × NameLoad)) (named : List (List DependencyList)) (news : List (Name × NameLoad)) (second : List (Name × ℕ))
    → All (IsOwnUnit t) names → length news ≡ length names → AreReadOrLeft t ms affected names named news → AreSecondaryNames names second → AreSecondaryNames news second
second_again t ms affected names named news second owns count again h = record {
  within = let P : ℕ → Type 0 = λ n. All (λ (p : Name × ℕ). p.1 < n) second in subst P (sym count) h.within;
  each = λ i p l. let m : i < length names = omega (arith, count, l) in by i p m (again i p m);
}
  where
    by : (i : ℕ) (p : Name × NameLoad) → i < length names → IsReadOrLeft t ms affected i (get_or names i p) (get_or named i []) (get_or news i p) → HasThese second i (get_or news i p)
    by i p l (same, inl left) u v =
        subst (λ (n : Name). HasSecondaryNames second i n u.names) (sym same) (h.each i p l u (sym left.0 ∙ v))
    by i p l (same, inr r) u v =
        let old : Name × NameLoad = get_or names i p in
        let own = all_among (IsOwnUnit t) names old owns (get_among names i p l) r.was r.load_is in
        let normalized : unit_normalized ms r.unit ≡ u = same_unit (sym r.is ∙ v) in
        let ns : r.was.names ≡ u.names = one_list_of_names t old.0 r.was.names r.unit.names own.1 r.is_unit.names_are ∙ ap (λ (w : LoadedUnit). w.names) normalized in
        subst (λ (n : Name). HasSecondaryNames second i n u.names) (sym same)
        (subst (λ (ns : List Name). HasSecondaryNames second i old.0 ns) ns (h.each i p l r.was r.load_is))
      where
        same_unit : {w v : LoadedUnit} → OfUnit w ≡ OfUnit v → w ≡ v
        same_unit k = cc (k)
