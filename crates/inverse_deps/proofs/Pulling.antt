-- What targets come after, by indices and by names.
use Rattle.std.proofs.Common.{◌++◌, ◌<◌, ◌↔◌, ◌∷◌, ◌≡◌, ◌≤◌, ◌⊎◌}
use Rattle.inverse_deps.proofs.Prelude.{[], adjacency_of_successors, After, ap, AreAdjacencyOf, AreFoundIn, AreMade, AreRowsBy, arith, Before, Bool, below_from_sorted, cases_lt, ComesBefore, count_of, Dependency, dependency, DepKind, defaults_in, entry_at, Err, false, Follows, get_or, get_or_past, HasAdded, HasDefaults, HasKind, HasPulled, index_of, inl, inr, IsAfterOne, IsAmong, IsAmong-append_left, IsAmong-append_right, IsAmong-push, IsAmong-push_cases, IsBeforeList, IsBinarySearchResult, IsByTarget, IsDependent, IsFollowing, IsGiven, IsGivenBefore, IsKindList, IsLeading, IsMayList, IsPulled, IsStrictlySortedBy, IsTrue, is_ok, key_at_place, kind, length, List, load_indexing, LoadMap, LoadedUnit, Manager, MayBeAfter, MayFollow, Name, name_at, name_cmp, NameLoad, nat_cmp, nat_list_cmp_total, neighbors, none-some, OfAlias, OfUnit, Ok, orders_targets, refl, Result, same_at, searched, Some, subst, suc, sym, target_of, target_parts, true, unit_among, unit_at, unit_index, unit_part, zero, ℕ, ◌∙◌}
use Rattle.inverse_deps.proofs.{Adding.{rows_added}, Linking.{has_link, link, rows_within}}

-- ---- a search among indices

-- the element at a place is in the list
get_among : {X : Type 0} (xs : List X) (i : ℕ) (d : X) → i < length xs → IsAmong (get_or xs i d) xs
get_among [] i d l = absurd (omega arith)
get_among (x ∷ xs) zero d l = inl refl
get_among (x ∷ xs) (suc i) d l = inr (get_among xs i d (omega arith))

-- each element of the list is at some place
place_among : {X : Type 0} (x d : X) (xs : List X) → IsAmong x xs → (i : ℕ) × ((i < length xs) × (get_or xs i d ≡ x))
place_among x d [] a = absurd a
place_among x d (y ∷ xs) (inl e) = (0, (omega arith, e))
place_among x d (y ∷ xs) (inr a) = let r = place_among x d xs a in let l = r.1.0 in (suc r.0, (omega arith, r.1.1))

-- ascending numbers don't descend
indices_ascend : (xs : List ℕ) → IsStrictlySortedBy nat_cmp xs → (i j : ℕ) → i ≤ j → j < length xs → get_or xs i 0 ≤ get_or xs j 0
indices_ascend xs h i j l m = by (cases_lt i j)
  where
    by : (i < j) ⊎ (j ≤ i) → get_or xs i 0 ≤ get_or xs j 0
    by (inl k) = let b = below_from_sorted xs i j 0 h k m in omega (arith, b)
    by (inr k) =
        let e : j ≡ i = omega (arith, k, l) in
        subst (λ (n : ℕ). get_or xs n 0 ≤ get_or xs j 0) e (omega arith)

-- a number with lesser ones before a place and greater ones from there on is not among them
none_where : (xs : List ℕ) (x at : ℕ) → ((k : ℕ) → k < at → get_or xs k 0 < x) → ((k : ℕ) → at ≤ k → k < length xs → x < get_or xs k 0) → ¬ IsAmong x xs
none_where xs x at below above a = by (place_among x 0 xs a)
  where
    by : (i : ℕ) × ((i < length xs) × (get_or xs i 0 ≡ x)) → ⊥
    by (i, (l, e)) = which (cases_lt i at)
      where
        which : (i < at) ⊎ (at ≤ i) → ⊥
        which (inl k) = let b = below i k in omega (arith, b, e)
        which (inr k) = let b = above i k l in omega (arith, b, e)

-- a search finds exactly what is there
pub found_there : (xs : List ℕ) (x : ℕ) (r : Result ℕ ℕ) → IsStrictlySortedBy nat_cmp xs → IsBinarySearchResult (λ y. nat_cmp y x) xs r → IsTrue (is_ok r) ↔ IsAmong x xs
found_there xs x (Ok i) s h =
    let at = searched xs x (Ok i) h (indices_ascend xs s) in
    (λ _. subst (λ (y : ℕ). IsAmong y xs) at.1 (get_among xs i 0 at.0), λ _. refl)
found_there xs x (Err i) s h =
    let at = searched xs x (Err i) h (indices_ascend xs s) in
    (λ w. absurd (let wrong = w in cc (wrong)), λ a. absurd (none_where xs x i at.1 at.2 a))

-- what a test that failed denies
pub denied : (b : Bool) (A : Type 0) → IsTrue b ↔ A → b ≡ false → ¬ A
denied b A same e a = let wrong : true ≡ false = sym (same.1 a) ∙ e in absurd (cc (wrong))

-- ---- before which a unit comes

-- the links of the kind are those before which it comes
pub before_linked : (rows links : List (List Dependency)) → AreFoundIn rows (length rows) links → (before : List (List ℕ)) (count : ℕ) → count ≡ length links → AreMade (IsKindList links Before) count before
    → AreMade (IsBeforeList rows) (length rows) before
before_linked rows links found before count e made = record {
  count = made.count ∙ e ∙ found.units;
  each = λ i d l. (let m = made.each i d (let u = found.units in omega (arith, l, e, u)) in
      record {
        ascending = m.ascending;
        exact = λ j. (
          λ a. has_link rows i (get_or rows i []) (get_or links i []) (found.each i) Before j ((m.exact j).0 a),
          λ b. (m.exact j).1 (link rows i (get_or rows i []) (get_or links i []) (found.each i) Before j b),
        );
      });
}

-- ---- what is pulled, as far as dependencies were read

module _ (names : List (Name × NameLoad)) (before : List ℕ) where
  pub none_pulled : (j : ℕ) → ¬ HasPulled names before [] j
  none_pulled j h = absurd h.there

  module _ (deps more : List Dependency) (x : Dependency) (longer : more ≡ deps ++ x ∷ []) where
    still : (j : ℕ) → HasPulled names before deps j → HasPulled names before more j
    still j h = record { one = h.one; there = subst (λ (ds : List Dependency). IsAmong h.one ds) (sym longer) (IsAmong-append_left h.one deps (x ∷ []) h.there); index_is = h.index_is; pulled = h.pulled }

    here : (j : ℕ) → x.index ≡ j → IsPulled names before x → HasPulled names before more j
    here j e p = record { one = x; there = subst (λ (ds : List Dependency). IsAmong x ds) (sym longer) (IsAmong-push x deps); index_is = e; pulled = p }

    either : (j : ℕ) → HasPulled names before more j → HasPulled names before deps j ⊎ ((x.index ≡ j) × IsPulled names before x)
    either j h = elim (IsAmong-push_cases x h.one deps (subst (λ (ds : List Dependency). IsAmong h.one ds) longer h.there)) [
      | inl a ↦ inl (record { one = h.one; there = a; index_is = h.index_is; pulled = h.pulled })
      | inr e ↦ inr (ap (λ (d : Dependency). d.index) e ∙ h.index_is, subst (λ (d : Dependency). IsPulled names before d) (sym e) h.pulled)
    ]

    module _ (old is js : List ℕ) (h : (j : ℕ) → IsAmong j is ↔ (IsAmong j old ⊎ HasPulled names before deps j)) where
      pub pulled_read : IsPulled names before x → js ≡ is ++ x.index ∷ [] → (j : ℕ) → IsAmong j js ↔ (IsAmong j old ⊎ HasPulled names before more j)
      pulled_read p e j = (there, back)
        where
          there : IsAmong j js → IsAmong j old ⊎ HasPulled names before more j
          there a = elim (IsAmong-push_cases x.index j is (subst (λ (l : List ℕ). IsAmong j l) e a)) [
            | inl b ↦ elim ((h j).0 b) [ inl o ↦ inl o | inr q ↦ inr (still j q) ]
            | inr f ↦ inr (here j f p)
          ]

          kept : IsAmong j is → IsAmong j js
          kept a = subst (λ (l : List ℕ). IsAmong j l) (sym e) (IsAmong-append_left j is (x.index ∷ []) a)

          back : IsAmong j old ⊎ HasPulled names before more j → IsAmong j js
          back (inl o) = kept ((h j).1 (inl o))
          back (inr q) = elim (either j q) [
            | inl d ↦ kept ((h j).1 (inr d))
            | inr n ↦ subst (λ (l : List ℕ). IsAmong j l) (sym e) (IsAmong-append_right j is (x.index ∷ []) (inl n.0))
          ]

      pub pulled_passed : ¬ IsPulled names before x → js ≡ is → (j : ℕ) → IsAmong j js ↔ (IsAmong j old ⊎ HasPulled names before more j)
      pulled_passed none e j = (there, back)
        where
          there : IsAmong j js → IsAmong j old ⊎ HasPulled names before more j
          there a = elim ((h j).0 (subst (λ (l : List ℕ). IsAmong j l) e a)) [ inl o ↦ inl o | inr q ↦ inr (still j q) ]

          back : IsAmong j old ⊎ HasPulled names before more j → IsAmong j js
          back (inl o) = subst (λ (l : List ℕ). IsAmong j l) (sym e) ((h j).1 (inl o))
          back (inr q) = elim (either j q) [
            | inl d ↦ subst (λ (l : List ℕ). IsAmong j l) (sym e) ((h j).1 (inr d))
            | inr n ↦ absurd (none n.1)
          ]

-- what a target with default dependencies may come after is what was pulled
pub leading_may : (names : List (Name × NameLoad)) (i : ℕ) → i < length names → (p d : Name × NameLoad) → p ≡ get_or names i d → IsLeading p → (before : List ℕ) (deps : List Dependency) (old is : List ℕ) → old ≡ []
    → ((j : ℕ) → IsAmong j is ↔ (IsAmong j old ⊎ HasPulled names before deps j)) → (j : ℕ) → IsAmong j is ↔ MayBeAfter names (entry_at names i) before deps j
leading_may names i below p d p_is leading before deps old is e h j = (to, λ m. (h j).1 (inr m.pulled))
  where
    entry : p ≡ entry_at names i
    entry = let none : Name × NameLoad = ([], OfAlias []) in p_is ∙ same_at names i d none below

    to : IsAmong j is → MayBeAfter names (entry_at names i) before deps j
    to a = elim ((h j).0 a) [
      | inl o ↦ absurd (subst (λ (l : List ℕ). IsAmong j l) e o)
      | inr q ↦ record { leading = subst IsLeading entry leading; pulled = q }
    ]

-- the list of an index, as code reads it
pub may_list : (names : List (Name × NameLoad)) (before : List (List ℕ)) (given : List (List Dependency)) (i : ℕ) → i < length given → (deps row : List Dependency) → deps ≡ row → row ≡ get_or given i row
    → (those : List ℕ) → those ≡ neighbors before i → (read put nodes : List ℕ) → ((j : ℕ) → IsAmong j read ↔ MayBeAfter names (entry_at names i) those deps j) → IsStrictlySortedBy nat_cmp put
    → ((j : ℕ) → IsAmong j put ↔ IsAmong j read) → nodes ≡ put → IsMayList names before given i nodes
may_list names before given i below deps row same here those those_are read put nodes by ascending members nodes_are =
    let base : deps ≡ get_or given i [] = same ∙ here ∙ same_at given i row [] below in
    subst (λ (is : List ℕ). IsMayList names before given i is) (sym nodes_are) (record {
      ascending = ascending;
      exact = subst (λ (bs : List ℕ). (j : ℕ) → IsAmong j put ↔ MayBeAfter names (entry_at names i) bs (get_or given i []) j) those_are
          (subst (λ (ds : List Dependency). (j : ℕ) → IsAmong j put ↔ MayBeAfter names (entry_at names i) those ds j) base
          (λ j. (λ a. (by j).0 ((members j).0 a), λ m. (members j).1 ((by j).1 m))));
    })

-- ---- what follows, as far as others were read

pub none_after : (may : List (List ℕ)) (index : ℕ) (others : List ℕ) → others ≡ [] → (one : Dependency) → ¬ IsAfterOne may index others one
none_after may index others e one f = absurd (subst (λ (is : List ℕ). IsAmong one.index is) e f.there)

module _ (may : List (List ℕ)) (index : ℕ) (others more : List ℕ) (x : ℕ) (longer : more ≡ others ++ x ∷ []) (one : Dependency) where
  still_after : IsAfterOne may index others one → IsAfterOne may index more one
  still_after f = record { kind_is = f.kind_is; there = subst (λ (is : List ℕ). IsAmong one.index is) (sym longer) (IsAmong-append_left one.index others (x ∷ []) f.there); one_way = f.one_way }

  either_after : IsAfterOne may index more one → IsAfterOne may index others one ⊎ ((x ≡ one.index) × IsAfterOne may index more one)
  either_after f = elim (IsAmong-push_cases x one.index others (subst (λ (is : List ℕ). IsAmong one.index is) longer f.there)) [
    | inl a ↦ inl (record { kind_is = f.kind_is; there = a; one_way = f.one_way })
    | inr e ↦ inr (e, f)
  ]

  -- the last of them is added
  pub one_more_after : ¬ IsAmong index (neighbors may x) → IsAfterOne may index more one ↔ (IsAfterOne may index others one ⊎ (dependency After x ≡ one))
  one_more_after free = (to, from)
    where
      to : IsAfterOne may index more one → IsAfterOne may index others one ⊎ (dependency After x ≡ one)
      to f = elim (either_after f) [
        | inl o ↦ inl o
        | inr n ↦ inr (ap (λ (k : DepKind). dependency k x) (sym f.kind_is) ∙ ap (dependency one.kind) n.0)
      ]

      from : IsAfterOne may index others one ⊎ (dependency After x ≡ one) → IsAfterOne may index more one
      from (inl o) = still_after o
      from (inr e) =
          let on : x ≡ one.index = ap (λ (d : Dependency). d.index) e in
          record {
            kind_is = ap (λ (d : Dependency). d.kind) (sym e);
            there = subst (λ (is : List ℕ). IsAmong one.index is) (sym longer) (IsAmong-append_right one.index others (x ∷ []) (inl on));
            one_way = λ a. free (subst (λ (n : ℕ). IsAmong index (neighbors may n)) (sym on) a);
          }

  -- or it is passed
  pub same_after : IsAmong index (neighbors may x) → IsAfterOne may index more one ↔ (IsAfterOne may index others one ⊎ ⊥)
  same_after bound = (to, from)
    where
      to : IsAfterOne may index more one → IsAfterOne may index others one ⊎ ⊥
      to f = elim (either_after f) [
        | inl o ↦ inl o
        | inr n ↦ absurd (f.one_way (subst (λ (k : ℕ). IsAmong index (neighbors may k)) n.0 bound))
      ]

      from : IsAfterOne may index others one ⊎ ⊥ → IsAfterOne may index more one
      from (inl o) = still_after o
      from (inr n) = absurd n

-- ---- by name

defaults_to : (names : List (Name × NameLoad)) (u : Name) (load_is : NameLoad) → unit_among names u ≡ unit_part load_is → IsTrue (defaults_in load_is) → HasDefaults names u
defaults_to names u (OfUnit unit) e h = record { unit = unit; unit_is = e; has_defaults = h }
defaults_to names u (OfAlias of) e h = absurd (let wrong = h in cc (wrong))

defaults_from : (names : List (Name × NameLoad)) (u : Name) (load_is : NameLoad) → unit_among names u ≡ unit_part load_is → HasDefaults names u → IsTrue (defaults_in load_is)
defaults_from names u (OfUnit unit) e d =
    let f : Some d.unit ≡ Some unit = sym d.unit_is ∙ e in
    let same : d.unit ≡ unit = cc (f) in
    subst (λ (it : LoadedUnit). IsTrue it.has_defaults) same d.has_defaults
defaults_from names u (OfAlias of) e d = absurd (none-some _ (sym e ∙ d.unit_is))

none_ascend : IsStrictlySortedBy nat_cmp []
unfolding IsStrictlySortedBy
none_ascend = tt

module _ (load : LoadMap) (given : List (List Dependency)) (are : AreRowsBy load (IsGiven Manager load.names) given) (before may : List (List ℕ)) (made_before : AreMade (IsBeforeList given) (length given) before)
    (made_may : AreMade (IsMayList load.names before given) (length given) may) where
  row_there : (i : ℕ) → i < count_of load → i < length given
  row_there i l = let e = are.one_each in omega (arith, l, e)

  named_there : (i : ℕ) → i < count_of load → unit_among load.names (name_at load i) ≡ unit_part (entry_at load.names i).1
  named_there i l = unit_at load are.sorted i ([], OfAlias []) l

  given_kind : (dep : DepKind) (i j : ℕ) → i < count_of load → j < count_of load → IsGiven Manager load.names dep (name_at load i) (name_at load j) → HasKind (get_or given i []) dep j
  given_kind dep i j l m g =
      index_of (count_of load) (name_at load) name_cmp nat_list_cmp_total (load_indexing load are.sorted) (HasKind (get_or given i []) dep) (IsGiven Manager load.names dep (name_at load i)) (are.named dep i l) j m g

  before_to : (i j : ℕ) → i < count_of load → j < count_of load → ComesBefore given i j → IsGivenBefore Manager load.names (name_at load i) (name_at load j)
  before_to i j l m (inl k) = inl ((are.named Before i l).named j k)
  before_to i j l m (inr k) = inr ((are.named After j m).named i k)

  before_from : (i j : ℕ) → i < count_of load → j < count_of load → IsGivenBefore Manager load.names (name_at load i) (name_at load j) → ComesBefore given i j
  before_from i j l m (inl g) = inl (given_kind Before i j l m g)
  before_from i j l m (inr g) = inr (given_kind After j i m l g)

  may_at : (i : ℕ) → i < count_of load → IsMayList load.names before given i (neighbors may i)
  may_at i l = made_may.each i [] (row_there i l)

  before_at : (i : ℕ) → i < count_of load → IsBeforeList given i (neighbors before i)
  before_at i l = made_before.each i [] (row_there i l)

  pub may_within : (i j : ℕ) → i < count_of load → IsAmong j (neighbors may i) → j < count_of load
  may_within i j l a =
      let p = (((may_at i l).exact j).0 a).pulled in
      subst (λ (n : ℕ). n < count_of load) p.index_is ((rows_within load (IsGiven Manager load.names) given are).each i p.one p.there)

  may_to : (i j : ℕ) → i < count_of load → IsAmong j (neighbors may i) → MayFollow Manager load.names (name_at load i) (name_at load j)
  may_to i j l a =
      let b = ((may_at i l).exact j).0 a in
      let p = b.pulled in
      let m = may_within i j l a in
      let entry : Name × NameLoad = ([], OfAlias []) in
      record {
        by_manager = refl;
        is_target = ap kind (sym (key_at_place load.names i entry [] l)) ∙ b.leading.is_target;
        dep = p.one.kind;
        orders = p.pulled.orders;
        pulls = (are.named p.one.kind i l).named j (record { one = p.one; there = p.there; kind_is = refl; index_is = p.index_is });
        target = defaults_to load.names (name_at load i) (entry_at load.names i).1 (named_there i l) b.leading.defaults;
        pulled = defaults_to load.names (name_at load j) (entry_at load.names j).1 (named_there j m) (subst (λ (n : ℕ). IsTrue (defaults_in (entry_at load.names n).1)) p.index_is p.pulled.defaults);
        free = λ g. p.pulled.free (subst (λ (n : ℕ). IsAmong n (neighbors before i)) (sym p.index_is) (((before_at i l).exact j).1 (before_from i j l m g)));
      }

  may_from : (i j : ℕ) → i < count_of load → j < count_of load → MayFollow Manager load.names (name_at load i) (name_at load j) → IsAmong j (neighbors may i)
  may_from i j l m f =
      let k = given_kind f.dep i j l m f.pulls in
      let entry : Name × NameLoad = ([], OfAlias []) in
      ((may_at i l).exact j).1 (record {
        leading = record {
          is_target = ap kind (key_at_place load.names i entry [] l) ∙ f.is_target;
          defaults = defaults_from load.names (name_at load i) (entry_at load.names i).1 (named_there i l) f.target;
        };
        pulled = record {
          one = k.one;
          there = k.there;
          index_is = k.index_is;
          pulled = record {
            orders = subst (λ (d : DepKind). IsTrue (orders_targets d)) (sym k.kind_is) f.orders;
            defaults =
                subst (λ (n : ℕ). IsTrue (defaults_in (entry_at load.names n).1)) (sym k.index_is)
                (defaults_from load.names (name_at load j) (entry_at load.names j).1 (named_there j m) f.pulled);
            free = λ a. f.free (before_to i j l m (((before_at i l).exact j).0 (subst (λ (n : ℕ). IsAmong n (neighbors before i)) k.index_is a)));
          };
        };
      })

  following_there : (i : ℕ) → i < count_of load → (one : Dependency) → IsFollowing may i one → (one.index < count_of load) × IsByTarget Manager load.names one.kind (name_at load i) (name_at load one.index)
  following_there i l one f =
      let m = may_within i one.index l f.there in (
        m,
        target_of Manager load.names (name_at load i) (name_at load one.index) one.kind
            (f.kind_is, record { may = may_to i one.index l f.there; one_way = λ back. f.one_way (may_from one.index i m l back) }),
      )

  following_back : (i : ℕ) → i < count_of load → (dep : DepKind) (v : Name) → IsByTarget Manager load.names dep (name_at load i) v → (j : ℕ) × (IsFollowing may i (dependency dep j) × (name_at load j ≡ v))
  following_back i l dep v h =
      let parts = target_parts Manager load.names (name_at load i) v dep h in
      let r = unit_index load v (parts.1.may.pulled.unit, parts.1.may.pulled.unit_is) in
      let f : Follows Manager load.names (name_at load i) (name_at load r.0) = subst (λ (w : Name). Follows Manager load.names (name_at load i) w) (sym r.1.1) parts.1 in
      (r.0, (record { kind_is = parts.0; there = may_from i r.0 l r.1.0 f.may; one_way = λ a. f.one_way (may_to r.0 i r.1.0 a) }, r.1.1))

  -- rows to which it was added what targets come after
  pub following_named : (rows : List (List Dependency)) → AreMade (λ i row. HasAdded (get_or given i []) (IsFollowing may i) row) (length given) rows → AreRowsBy load (IsDependent Manager load.names) rows
  following_named rows made =
      rows_added load (IsGiven Manager load.names) (IsByTarget Manager load.names) given rows are (IsFollowing may)
      (subst (λ (n : ℕ). AreMade (λ i row. HasAdded (get_or given i []) (IsFollowing may i) row) n rows) are.one_each made) following_there following_back

  -- the lists lead from rows to rows
  pub may_adjacency : AreAdjacencyOf (length given) may
  may_adjacency =
      adjacency_of_successors (length given) may made_may.count
      (λ u l v a. (let e = are.one_each in let m = may_within u v (omega (arith, l, e)) a in omega (arith, m, e)))

  pub may_ascending : (u : ℕ) → IsStrictlySortedBy nat_cmp (neighbors may u)
  may_ascending u = elim (cases_lt u (length given)) [
    | inl l ↦ (made_may.each u [] l).ascending
    | inr past ↦ subst (λ (is : List ℕ). IsStrictlySortedBy nat_cmp is) (sym (get_or_past may u [] (let e = made_may.count in omega (arith, past, e)))) none_ascend
  ]
