-- Names, in which some units replace others.
use Rattle.std.proofs.Common.{◌++◌, ◌<◌, ◌∷◌, ◌≡◌, ◌≢◌, ◌⊎◌}
use Rattle.parallel_load.proofs.Prelude.{[], All, All-head, All-tail, ap, AreAffected, AreLoadsAgain, AreReadOrLeft, AreSecondaryNames, AreUnitsOf, arith, Bool, cases_eq, DependencyList, EntryMap, false, get_or, HasParts, host_view_of, HostViewMap, inl, inr, into_iter_items, into_iter_steps, IntoIter, IsAmong, IsAmong-append_cases, IsBefore, IsKept, IsLoadAgain, IsReadAgain, IsReadOrLeft, KeepsLinkTargets, keys_of, length, List, LoadMap, Name, NameLoad, not, patched_load, Patches, PlaceParts, put_load, refl, set, Some, subst, suc, sym, true, with_loads, Yields, zero, ℕ, ◌∙◌}
use Rattle.parallel_load.proofs.{Again.{few_is, kept_again, load_again, one_each, owns}, Keeping.{any_at}, SecondaryNames.{second_again}, Staying.{missed_unless}}

-- ---- what is put

pub put_is : (names : List (Name × NameLoad)) (n : ℕ) (x : Name × NameLoad) (load : NameLoad) → n < length names → x ≡ get_or names n x → set names n (x.0, load) ≡ put_load names n load
put_is [] n x load l e = absurd (omega arith)
put_is (p ∷ names) zero x load l e = ap (λ (y : Name × NameLoad). let q : Name × NameLoad = (y.0, load) in q ∷ names) e
put_is (p ∷ names) (suc n) x load l e = ap (λ (ps : List (Name × NameLoad)). p ∷ ps) (put_is names n x load (omega arith) e)

put_keys : (names : List (Name × NameLoad)) (n : ℕ) (load : NameLoad) → keys_of (put_load names n load) ≡ keys_of names
put_keys [] n load = refl
put_keys (p ∷ names) zero load = refl
put_keys (p ∷ names) (suc n) load = ap (λ (ks : List Name). p.0 ∷ ks) (put_keys names n load)

put_length : (names : List (Name × NameLoad)) (n : ℕ) (load : NameLoad) → length (put_load names n load) ≡ length names
put_length [] n load = refl
put_length (p ∷ names) zero load = refl
put_length (p ∷ names) (suc n) load = ap suc (put_length names n load)

pub with_keys : (names : List (Name × NameLoad)) (units : List (ℕ × NameLoad)) → keys_of (with_loads names units) ≡ keys_of names
with_keys names [] = refl
with_keys names (u ∷ units) = with_keys (put_load names u.0 u.1) units ∙ put_keys names u.0 u.1

pub with_length : (names : List (Name × NameLoad)) (units : List (ℕ × NameLoad)) → length (with_loads names units) ≡ length names
with_length names [] = refl
with_length names (u ∷ units) = with_length (put_load names u.0 u.1) units ∙ put_length names u.0 u.1

-- one more
pub with_more : (names : List (Name × NameLoad)) (units : List (ℕ × NameLoad)) (u : ℕ × NameLoad) → with_loads names (units ++ u ∷ []) ≡ put_load (with_loads names units) u.0 u.1
with_more names [] u = refl
with_more names (v ∷ units) u = with_more (put_load names v.0 v.1) units u

-- what is at an index that is replaced, and at others
put_there : (names : List (Name × NameLoad)) (n : ℕ) (load : NameLoad) (d : Name × NameLoad) → n < length names → get_or (put_load names n load) n d ≡ ((get_or names n d).0, load)
put_there [] n load d l = absurd (omega arith)
put_there (p ∷ names) zero load d l = refl
put_there (p ∷ names) (suc n) load d l = put_there names n load d (omega arith)

put_elsewhere : (names : List (Name × NameLoad)) (n i : ℕ) (load : NameLoad) (d : Name × NameLoad) → n ≢ i → get_or (put_load names n load) i d ≡ get_or names i d
put_elsewhere [] n i load d other = refl
put_elsewhere (p ∷ names) zero zero load d other = absurd (other refl)
put_elsewhere (p ∷ names) zero (suc i) load d other = refl
put_elsewhere (p ∷ names) (suc n) zero load d other = refl
put_elsewhere (p ∷ names) (suc n) (suc i) load d other = put_elsewhere names n i load d (λ e. other (ap suc e))

-- ---- units that are read again, one after the other

module _ (t : HostViewMap) (ms : List (Name × ℕ)) (names : List (Name × NameLoad)) (named : List (List DependencyList)) where
  pub none_read : (units : List (ℕ × NameLoad)) → units ≡ [] → AreReadOrLeft t ms [] names named (with_loads names units)
  none_read units e =
      let P : List (ℕ × NameLoad) → Type 0 = λ us. AreReadOrLeft t ms [] names named (with_loads names us) in
      subst P (sym e) (λ i p l. (refl, inl (refl, λ a. a)))

  pub read_next : (read : List ℕ) (units : List (ℕ × NameLoad)) (u : ℕ × NameLoad) (x : Name × NameLoad) (lists : List DependencyList) → AreReadOrLeft t ms read names named (with_loads names units)
      → u.0 < length names → length named ≡ length names → x ≡ get_or names u.0 x → lists ≡ get_or named u.0 lists → IsReadAgain t ms x lists u.1
      → AreReadOrLeft t ms (read ++ u.0 ∷ []) names named (with_loads names (units ++ u ∷ []))
  read_next read units u x lists h l each x_is lists_are again i p m =
      let P : List (Name × NameLoad) → Type 0 = λ ns. IsReadOrLeft t ms (read ++ u.0 ∷ []) i (get_or names i p) (get_or named i []) (get_or ns i p) in
      subst P (sym (with_more names units u)) (by (cases_eq u.0 i))
    where
      news : List (Name × NameLoad)
      news = with_loads names units

      R : Name × NameLoad → Type 0
      R q = IsReadOrLeft t ms (read ++ u.0 ∷ []) i (get_or names i p) (get_or named i []) q

      -- the one that is read now
      here : u.0 ≡ i → R (get_or (put_load news u.0 u.1) i p)
      here e =
          let old : x ≡ get_or names i p = x_is ∙ any_at names u.0 x p l ∙ ap (λ (k : ℕ). get_or names k p) e in
          let own : lists ≡ get_or named i [] = lists_are ∙ any_at named u.0 lists [] (omega (arith, l, each)) ∙ ap (λ (k : ℕ). get_or named k []) e in
          let put : get_or (put_load news u.0 u.1) i p ≡ ((get_or news i p).0, u.1) =
          ap (λ (k : ℕ). get_or (put_load news k u.1) i p) e ∙ put_there news i u.1 p (omega (arith, with_length names units, m)) in
          subst R (sym put) ((h i p m).0, inr (subst (λ (q : Name × NameLoad). IsReadAgain t ms q (get_or named i []) u.1) old (subst (λ (ls : List DependencyList). IsReadAgain t ms x ls u.1) own again)))

      left : u.0 ≢ i → IsReadOrLeft t ms read i (get_or names i p) (get_or named i []) (get_or news i p) → R (get_or news i p)
      left other (same, inl k) = (same, inl (k.0, λ a. apart (IsAmong-append_cases i read (u.0 ∷ []) a)))
        where
          apart : IsAmong i read ⊎ IsAmong i (u.0 ∷ []) → ⊥
          apart (inl a) = k.1 a
          apart (inr (inl e)) = other e
          apart (inr (inr a)) = a
      left other (same, inr r) = (same, inr r)

      by : (u.0 ≡ i) ⊎ (u.0 ≢ i) → R (get_or (put_load news u.0 u.1) i p)
      by (inl e) = here e
      by (inr other) = subst R (sym (put_elsewhere news u.0 i u.1 p other)) (left other (h i p m))

-- so if all affected units were read, each name stays or its unit was read again
pub loads_again : (t : HostViewMap) (folders : List (List ℕ)) (ms : List (Name × ℕ)) (affected : List ℕ) (names : List (Name × NameLoad)) (named : List (List DependencyList)) (news : List (Name × NameLoad))
    → length named ≡ length names → length news ≡ length names → AreAffected folders names affected → AreReadOrLeft t ms affected names named news → AreLoadsAgain t folders ms names named news
loads_again t folders ms affected names named news each count all read = by names named news each count (λ i p l. one i p l (read i p l))
  where
    one : (i : ℕ) (p : Name × NameLoad) → i < length names → IsReadOrLeft t ms affected i (get_or names i p) (get_or named i []) (get_or news i p)
        → ((get_or news i p).0 ≡ (get_or names i p).0) × IsLoadAgain t folders ms (get_or names i p) (get_or named i []) (get_or news i p).1
    one i p l (same, inl k) = (same, inl (k.0, missed_unless folders names affected i p (get_or names i p).1 all l k.1 refl))
    one i p l (same, inr r) = (same, inr r)

    by : (olds : List (Name × NameLoad)) (lists : List (List DependencyList)) (ws : List (Name × NameLoad)) → length lists ≡ length olds → length ws ≡ length olds
        → ((i : ℕ) (p : Name × NameLoad) → i < length olds → ((get_or ws i p).0 ≡ (get_or olds i p).0) × IsLoadAgain t folders ms (get_or olds i p) (get_or lists i []) (get_or ws i p).1)
        → AreLoadsAgain t folders ms olds lists ws
    by [] lists [] e f h = tt
    by [] lists (w ∷ ws) e f h = absurd (omega arith)
    by (o ∷ olds) lists [] e f h = absurd (omega arith)
    by (o ∷ olds) [] (w ∷ ws) e f h = absurd (omega arith)
    by (o ∷ olds) (ls ∷ lists) (w ∷ ws) e f h = let k = h 0 o (omega arith) in (k.0, k.1, by olds lists ws (omega arith) (omega arith) (λ i p l. h (suc i) p (omega arith)))

-- ---- the load with them

pub units_of : (load : LoadMap) (now : EntryMap) (touched : List PlaceParts) → IsBefore load now touched → All (KeepsLinkTargets load.viewer load.words (host_view_of now load.viewer)) touched
    → (folders : List (List ℕ)) → All (HasParts load.viewer folders) touched → (p : Patches) → p.kept.named.items ≡ load.named → p.kept.words ≡ load.words
    → IsKept load.names load.named p.kept.deps.items p.kept.mains → All (λ u. u.0 < length load.names) p.units.items
    → (affected : List ℕ) → AreAffected folders load.names affected → AreReadOrLeft (host_view_of now load.viewer) p.kept.mains affected load.names load.named (with_loads load.names p.units.items) → AreSecondaryNames load.names p.kept.second
    → AreUnitsOf (host_view_of now load.viewer) load p
units_of load now touched b keep folders has p named words kept within affected all read second =
    let news : List (Name × NameLoad) = with_loads load.names p.units.items in
    let again : AreLoadsAgain (host_view_of now load.viewer) folders p.kept.mains load.names load.named news =
    loads_again (host_view_of now load.viewer) folders p.kept.mains affected load.names load.named news (one_each load.names load.named p.kept.deps.items p.kept.mains kept) (with_length load.names p.units.items) all read in
    let stays : IsKept news load.named p.kept.deps.items p.kept.mains = kept_again load now touched b keep folders has p.kept.deps.items p.kept.mains kept news again in
    record {
      fit = record {
        named_are = named;
        words_are = words;
        within = within;
        kept = stays;
        second =
            second_again (host_view_of now load.viewer) p.kept.mains affected load.names load.named news p.kept.second
            (owns load now touched b keep folders has p.kept.deps.items p.kept.mains kept) (with_length load.names p.units.items) read second;
      };
      is_load = load_again load now touched b keep folders has p.kept.deps.items p.kept.mains kept news again (patched_load load p.units.items) refl refl refl refl refl;
      not_over = few_is load now touched b keep folders has p.kept.deps.items p.kept.mains kept news again;
      same = record {
        names_are = sym (with_keys load.names p.units.items);
        sorted = kept.sorted;
        sorted_too = stays.sorted;
        table = p.kept.deps.items;
        rows = kept.rows;
        rows_too = stays.rows;
      };
    }

-- ---- what an iterator yields

-- what a vector's iterator has yielded is a prefix of its items
taken_search_prefix : {X A : Type 0} (s : IntoIter X A) (xs : List X) (t : IntoIter X A) → Yields into_iter_steps s xs t → into_iter_items s ≡ xs ++ into_iter_items t
taken_search_prefix s [] t y = ap into_iter_items y
taken_search_prefix s (x ∷ xs) t y = y.1.0 ∙ ap (λ ys. x ∷ ys) (taken_search_prefix y.0 xs t y.2)

holds_after : {X : Type 0} (P : X → Type 0) (xs ys : List X) → All P (xs ++ ys) → All P ys
holds_after P [] ys h = h
holds_after P (x ∷ xs) ys h = holds_after P xs ys (All-tail P x (xs ++ ys) h)

-- what holds of all items holds of the next one
pub next_holds : {X A : Type 0} (P : X → Type 0) (all : List X) (s t u : IntoIter X A) (xs : List X) (x : X) → into_iter_items s ≡ all → Yields into_iter_steps s xs t
    → into_iter_steps t (Some x) u → All P all → P x
next_holds P all s t u xs x start y step h =
    let items : all ≡ xs ++ x ∷ into_iter_items u = sym start ∙ taken_search_prefix s xs t y ∙ ap (λ l. xs ++ l) step.0 in
    All-head P x (into_iter_items u) (holds_after P xs (x ∷ into_iter_items u) (subst (All P) items h))

pub not_false : (b : Bool) → not b ≡ false → b ≡ true
not_false true h = refl
not_false false h = cc (h)

pub load_is : (load made : LoadMap) → made.viewer ≡ load.viewer → made.extra ≡ load.extra → made.names ≡ load.names → made.named ≡ load.named → made.words ≡ load.words → made ≡ load
load_is load made viewer extra names named words = λ i. record { viewer = viewer i; extra = extra i; names = names i; named = named i; words = words i }
