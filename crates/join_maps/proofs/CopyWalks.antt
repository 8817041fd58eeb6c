-- A loop that joins copies of pairs.
use Rattle.std.proofs.Common.{◌++◌, ◌+◌, ◌-◌, ◌<◌, ◌∷◌, ◌≡◌, ◌≤◌}
use Rattle.join_maps.proofs.Prelude.{[], AllHeld, and_parts, ap, AreCopiesJoined, arith, below_all, below_at, cond, drop, eq_by_cmp, Equal, false, find, find_tied, get_or, is_eq, is_equal, is_less, is_sorted, IsBetween, IsErr, IsHeld, IsJoin, IsMap, IsSinglePair, IsTotalOrder, IsTrue, length, length-drop, Less, List, map_chain, map_itself, MapBelow, None, Option, OptionBelow, Ordering, refl, Result, Some, subst, suc, sym, take, take-append-drop, take_more, tied_itself, true, turned, zero, ℕ, ◌∙◌}
use Rattle.join_maps.proofs.Ends.{below_end}
use Rattle.join_law.specs.OutcomeLaws.{not_ok, on_err, on_err_weaker, on_ok_weaker}

pub take_all : {A : Type 0} (es : List A) → take (length es) es ≡ es
take_all [] = refl
take_all (e ∷ es) = ap (λ l. e ∷ l) (take_all es)

-- everything after an index
pub take_rest : {A : Type 0} (es : List A) (i : ℕ) → i ≤ length es → take (length es - i) (drop i es) ≡ drop i es
take_rest es i le = let long : length es - i ≡ length (drop i es) = omega (arith, length-drop i es) in ap (λ n. take n (drop i es)) long ∙ take_all (drop i es)

-- Joining copies.

pub held_at : {K V : Type 0} (below : V → V → Type 0) (valid : V → Type 0) (es : List (K × V)) (i : ℕ) (d : K × V) → i < length es → AllHeld below valid es → IsHeld below valid (get_or es i d).1
held_at below valid [] i d lt h = absurd (omega arith)
held_at below valid (e ∷ es) zero d lt h = h.0
held_at below valid (e ∷ es) (suc i) d lt h = held_at below valid es i d (omega arith) h.1

module _ {K V : Type 0} (R : K → K → Ordering) (o : IsTotalOrder R) where
  -- no pair before the i-th has its key
  find_earlier : (es : List (K × V)) (i : ℕ) (d : K × V) → IsTrue (is_sorted R es) → i < length es → find R (get_or es i d).0 (take i es) ≡ None
  find_earlier [] i d s lt = absurd (omega arith)
  find_earlier (e ∷ es) zero d s lt = refl
  find_earlier (e ∷ es) (suc i) d s lt =
      let k = (get_or es i d).0 in
      let less : R e.0 k ≡ Less = below_at R e.0 es i d (and_parts _ _ s).0 (omega arith) in
      ap (λ r. cond (is_eq r) (Some e.1) (find R k (take i es))) (turned R o e.0 k Less less) ∙ find_earlier es i d (and_parts _ _ s).1 (omega arith)

  -- `find` returns the i-th pair's value at its key
  find_there : (es : List (K × V)) (i : ℕ) (d : K × V) → IsTrue (is_sorted R es) → i < length es → find R (get_or es i d).0 es ≡ Some (get_or es i d).1
  find_there [] i d s lt = absurd (omega arith)
  find_there (e ∷ es) zero d s lt = ap (λ r. cond (is_eq r) (Some e.1) (find R e.0 es)) (tied_itself o e.0)
  find_there (e ∷ es) (suc i) d s lt =
      let k = (get_or es i d).0 in
      let less : R e.0 k ≡ Less = below_at R e.0 es i d (and_parts _ _ s).0 (omega arith) in
      ap (λ r. cond (is_eq r) (Some e.1) (find R k es)) (turned R o e.0 k Less less) ∙ find_there es i d (and_parts _ _ s).1 (omega arith)

  -- The later pairs.

  below_all_drop : (x : K) (es : List (K × V)) (i : ℕ) → IsTrue (below_all R x es) → IsTrue (below_all R x (drop i es))
  below_all_drop x [] zero h = h
  below_all_drop x [] (suc i) h = h
  below_all_drop x (e ∷ es) zero h = h
  below_all_drop x (e ∷ es) (suc i) h = below_all_drop x es i (and_parts _ _ h).1

  sorted_drop : (es : List (K × V)) (i : ℕ) → IsTrue (is_sorted R es) → IsTrue (is_sorted R (drop i es))
  sorted_drop [] zero h = h
  sorted_drop [] (suc i) h = h
  sorted_drop (e ∷ es) zero h = h
  sorted_drop (e ∷ es) (suc i) h = sorted_drop es i (and_parts _ _ h).1

  held_drop : (below : V → V → Type 0) (valid : V → Type 0) (es : List (K × V)) (i : ℕ) → AllHeld below valid es → AllHeld below valid (drop i es)
  held_drop below valid [] zero h = h
  held_drop below valid [] (suc i) h = h
  held_drop below valid (e ∷ es) zero h = h
  held_drop below valid (e ∷ es) (suc i) h = held_drop below valid es i h.1

  pub drop_is_map : (below : V → V → Type 0) (valid : V → Type 0) (es : List (K × V)) (i : ℕ) → IsMap R below valid es → IsMap R below valid (drop i es)
  drop_is_map below valid es i m = record { sorted = sorted_drop es i m.sorted; held = held_drop below valid es i m.held }

  module _ (below : V → V → Type 0) (itself : (x : V) → below x x) (chain : (x y z : V) → below x y → below y z → below x z) where
    pub prefix_at : (xs ys : List (K × V)) (q : K) → OptionBelow below (find R q xs) (find R q (xs ++ ys))
    prefix_at [] ys q = tt
    prefix_at (x ∷ xs) ys q = elim (eq_by_cmp R q x.0) as (λ b. OptionBelow below (cond b (Some x.1) (find R q xs)) (cond b (Some x.1) (find R q (xs ++ ys)))) [
      | true ↦ itself x.1
      | false ↦ prefix_at xs ys q
    ]

    take_below : (es : List (K × V)) (i : ℕ) → MapBelow R below (take i es) es
    take_below es i = subst (MapBelow R below (take i es)) (take-append-drop i es) (record { at = prefix_at (take i es) (drop i es) })

    pair_below : (es : List (K × V)) (i : ℕ) (e : K × V) → IsTrue (is_sorted R es) → i < length es → e ≡ get_or es i e → MapBelow R below ((e.0, e.1) ∷ []) es
    pair_below es i e s lt is =
        let there : find R e.0 es ≡ Some e.1 = ap (λ x. find R x.0 es) is ∙ find_there es i e s lt ∙ ap (λ x. Some x.1) (sym is) in
        record {
          at = λ q. elim (eq_by_cmp R q e.0) as (λ b. eq_by_cmp R q e.0 ≡ b → OptionBelow below (cond b (Some e.1) None) (find R q es)) [
            | true ↦ λ t. subst (λ x. OptionBelow below (Some e.1) x) (sym there ∙ find_tied R o q e.0 (is_equal _ t) es) (itself e.1)
            | false ↦ λ t. tt
          ] refl;
        }

    drop_at : (es : List (K × V)) (i : ℕ) (q : K) → IsTrue (is_sorted R es) → OptionBelow below (find R q (drop i es)) (find R q es)
    drop_at [] zero q s = tt
    drop_at [] (suc i) q s = tt
    drop_at (e ∷ es) zero q s = itself_at (find R q (e ∷ es))
      where
        itself_at : (x : Option V) → OptionBelow below x x
        itself_at None = tt
        itself_at (Some v) = itself v
    drop_at (e ∷ es) (suc i) q s = elim (eq_by_cmp R q e.0) as (λ b. eq_by_cmp R q e.0 ≡ b → OptionBelow below (find R q (drop i es)) (cond b (Some e.1) (find R q es))) [
      | true ↦ λ t.
          let none : find R q (drop i es) ≡ None = find_alike q e.0 (is_equal _ t) (drop i es) (below_all_drop e.0 es i (and_parts _ _ s).0) in
          subst (λ x. OptionBelow below x (Some e.1)) (sym none) tt
      | false ↦ λ t. drop_at es i q (and_parts _ _ s).1
    ] refl
      where
        find_alike : (q x : K) → R q x ≡ Equal → (es : List (K × V)) → IsTrue (below_all R x es) → find R q es ≡ None
        find_alike q x t [] h = refl
        find_alike q x t (f ∷ fs) h = ap (λ r. cond (is_eq r) (Some f.1) (find R q fs)) (o.congr q x f.0 t ∙ is_less _ (and_parts _ _ h).0) ∙ find_alike q x t fs (and_parts _ _ h).1

    pub drop_below : (es : List (K × V)) (i : ℕ) → IsTrue (is_sorted R es) → MapBelow R below (drop i es) es
    drop_below es i s = record { at = λ q. drop_at es i q s }

    pub parts_at : (xs ys : List (K × V)) (q : K) (w : Option V) → OptionBelow below (find R q xs) w → OptionBelow below (find R q ys) w → OptionBelow below (find R q (xs ++ ys)) w
    parts_at [] ys q w h k = k
    parts_at (x ∷ xs) ys q w h k = elim (eq_by_cmp R q x.0) as (λ b. OptionBelow below (cond b (Some x.1) (find R q xs)) w → OptionBelow below (cond b (Some x.1) (find R q (xs ++ ys))) w) [
      | true ↦ λ t. t
      | false ↦ λ t. parts_at xs ys q w t k
    ] h

    -- an upper bound of the pairs before an index and of the others is an upper bound of all
    parts_below : (es : List (K × V)) (i : ℕ) (z : List (K × V)) → MapBelow R below (take i es) z → MapBelow R below (drop i es) z → MapBelow R below es z
    parts_below es i z p q = subst (λ l. MapBelow R below l z) (take-append-drop i es) (record { at = λ k. parts_at (take i es) (drop i es) k (find R k z) (p.at k) (q.at k) })

    -- the pairs before index i are joined
    pub record IsCopied (valid : V → Type 0) (first now other : List (K × V)) (i : ℕ) : Type 0 where
      pub map : IsMap R below valid now
      pub joined : IsJoin (MapBelow R below) first (take i other) now
      pub start : i ≡ 0 → now ≡ first

    module _ (valid : V → Type 0) where
      pub copied_first : (first other : List (K × V)) → IsMap R below valid first → IsCopied valid first first other 0
      copied_first first other m = record {
        map = m;
        joined = record { bounds = λ z. (λ h. (h, record { at = λ q. tt }), λ p. p.0) };
        start = λ _. refl;
      }

      module _ (first now other : List (K × V)) (i : ℕ) (u : IsCopied valid first now other i) where
        pub copied_all : length other ≡ i → IsJoin (MapBelow R below) first other now
        copied_all is = subst (λ l. IsJoin (MapBelow R below) first l now) (ap (λ n. take n other) (sym is) ∙ take_all other) u.joined

        module _ (e : K × V) (is : e ≡ get_or other i e) (lt : i < length other) (m : IsMap R below valid other) where
          now_itself : MapBelow R below now now
          now_itself = map_itself below itself chain R now

          first_now : MapBelow R below first now
          first_now = ((u.joined.bounds now).0 now_itself).0

          -- what the first map had is still in the current one
          pub still_known : MapBelow R below other first → MapBelow R below ((e.0, e.1) ∷ []) now
          still_known h =
              map_chain below itself chain R _ other now (pair_below other i e m.sorted lt is)
              (map_chain below itself chain R other first now h first_now)

          pub copied_more : (new : List (K × V)) → IsMap R below valid new → IsJoin (MapBelow R below) now ((e.0, e.1) ∷ []) new → IsCopied valid first new other (i + 1)
          copied_more new n j =
              let none : find R e.0 (take i other) ≡ None = ap (λ x. find R x.0 (take i other)) is ∙ find_earlier other i e m.sorted lt in
              let more : take (i + 1) other ≡ take i other ++ (e.0, e.1) ∷ [] = take_more other i e lt ∙ ap (λ x. take i other ++ x ∷ []) (sym is) in
              let ends = below_end R below o (take i other) e.0 e.1 none in
              record {
                map = n;
                joined = subst (λ l. IsJoin (MapBelow R below) first l new) (sym more) (record {
                  bounds = λ z. (
                    λ h. let p = (j.bounds z).0 h in let q = (u.joined.bounds z).0 p.0 in (q.0, (ends z).1 (q.1, p.1)),
                    λ p. let q = (ends z).0 p.1 in (j.bounds z).1 ((u.joined.bounds z).1 (p.0, q.0), q.1),
                  );
                });
                start = λ z. absurd (omega (arith, z));
              }

          copied_stopped : (new : List (K × V)) → IsBetween (MapBelow R below) now ((e.0, e.1) ∷ []) new → IsBetween (MapBelow R below) first other new
          copied_stopped new j = record {
            kept = map_chain below itself chain R first now new first_now j.kept;
            within = λ z p q. j.within z
                ((u.joined.bounds z).1 (p, map_chain below itself chain R (take i other) other z (take_below other i) q))
                (map_chain below itself chain R _ other z (pair_below other i e m.sorted lt is) q);
          }

          copied_single : (is_single : V → Type 0) (new : List (K × V)) → (is_single e.1 → new ≡ now) → IsSinglePair is_single other → new ≡ first
          copied_single is_single new h s = let p = only other i lt is s in h p.1 ∙ u.start p.0
            where
              only : (es : List (K × V)) (j : ℕ) → j < length es → e ≡ get_or es j e → IsSinglePair is_single es → (j ≡ 0) × is_single e.1
              only [] j l a t = absurd t
              only (f ∷ []) zero l a t = (refl, subst (λ x. is_single x.1) (sym a) t)
              only (f ∷ []) (suc j) l a t = absurd (omega arith)
              only (f ∷ g ∷ fs) j l a t = absurd t

          -- the outcome if this pair fails
          pub stopped_joined : {T E : Type 0} (single : V → Type 0) (r : Result T E) (new : List (K × V)) → IsErr r → IsMap R below valid new → IsBetween (MapBelow R below) now ((e.0, e.1) ∷ []) new → (single e.1 → new ≡ now) → AreCopiesJoined R below valid single r first other new
          stopped_joined single r new refused n between same = record {
            map = n;
            ok = not_ok _ r refused;
            refused = on_err r (copied_stopped new between);
            single = on_err r (copied_single single new same);
          }

          -- the later pairs are joined into the current map
          rest_joined : (new : List (K × V)) → IsJoin (MapBelow R below) now (drop i other) new → IsJoin (MapBelow R below) first other new
          rest_joined new j = record {
            bounds = λ z. (
              λ h.
                  let p = (j.bounds z).0 h in
                  let q = (u.joined.bounds z).0 p.0 in
                  (q.0, parts_below other i z q.1 p.1),
              λ p. (j.bounds z).1 (
                (u.joined.bounds z).1 (p.0, map_chain below itself chain R (take i other) other z (take_below other i) p.1),
                map_chain below itself chain R (drop i other) other z (drop_below other i m.sorted) p.1,
              ),
            );
          }

          rest_stopped : (new : List (K × V)) → IsBetween (MapBelow R below) now (drop i other) new → IsBetween (MapBelow R below) first other new
          rest_stopped new j = record {
            kept = map_chain below itself chain R first now new first_now j.kept;
            within = λ z p q. j.within z
                ((u.joined.bounds z).1 (p, map_chain below itself chain R (take i other) other z (take_below other i) q))
                (map_chain below itself chain R (drop i other) other z (drop_below other i m.sorted) q);
          }

          rest_single : (is_single : V → Type 0) (new : List (K × V)) → (IsSinglePair is_single (drop i other) → new ≡ now) → IsSinglePair is_single other → new ≡ first
          rest_single is_single new h s =
              let none = single_place other i lt s in
              h (subst (λ n. IsSinglePair is_single (drop n other)) (sym none) (subst (IsSinglePair is_single) (sym (drop_none other)) s)) ∙ u.start none
            where
              drop_none : (es : List (K × V)) → drop 0 es ≡ es
              drop_none [] = refl
              drop_none (x ∷ xs) = refl

              single_place : (es : List (K × V)) (j : ℕ) → j < length es → IsSinglePair is_single es → j ≡ 0
              single_place [] j l t = absurd t
              single_place (x ∷ []) zero l t = refl
              single_place (x ∷ []) (suc j) l t = absurd (omega arith)
              single_place (x ∷ y ∷ xs) j l t = absurd t

          -- joining the later pairs gives the outcome of joining all
          pub rest_copied : {T E : Type 0} (single : V → Type 0) (r : Result T E) (new : List (K × V)) → AreCopiesJoined R below valid single r now (drop i other) new → AreCopiesJoined R below valid single r first other new
          rest_copied single r new j = record {
            map = j.map;
            ok = on_ok_weaker r (rest_joined new) j.ok;
            refused = on_err_weaker r (rest_stopped new) j.refused;
            single = on_err_weaker r (rest_single single new) j.single;
          }

          -- a key that is absent now was not known before
          pub not_known : find R e.0 now ≡ None → ¬ MapBelow R below other first
          not_known none h =
              let at = (still_known h).at e.0 in
              let least = subst (λ x. OptionBelow below (Some e.1) x) none (subst (λ r. OptionBelow below (cond (is_eq r) (Some e.1) None) (find R e.0 now)) (tied_itself o e.0) at) in
              (subst (λ x. IsHeld below valid x.1) (sym is) (held_at below valid other i e lt m.held)).not_least least
