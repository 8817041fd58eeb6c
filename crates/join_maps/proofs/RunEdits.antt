-- The effect of an edit of one run on all pairs in chunks.
use Rattle.std.proofs.Common.{◌+◌, ◌++◌, ◌<◌, ◌↔◌, ◌∷◌, ◌≡◌, ◌≢◌, ◌≤◌}
use Rattle.join_maps.proofs.Prelude.{[], AllHeld, and_parts, ap, arith, below_all, by_order, cond, drop, Equal, false, find, Greater, is_eq, is_equal, is_less, is_sorted, IsBetween, IsJoin, IsMap, IsPartialJoin, IsTotalOrder, IsTrue, length, Less, List, map_chain, map_itself, MapBelow, None, Option, OptionBelow, Ordering, put, refl, Some, subst, suc, sym, tied_itself, true, turned, zero, ℕ, ◌∙◌}
use Rattle.join_law.specs.{Maps.{joined_value, map_union}, UnionLaws.{find-union, option_union, union_joins}}
use Rattle.chunked_pairs.specs.{Chunks.{all_pairs, AllKeys, AreChained, AreChunks, FallsTo, later, run_at, with_run}, ChunkLaws.{keys_fall, sorted_all}, EditLaws.{chunks_with, length_with, run_with}, Searches.{keys_weaker}}
use Rattle.sorted_pairs.specs.PlaceLaws.{find_before}
use Rattle.join_maps.proofs.CopyWalks.{drop_below, parts_at, prefix_at}

module _ {K V : Type 0} (R : K → K → Ordering) (o : IsTotalOrder R) (below : V → V → Type 0) (itself : (x : V) → below x x) (chain : (x y z : V) → below x y → below y z → below x z) where
  drop_length : (xs ys : List (K × V)) → drop (length xs) (xs ++ ys) ≡ ys
  drop_length [] [] = refl
  drop_length [] (y ∷ ys) = refl
  drop_length (x ∷ xs) ys = drop_length xs ys

  -- a map in two parts is below what both are below
  pub below_parts : (xs ys z : List (K × V)) → IsTrue (is_sorted R (xs ++ ys)) → MapBelow R below (xs ++ ys) z ↔ (MapBelow R below xs z × MapBelow R below ys z)
  below_parts xs ys z s =
      let second = subst (λ l. MapBelow R below l (xs ++ ys)) (drop_length xs ys) (drop_below R o below itself chain (xs ++ ys) (length xs) s) in (
        λ h. (
          map_chain below itself chain R xs (xs ++ ys) z (record { at = λ q. prefix_at R o below itself chain xs ys q }) h,
          map_chain below itself chain R ys (xs ++ ys) z second h,
        ),
        λ p. record { at = λ q. parts_at R o below itself chain xs ys q (find R q z) (p.0.at q) (p.1.at q) },
      )

  -- the pairs of all other runs are below z
  abbrev pub AreOthersBelow : List (K × V) → List (K × List (K × V)) → ℕ → List (K × V) → Type 0
  AreOthersBelow run ms zero z = MapBelow R below (later ms) z
  AreOthersBelow run [] (suc j) z = MapBelow R below run z
  AreOthersBelow run (m ∷ ms) (suc j) z = MapBelow R below run z × AreOthersBelow m.1 ms j z

  others_to : (run : List (K × V)) (ms : List (K × List (K × V))) (j : ℕ) (new z : List (K × V)) → AreOthersBelow run ms j z → AreOthersBelow (with_run run ms j new).0 (with_run run ms j new).1 j z
  others_to run ms zero new z h = h
  others_to run [] (suc j) new z h = h
  others_to run (m ∷ ms) (suc j) new z h = (h.0, others_to m.1 ms j new z h.1)

  others_from : (run : List (K × V)) (ms : List (K × List (K × V))) (j : ℕ) (new z : List (K × V)) → AreOthersBelow (with_run run ms j new).0 (with_run run ms j new).1 j z → AreOthersBelow run ms j z
  others_from run ms zero new z h = h
  others_from run [] (suc j) new z h = h
  others_from run (m ∷ ms) (suc j) new z h = (h.0, others_from m.1 ms j new z h.1)

  -- all pairs are those of a run, and the others
  pub run_parts : (run : List (K × V)) (ms : List (K × List (K × V))) (j : ℕ) (z : List (K × V)) → j ≤ length ms → AreChained R run ms → MapBelow R below (run ++ later ms) z ↔ (MapBelow R below (run_at run ms j) z × AreOthersBelow run ms j z)
  run_parts run ms zero z le c = below_parts run (later ms) z (sorted_all R o run ms c)
  run_parts run [] (suc j) z le c = absurd (omega arith)
  run_parts run (m ∷ ms) (suc j) z le c =
      let two = below_parts run (m.1 ++ later ms) z (sorted_all R o run (m ∷ ms) c) in
      let more = run_parts m.1 ms j z (omega arith) c.2 in (
        λ h. let a = two.0 h in let b = more.0 a.1 in (b.0, (a.0, b.1)),
        λ p. two.1 (p.1.0, more.1 (p.0, p.1.1)),
      )

  module _ (run : List (K × V)) (ms : List (K × List (K × V))) (j : ℕ) (le : j ≤ length ms) (c : AreChained R run ms) (new : List (K × V)) (d : AreChained R (with_run run ms j new).0 (with_run run ms j new).1) where
    -- all pairs after the run is replaced
    new_parts : (z : List (K × V)) → MapBelow R below (all_pairs (with_run run ms j new)) z ↔ (MapBelow R below new z × AreOthersBelow run ms j z)
    new_parts z =
        let p = run_parts (with_run run ms j new).0 (with_run run ms j new).1 j z (subst (λ n. j ≤ n) (sym (length_with run ms j new)) le) d in
        let is = run_with run ms j new le in (
          λ h. let a = p.0 h in (subst (λ l. MapBelow R below l z) is a.0, others_from run ms j new z a.1),
          λ q. p.1 (subst (λ l. MapBelow R below l z) (sym is) q.0, others_to run ms j new z q.1),
        )

    pub run_join : (other : List (K × V)) → IsJoin (MapBelow R below) (run_at run ms j) other new → IsJoin (MapBelow R below) (run ++ later ms) other (all_pairs (with_run run ms j new))
    run_join other h = record {
      bounds = λ z. (
        λ b. let a = (new_parts z).0 b in let e = (h.bounds z).0 a.0 in ((run_parts run ms j z le c).1 (e.0, a.1), e.1),
        λ p. let a = (run_parts run ms j z le c).0 p.0 in (new_parts z).1 ((h.bounds z).1 (a.0, p.1), a.1),
      );
    }

    kept_all : MapBelow R below (run_at run ms j) new → MapBelow R below (run ++ later ms) (all_pairs (with_run run ms j new))
    kept_all k =
        let all = all_pairs (with_run run ms j new) in
        let a = (new_parts all).0 (map_itself below itself chain R all) in
        (run_parts run ms j all le c).1 (map_chain below itself chain R (run_at run ms j) new all k a.0, a.1)

    pub run_between : (other : List (K × V)) → IsBetween (MapBelow R below) (run_at run ms j) other new → IsBetween (MapBelow R below) (run ++ later ms) other (all_pairs (with_run run ms j new))
    run_between other h = record {
      kept = kept_all h.kept;
      within = λ z p q. let a = (run_parts run ms j z le c).0 p in (new_parts z).1 (h.within z a.0 q, a.1);
    }

    pub run_partial : (other rest : List (K × V)) → IsPartialJoin (MapBelow R below) (run_at run ms j) other new rest → IsPartialJoin (MapBelow R below) (run ++ later ms) other (all_pairs (with_run run ms j new)) rest
    run_partial other rest h = record {
      kept = kept_all h.kept;
      bounds = λ z. (
        λ p. let a = (new_parts z).0 p.0 in let e = (h.bounds z).0 (a.0, p.1) in ((run_parts run ms j z le c).1 (e.0, a.1), e.1),
        λ p. let a = (run_parts run ms j z le c).0 p.0 in let e = (h.bounds z).1 (a.0, p.1) in ((new_parts z).1 (e.0, a.1), e.1),
      );
      left = h.left;
    }

-- The keys of a map that lies between.

-- a key that is found has whatever the keys have
pub found_has : {K V : Type 0} (R : K → K → Ordering) (P : K → Type 0) → ((x y : K) → R x y ≡ Equal → P y → P x) → (q : K) (xs : List (K × V)) → find R q xs ≢ None → AllKeys P xs → P q
found_has R P alike q [] n h = absurd (n refl)
found_has R P alike q (x ∷ xs) n h = elim (is_eq (R q x.0)) as (λ b. is_eq (R q x.0) ≡ b → cond b (Some x.1) (find R q xs) ≢ None → P q) [
  | true ↦ λ t m. alike q x.0 (is_equal _ t) h.0
  | false ↦ λ t m. found_has R P alike q xs m h.1
] refl n

-- every key of sorted pairs is found
pub all_found : {K V : Type 0} (R : K → K → Ordering) (o : IsTotalOrder R) (es : List (K × V)) → IsTrue (is_sorted R es) → AllKeys (λ q. find R q es ≢ None) es
all_found {K} {V} R o es s = each [] es (λ q h. h)
  where
    each : (before after : List (K × V)) → ((q : K) → find R q after ≢ None → find R q es ≢ None) → AllKeys (λ q. find R q es ≢ None) after
    each before [] f = tt
    each before (x ∷ xs) f = (
      f x.0 (λ e. let t = sym (ap (λ r. cond (is_eq r) (Some x.1) (find R x.0 xs)) (tied_itself o x.0)) ∙ e in cc (t)),
      each (x ∷ before) xs (λ q h. f q (more q x xs h)),
    )
      where
        more : (q : K) (x : K × V) (xs : List (K × V)) → find R q xs ≢ None → find R q (x ∷ xs) ≢ None
        more q x xs h = elim (is_eq (R q x.0)) as (λ b. cond b (Some x.1) (find R q xs) ≢ None) [
          | true ↦ λ e. cc (e)
          | false ↦ h
        ]

module _ {K V : Type 0} (R : K → K → Ordering) (o : IsTotalOrder R) (valid : V → Type 0) (below : V → V → Type 0) (join : V → V → V) (joins : (x y : V) → IsJoin below x y (join x y)) where
  -- a value that is held isn't below an absent one
  held_some : (es : List (K × V)) → AllHeld below valid es → (q : K) (w : Option V) → find R q es ≢ None → OptionBelow below (find R q es) w → w ≢ None
  held_some [] h q w n b = absurd (n refl)
  held_some (x ∷ xs) h q w n b = elim (is_eq (R q x.0)) as (λ b. cond b (Some x.1) (find R q xs) ≢ None → OptionBelow below (cond b (Some x.1) (find R q xs)) w → w ≢ None) [
    | true ↦ λ m l e. h.0.not_least (subst (OptionBelow below (Some x.1)) e l)
    | false ↦ λ m l. held_some xs h.1 q w m l
  ] n b

  -- a key of a map up to another one is found there
  keys_found : (now up : List (K × V)) → IsMap R below valid now → MapBelow R below now up → AllKeys (λ q. find R q up ≢ None) now
  keys_found now up m l = keys_weaker (λ q n. held_some now m.held q (find R q up) n (l.at q)) now (all_found R o now m.sorted)

  union_has : (P : K → Type 0) → ((x y : K) → R x y ≡ Equal → P y → P x) → (es fs : List (K × V)) → AllKeys P es → AllKeys P fs → (q : K) → find R q (map_union R join es fs) ≢ None → P q
  union_has P alike es fs a b q n = elim (find R q es) as (λ x. find R q es ≡ x → P q) [
    | Some v ↦ λ e. found_has R P alike q es (λ z. let t = sym e ∙ z in cc (t)) a
    | None ↦ λ e. found_has R P alike q fs (λ z. n (find-union R o below join joins es fs q ∙ (λ i. option_union join (e i) (z i)))) b
  ] refl

  -- what both maps' keys have, the keys of a map up to their join have
  pub keys_stay : (P : K → Type 0) → ((x y : K) → R x y ≡ Equal → P y → P x) → (es fs now : List (K × V)) → IsMap R below valid now → MapBelow R below now (map_union R join es fs) → AllKeys P es → AllKeys P fs → AllKeys P now
  keys_stay P alike es fs now m l a b = keys_weaker (λ q n. union_has P alike es fs a b q n) now (keys_found now (map_union R join es fs) m l)

below_keys : {K V : Type 0} (R : K → K → Ordering) (x : K) (ys : List (K × V)) → IsTrue (below_all R x ys) → AllKeys (λ q. R x q ≡ Less) ys
below_keys R x [] h = tt
below_keys R x (y ∷ ys) h = (is_less _ (and_parts _ _ h).0, below_keys R x ys (and_parts _ _ h).1)

-- a key that isn't the first one's is found among the others
found_behind : {K V : Type 0} (R : K → K → Ordering) (q : K) (y : K × V) (ys : List (K × V)) → R q y.0 ≢ Equal → find R q (y ∷ ys) ≢ None → find R q ys ≢ None
found_behind R q y ys n f e = f (elim (R q y.0) as (λ r. R q y.0 ≡ r → cond (is_eq r) (Some y.1) (find R q ys) ≡ None) [
  | Less ↦ λ h. e
  | Equal ↦ λ h. absurd (n h)
  | Greater ↦ λ h. e
] refl)

module _ {K V : Type 0} (R : K → K → Ordering) (o : IsTotalOrder R) where
  keys_behind : (y : K × V) (xs ys : List (K × V)) → AllKeys (λ q. R y.0 q ≡ Less) xs → AllKeys (λ q. find R q (y ∷ ys) ≢ None) xs → AllKeys (λ q. find R q ys ≢ None) xs
  keys_behind y [] ys h f = tt
  keys_behind y (x ∷ xs) ys h f = (found_behind R x.0 y ys (λ e. let t = turned R o y.0 x.0 Less h.0 in cc (t, e)) f.0, keys_behind y xs ys h.1 f.1)

  -- sorted pairs whose keys are all found among others are no more than those
  pub no_more : (xs ys : List (K × V)) → IsTrue (is_sorted R xs) → IsTrue (is_sorted R ys) → AllKeys (λ q. find R q ys ≢ None) xs → length xs ≤ length ys
  no_more [] ys s t h = omega arith
  no_more (x ∷ xs) [] s t h = absurd (h.0 refl)
  no_more (x ∷ xs) (y ∷ ys) s t h =
      let above = below_keys R x.0 xs (and_parts _ _ s).0 in
      elim (R x.0 y.0) as (λ r. R x.0 y.0 ≡ r → length (x ∷ xs) ≤ length (y ∷ ys)) [
        | Less ↦ λ e. absurd (found_behind R x.0 y ys (λ f. cc (e, f)) h.0 (find_before R x.0 o y.0 e ys (and_parts _ _ t).0))
        | Equal ↦ λ e. let le = no_more xs ys (and_parts _ _ s).1 (and_parts _ _ t).1 (keys_behind y xs ys (keys_weaker (λ q l. sym (o.congr x.0 y.0 q e) ∙ l) xs above) h.1) in omega (arith, le)
        | Greater ↦ λ e.
            let less : R y.0 x.0 ≡ Less = turned R o x.0 y.0 Greater e in
            let le = no_more (x ∷ xs) ys s (and_parts _ _ t).1 (keys_behind y (x ∷ xs) ys (less, keys_weaker (λ q l. o.trans y.0 x.0 q less l) xs above) h) in
            omega (arith, le)
      ] refl

-- What an edit leaves of a run, and of all pairs.

pub alike_falls : {K V : Type 0} (R : K → K → Ordering) (o : IsTotalOrder R) (ms : List (K × List (K × V))) (j : ℕ) (x y : K) → R x y ≡ Equal → FallsTo R y ms j → FallsTo R x ms j
alike_falls R o [] zero x y e f = tt
alike_falls R o [] (suc j) x y e f = absurd f
alike_falls R o (m ∷ ms) zero x y e f = o.congr x y m.0 e ∙ f
alike_falls R o (m ∷ ms) (suc j) x y e f = (λ l. f.0 (sym (o.congr x y m.0 e) ∙ l), alike_falls R o ms j x y e f.1)

module _ {K V : Type 0} (R : K → K → Ordering) (o : IsTotalOrder R) (valid : V → Type 0) (below : V → V → Type 0) (itself : (x : V) → below x x) (chain : (x y z : V) → below x y → below y z → below x z) (join : V → V → V) (joins : (x y : V) → IsJoin below x y (join x y)) where
  -- a value between two maps is up to their join
  pub up_to_union : (es fs now : List (K × V)) → IsBetween (MapBelow R below) es fs now → MapBelow R below now (map_union R join es fs)
  up_to_union es fs now b =
      let all = map_union R join es fs in
      let above = ((union_joins R o below join joins es fs).bounds all).0 (map_itself below itself chain R all) in
      b.within all above.0 above.1

  -- a map with pairs keeps some
  pub kept_some : (es now : List (K × V)) → IsMap R below valid es → MapBelow R below es now → 0 < length es → 0 < length now
  kept_some es [] m l some = absurd (none es m.held (λ q. l.at q) some)
    where
      none : (xs : List (K × V)) → AllHeld below valid xs → ((q : K) → OptionBelow below (find R q xs) None) → 0 < length xs → ⊥
      none [] h f s = absurd (omega (arith, s))
      none (x ∷ xs) h f s = h.0.not_least (subst (λ r. OptionBelow below (cond (is_eq r) (Some x.1) (find R x.0 xs)) None) (tied_itself o x.0) (f x.0))
  kept_some es (x ∷ now) m l some = omega arith

  held_with : (run : List (K × V)) (ms : List (K × List (K × V))) (j : ℕ) (new : List (K × V)) → AllHeld below valid (run ++ later ms) → AllHeld below valid new → AllHeld below valid (all_pairs (with_run run ms j new))
  held_with run ms zero new h n = held_append new (later ms) n (held_parts run (later ms) h).1
    where
      held_append : (xs ys : List (K × V)) → AllHeld below valid xs → AllHeld below valid ys → AllHeld below valid (xs ++ ys)
      held_append [] ys a b = b
      held_append (x ∷ xs) ys a b = (a.0, held_append xs ys a.1 b)

      held_parts : (xs ys : List (K × V)) → AllHeld below valid (xs ++ ys) → AllHeld below valid xs × AllHeld below valid ys
      held_parts [] ys h = (tt, h)
      held_parts (x ∷ xs) ys h = let t = held_parts xs ys h.1 in ((h.0, t.0), t.1)
  held_with run [] (suc j) new h n = h
  held_with run (m ∷ ms) (suc j) new h n = in_front run (m.1 ++ later ms) (all_pairs (with_run m.1 ms j new)) h (held_with m.1 ms j new (behind run (m.1 ++ later ms) h) n)
    where
      behind : (xs ys : List (K × V)) → AllHeld below valid (xs ++ ys) → AllHeld below valid ys
      behind [] ys h = h
      behind (x ∷ xs) ys h = behind xs ys h.1

      in_front : (xs ys zs : List (K × V)) → AllHeld below valid (xs ++ ys) → AllHeld below valid zs → AllHeld below valid (xs ++ zs)
      in_front [] ys zs h b = b
      in_front (x ∷ xs) ys zs h b = (h.0, in_front xs ys zs h.1 b)

  -- after a run was edited within its room, the runs are chunks again, and all pairs a map
  pub edited : (run : List (K × V)) (ms : List (K × List (K × V))) (j : ℕ) (added new : List (K × V)) → AreChunks R (run, ms) → IsMap R below valid (run ++ later ms) → j ≤ length ms → AllKeys (λ q. FallsTo R q ms j) added
      → IsMap R below valid (run_at run ms j) → IsMap R below valid new → IsBetween (MapBelow R below) (run_at run ms j) added new → length new ≤ 128 → (0 < length ms → 0 < length (run_at run ms j))
      → AreChunks R (with_run run ms j new) × IsMap R below valid (all_pairs (with_run run ms j new))
  edited run ms j added new c m le falls was n b short some =
      let up = up_to_union (run_at run ms j) added new b in
      let keys = keys_stay R o valid below join joins (λ q. FallsTo R q ms j) (alike_falls R o ms j) (run_at run ms j) added new n up (keys_fall R o run ms j le c.chained) falls in
      let chunks = chunks_with R o run ms j new c le (record { sorted = n.sorted; within = short }) keys (λ z. kept_some (run_at run ms j) new was b.kept (some z)) in
      (chunks, record { sorted = sorted_all R o (with_run run ms j new).0 (with_run run ms j new).1 chunks.chained; held = held_with run ms j new m.held n.held })

  put_length : (k : K) (v : V) (es : List (K × V)) → length (put R k v es) ≤ length es + 1
  put_length k v [] = omega arith
  put_length k v (e ∷ es) = let le = put_length k v es in elim (R k e.0) as (λ r. length (by_order r ((k, v) ∷ e ∷ es) ((e.0, v) ∷ es) (e ∷ put R k v es)) ≤ length (e ∷ es) + 1) [
    | Less ↦ omega arith
    | Equal ↦ omega arith
    | Greater ↦ omega (arith, le)
  ]

  union_length : (es fs : List (K × V)) → length (map_union R join es fs) ≤ length es + length fs
  union_length es [] = omega arith
  union_length es (f ∷ fs) = let le = union_length es fs in omega (arith, le, put_length f.0 (joined_value join (find R f.0 es) f.1) (map_union R join es fs))

  -- no more keys are added than there are pairs
  pub added_length : (es fs now : List (K × V)) → IsMap R below valid now → IsTrue (is_sorted R (map_union R join es fs)) → IsBetween (MapBelow R below) es fs now → length now ≤ length es + length fs
  added_length es fs now n u b =
      let le = no_more R o now (map_union R join es fs) n.sorted u (keys_found R o valid below join joins now (map_union R join es fs) n (up_to_union es fs now b)) in
      omega (arith, le, union_length es fs)
