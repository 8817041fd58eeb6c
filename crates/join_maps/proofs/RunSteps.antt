-- Steps by which a run is taken out, edited, and put back.
use Rattle.std.proofs.Common.{◌++◌, ◌<◌, ◌∷◌, ◌≡◌, ◌≢◌, ◌≤◌}
use Rattle.join_maps.proofs.Prelude.{[], AllHeld, ap, AreMapped, arith, cond, find, find_tied, from_T, inl, inr, is_eq, is_sorted, is_sorted-put, IsAt, IsBetween, IsJoin, IsMap, IsPartialJoin, IsRoomFor, IsTotalOrder, IsTrue, length, List, map_itself, MapBelow, None, Option, OptionBelow, Ordering, refl, Some, subst, suc, sym, to_T, zero, ℕ, ◌∙◌}
use Rattle.join_law.specs.{Maps.{joined_value, map_union}}
use Rattle.chunked_pairs.specs.{Chunks.{all_pairs, AllKeys, AreChained, AreChunks, FallsTo, IsRun, later, run_at, swapped, with_run}, ChunkLaws.{find_falls, run_is}, EditLaws.{length_with, swapped_back, with_same, with_with}}
use Rattle.join_maps.proofs.RunEdits.{added_length, alike_falls, all_found, edited, found_has, keys_stay, no_more, run_between, run_join, run_partial, up_to_union}

module _ {K V : Type 0} (R : K → K → Ordering) (below : V → V → Type 0) where
  -- a join lies between, and so does a join in part
  pub join_between : (itself : (x : V) → below x x) → (chain : (x y z : V) → below x y → below y z → below x z) → (a b c : List (K × V)) → IsJoin (MapBelow R below) a b c → IsBetween (MapBelow R below) a b c
  join_between itself chain a b c j = record {
    kept = ((j.bounds c).0 (map_itself below itself chain R c)).0;
    within = λ z p q. (j.bounds z).1 (p, q);
  }

  pub partly_between : (a b c rest : List (K × V)) → IsPartialJoin (MapBelow R below) a b c rest → IsBetween (MapBelow R below) a b c
  partly_between a b c rest j = record { kept = j.kept; within = λ z p q. ((j.bounds z).1 (p, q)).0 }

module _ {K V : Type 0} (R : K → K → Ordering) (o : IsTotalOrder R) (valid : V → Type 0) (below : V → V → Type 0) (itself : (x : V) → below x x) (chain : (x y z : V) → below x y → below y z → below x z) (join : V → V → V) (joins : (x y : V) → IsJoin below x y (join x y)) where
  held_run : (run : List (K × V)) (ms : List (K × List (K × V))) (j : ℕ) → AllHeld below valid (run ++ later ms) → AllHeld below valid (run_at run ms j)
  held_run run ms zero h = front run (later ms) h
    where
      front : (xs ys : List (K × V)) → AllHeld below valid (xs ++ ys) → AllHeld below valid xs
      front [] ys h = tt
      front (x ∷ xs) ys h = (h.0, front xs ys h.1)
  held_run run [] (suc j) h = tt
  held_run run (m ∷ ms) (suc j) h = held_run m.1 ms j (behind run (m.1 ++ later ms) h)
    where
      behind : (xs ys : List (K × V)) → AllHeld below valid (xs ++ ys) → AllHeld below valid ys
      behind [] ys h = h
      behind (x ∷ xs) ys h = behind xs ys h.1

  module _ (c : List (K × V) × List (K × List (K × V))) (m : AreMapped R below valid c) (j : ℕ) (le : j ≤ length c.1) where
    pub is_run : IsRun R (run_at c.0 c.1 j)
    is_run = run_is R o c.0 c.1 j le m.chunks.chained

    pub run_is_map : IsMap R below valid (run_at c.0 c.1 j)
    run_is_map = record { sorted = is_run.sorted; held = held_run c.0 c.1 j m.map.held }

    -- a key is found in the run to which it falls, or nowhere
    pub find_in_run : (q : K) → FallsTo R q c.1 j → find R q (all_pairs c) ≡ find R q (run_at c.0 c.1 j)
    find_in_run q f = find_falls R o q c.0 c.1 j m.chunks.chained f

    pub some_in_run : 0 < length c.1 → 0 < length (run_at c.0 c.1 j)
    some_in_run more = run_some c.0 c.1 j le m.chunks.chained (m.chunks.some more)
      where
        run_some : (run : List (K × V)) (ms : List (K × List (K × V))) (j : ℕ) → j ≤ length ms → AreChained R run ms → 0 < length run → 0 < length (run_at run ms j)
        run_some run ms zero le c s = s
        run_some run [] (suc j) le c s = absurd (omega arith)
        run_some run (m ∷ ms) (suc j) le c s = run_some m.1 ms j (omega arith) c.2 c.1.some

    pub sorted_union : (es fs : List (K × V)) → IsTrue (is_sorted R es) → IsTrue (is_sorted R (map_union R join es fs))
    sorted_union es [] s = s
    sorted_union es (f ∷ fs) s = from_T _ (is_sorted-put R o f.0 (joined_value join (find R f.0 es) f.1) (map_union R join es fs) (to_T _ (sorted_union es fs s)))

    -- pairs that fall to a run, and are known, are known there
    pub known_in_run : (added : List (K × V)) → AllKeys (λ q. FallsTo R q c.1 j) added → MapBelow R below added (all_pairs c) → MapBelow R below added (run_at c.0 c.1 j)
    known_in_run added falls h = record {
      at = λ q. at_key q (find R q added) refl (h.at q);
    }
      where
        at_key : (q : K) (x : Option V) → find R q added ≡ x → OptionBelow below (find R q added) (find R q (all_pairs c)) → OptionBelow below (find R q added) (find R q (run_at c.0 c.1 j))
        at_key q None e l = subst (λ x. OptionBelow below x (find R q (run_at c.0 c.1 j))) (sym e) tt
        at_key q (Some v) e l =
            let there = found_has R (λ k. FallsTo R k c.1 j) (alike_falls R o c.1 j) q added (λ z. let t = sym e ∙ z in cc (t)) falls in
            subst (λ x. OptionBelow below (find R q added) x) (find_in_run q there) l

    -- a key that falls to the run has room there, if it isn't there and the run isn't full
    pub room_for_key : (k : K) (v : V) → (find R k (run_at c.0 c.1 j) ≡ None → length (run_at c.0 c.1 j) < 128) → IsRoomFor R (run_at c.0 c.1 j) ((k, v) ∷ [])
    room_for_key k v room = by_find (find R k (run_at c.0 c.1 j)) refl
      where
        by_find : (x : Option V) → find R k (run_at c.0 c.1 j) ≡ x → IsRoomFor R (run_at c.0 c.1 j) ((k, v) ∷ [])
        by_find None e = let lt = room e in inl (omega (arith, lt))
        by_find (Some w) e = inr ((λ z. let t = sym e ∙ z in cc (t)), tt)

-- a run is taken out, some pairs are joined into it, maybe in part, and it is put back
pub record IsRunEdit {K V : Type 0} (R : K → K → Ordering) (valid : V → Type 0) (below : V → V → Type 0) (c : List (K × V) × List (K × List (K × V))) (j : ℕ) (added now : List (K × V)) (put : List (K × V) × List (K × List (K × V))) : Type 0 where
  pub mapped : AreMapped R below valid c
  pub within : j ≤ length c.1
  pub falls : AllKeys (λ q. FallsTo R q c.1 j) added
  pub room : IsRoomFor R (run_at c.0 c.1 j) added
  pub map : IsMap R below valid now
  pub between : IsBetween (MapBelow R below) (run_at c.0 c.1 j) added now
  pub put_is : put ≡ with_run c.0 c.1 j now

-- what is put where a run was taken out
pub put_back : {K V : Type 0} (c left put : List (K × V) × List (K × List (K × V))) (j : ℕ) (now : List (K × V)) → left ≡ with_run c.0 c.1 j [] → put ≡ with_run left.0 left.1 j now → put ≡ with_run c.0 c.1 j now
put_back c left put j now l p = p ∙ ap (λ d. with_run d.0 d.1 j now) l ∙ with_with c.0 c.1 j [] now

-- what stands first while a run has changed places with the first one
pub first_is : {K V : Type 0} (c view : List (K × V) × List (K × List (K × V))) (j : ℕ) (first : List (K × V)) (more : List (K × List (K × V))) → (first, more) ≡ view → view ≡ swapped c.0 c.1 j → first ≡ run_at c.0 c.1 j
first_is c view j first more v w = ap (λ d. d.0) (v ∙ w)

pub more_is : {K V : Type 0} (c view : List (K × V) × List (K × List (K × V))) (j : ℕ) (first : List (K × V)) (more : List (K × List (K × V))) → (first, more) ≡ view → view ≡ swapped c.0 c.1 j → j ≤ length c.1 → j ≤ length more
more_is c view j first more v w le = subst (λ ms. j ≤ length ms) (sym (ap (λ d. d.1) (v ∙ w))) (subst (λ n. j ≤ n) (sym (length_with c.0 c.1 j c.0)) le)

-- what is there once both have changed places again
pub swap_back : {K V : Type 0} (c view put : List (K × V) × List (K × List (K × V))) (j : ℕ) (first now : List (K × V)) (more : List (K × List (K × V))) → (first, more) ≡ view → view ≡ swapped c.0 c.1 j → j ≤ length c.1 → put ≡ swapped now more j → put ≡ with_run c.0 c.1 j now
swap_back c view put j first now more v w le p = p ∙ ap (λ d. swapped now d.1 j) (v ∙ w) ∙ swapped_back c.0 c.1 j now le

-- a run that is put back as it was
pub put_as_it_was : {K V : Type 0} (c : List (K × V) × List (K × List (K × V))) (j : ℕ) (now : List (K × V)) → now ≡ run_at c.0 c.1 j → with_run c.0 c.1 j now ≡ c
put_as_it_was c j now e = ap (λ r. with_run c.0 c.1 j r) e ∙ with_same c.0 c.1 j

pub put_same : {K V : Type 0} (c put : List (K × V) × List (K × List (K × V))) (j : ℕ) (now : List (K × V)) → put ≡ with_run c.0 c.1 j now → now ≡ run_at c.0 c.1 j → all_pairs put ≡ all_pairs c
put_same c put j now p e = ap all_pairs (p ∙ put_as_it_was c j now e)

module _ {K V : Type 0} (R : K → K → Ordering) (o : IsTotalOrder R) (valid : V → Type 0) (below : V → V → Type 0) (itself : (x : V) → below x x) (chain : (x y z : V) → below x y → below y z → below x z) (join : V → V → V) (joins : (x y : V) → IsJoin below x y (join x y)) (c : List (K × V) × List (K × List (K × V))) (j : ℕ) (added now : List (K × V)) (put : List (K × V) × List (K × List (K × V))) (e : IsRunEdit R valid below c j added now put) where
  run : IsRun R (run_at c.0 c.1 j)
  run = is_run R o valid below itself chain join joins c e.mapped j e.within

  -- what is edited within its room is not too long
  fits : length now ≤ 128
  fits = elim e.room [
    | inl short ↦ let le = added_length R o valid below itself chain join joins (run_at c.0 c.1 j) added now e.map (sorted_union R o valid below itself chain join joins c e.mapped j e.within (run_at c.0 c.1 j) added run.sorted) e.between in omega (arith, le, short)
    | inr known ↦
        let keys = keys_stay R o valid below join joins (λ q. find R q (run_at c.0 c.1 j) ≢ None) (λ x y t f. subst (λ w. w ≢ None) (find_tied R o x y t (run_at c.0 c.1 j)) f) (run_at c.0 c.1 j) added now e.map (up_to_union R o valid below itself chain join joins (run_at c.0 c.1 j) added now e.between) (all_found R o (run_at c.0 c.1 j) run.sorted) known in
        let le = no_more R o now (run_at c.0 c.1 j) e.map.sorted run.sorted keys in
        omega (arith, le, run.within)
  ]

  stays : AreChunks R (with_run c.0 c.1 j now) × IsMap R below valid (all_pairs (with_run c.0 c.1 j now))
  stays = edited R o valid below itself chain join joins c.0 c.1 j added now e.mapped.chunks e.mapped.map e.within e.falls (run_is_map R o valid below itself chain join joins c e.mapped j e.within) e.map e.between fits (some_in_run R o valid below itself chain join joins c e.mapped j e.within)

  pub edit_mapped : AreMapped R below valid put
  edit_mapped = subst (AreMapped R below valid) (sym e.put_is) (record { chunks = stays.0; map = stays.1 })

  pub edit_joined : IsJoin (MapBelow R below) (run_at c.0 c.1 j) added now → IsJoin (MapBelow R below) (all_pairs c) added (all_pairs put)
  edit_joined h = subst (λ d. IsJoin (MapBelow R below) (all_pairs c) added (all_pairs d)) (sym e.put_is) (run_join R o below itself chain c.0 c.1 j e.within e.mapped.chunks.chained now stays.0.chained added h)

  pub edit_between : IsBetween (MapBelow R below) (all_pairs c) added (all_pairs put)
  edit_between = subst (λ d. IsBetween (MapBelow R below) (all_pairs c) added (all_pairs d)) (sym e.put_is) (run_between R o below itself chain c.0 c.1 j e.within e.mapped.chunks.chained now stays.0.chained added e.between)

  pub edit_partly : (rest : List (K × V)) → IsPartialJoin (MapBelow R below) (run_at c.0 c.1 j) added now rest → IsPartialJoin (MapBelow R below) (all_pairs c) added (all_pairs put) rest
  edit_partly rest h = subst (λ d. IsPartialJoin (MapBelow R below) (all_pairs c) added (all_pairs d) rest) (sym e.put_is) (run_partial R o below itself chain c.0 c.1 j e.within e.mapped.chunks.chained now stays.0.chained added rest h)

-- a key that stands somewhere is found
pub at_some : {K V : Type 0} (R : K → K → Ordering) (k : K) (es : List (K × V)) (i : ℕ) → IsAt R k es i → find R k es ≢ None
at_some R k [] i a = absurd a
at_some R k (e ∷ es) zero a = λ n. let t = sym (ap (λ r. cond (is_eq r) (Some e.1) (find R k es)) a) ∙ n in cc (t)
at_some R k (e ∷ es) (suc i) a = λ n. at_some R k es i a.1 (sym (ap (λ r. cond (is_eq r) (Some e.1) (find R k es)) a.0) ∙ n)
