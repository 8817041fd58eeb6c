-- Joining the last of some pairs, over and over.
use Rattle.std.proofs.Common.{◌++◌, ◌<◌, ◌∷◌, ◌≡◌}
use Rattle.join_maps.proofs.Prelude.{[], ap, ArePairsJoined, arith, Bool, false, IsLastJoined, IsLastStopped, IsMap, IsPartialJoin, IsTotalOrder, length, length-append, List, MapBelow, OnFalse, OnTrue, Ordering, refl, subst, suc, sym, ◌∙◌}
use Rattle.chunked_pairs.specs.{Chunks.{all_pairs, AllKeys, AreChunks, FallsTo, given_back, IsRun, run_at, with_run}, ChunkLaws.{keys_fall, run_is}, EditLaws.{back_pairs, chunks_back, last_more, run_part, with_same}, Searches.{keys_append, keys_parts}}
use Rattle.join_law.specs.OutcomeLaws.{by_answer}
use Rattle.join_maps.proofs.Ends.{IsUnderWay, single_stopped, sorted_alike, stopped_is_join, stopped_is_map, under_way_more}

module _ {K V : Type 0} (R : K → K → Ordering) (o : IsTotalOrder R) where
  module _ (c : List (K × V) × List (K × List (K × V))) (chunks : AreChunks R c) where
    last_falls : AllKeys (λ q. FallsTo R q c.1 (length c.1)) (run_at c.0 c.1 (length c.1))
    last_falls = keys_fall R o c.0 c.1 (length c.1) (omega arith) chunks.chained

    last_is_run : IsRun R (run_at c.0 c.1 (length c.1))
    last_is_run = run_is R o c.0 c.1 (length c.1) (omega arith) chunks.chained

    -- all pairs end with those of the last run
    pub all_end : (xs ys : List (K × V)) → (run_at c.0 c.1 (length c.1)) ≡ xs ++ ys → all_pairs c ≡ all_pairs (with_run c.0 c.1 (length c.1) xs) ++ ys
    all_end xs ys e = sym (ap all_pairs (with_same c.0 c.1 (length c.1))) ∙ ap (λ r. all_pairs (with_run c.0 c.1 (length c.1) r)) e ∙ last_more c.0 c.1 xs ys

    -- some of the first pairs of the last run are given back
    pub back_are_chunks : (xs : List (K × V)) (e : K × V) → (run_at c.0 c.1 (length c.1)) ≡ xs ++ e ∷ [] → AreChunks R (given_back (with_run c.0 c.1 (length c.1) []).0 (with_run c.0 c.1 (length c.1) []).1 xs)
    back_are_chunks xs e is =
        chunks_back R o c.0 c.1 xs chunks (run_part R o xs (e ∷ []) (subst (IsRun R) is last_is_run))
        (keys_parts (λ q. FallsTo R q c.1 (length c.1)) xs (e ∷ []) (subst (AllKeys (λ q. FallsTo R q c.1 (length c.1))) is last_falls)).0

    -- or all of them, with another value in the last pair
    pub again_are_chunks : (xs : List (K × V)) (k : K) (v w : V) → (run_at c.0 c.1 (length c.1)) ≡ xs ++ (k, v) ∷ [] → AreChunks R (given_back (with_run c.0 c.1 (length c.1) []).0 (with_run c.0 c.1 (length c.1) []).1 (xs ++ (k, w) ∷ []))
    again_are_chunks xs k v w is =
        let run = subst (IsRun R) is last_is_run in
        let parts = keys_parts (λ q. FallsTo R q c.1 (length c.1)) xs ((k, v) ∷ []) (subst (AllKeys (λ q. FallsTo R q c.1 (length c.1))) is last_falls) in
        chunks_back R o c.0 c.1 (xs ++ (k, w) ∷ []) chunks
        (record { sorted = sym (sorted_alike R (λ x y. Unit {0}) k v w xs) ∙ run.sorted; within = omega (arith, run.within, same_length xs k v w) })
        (keys_append (λ q. FallsTo R q c.1 (length c.1)) xs ((k, w) ∷ []) parts.0 (parts.1.0, tt))
      where
        same_length : (xs : List (K × V)) (k : K) (v w : V) → length (xs ++ (k, v) ∷ []) ≡ length (xs ++ (k, w) ∷ [])
        same_length [] k v w = refl
        same_length (x ∷ xs) k v w = ap suc (same_length xs k v w)

    -- what is given back after the last pair was joined, or joined in part
    pub given_chunks : (below : V → V → Type 0) (valid is_single : V → Type 0) (b : Bool) (first now left : List (K × V)) → OnTrue b (IsLastJoined R below first (run_at c.0 c.1 (length c.1)) now left) → OnFalse b (IsLastStopped R below valid is_single first (run_at c.0 c.1 (length c.1)) now left) → AreChunks R (given_back (with_run c.0 c.1 (length c.1) []).0 (with_run c.0 c.1 (length c.1) []).1 left)
    given_chunks below valid is_single b first now left joined stopped =
        by_answer b
        (λ l. back_are_chunks left (l.key, l.value) l.parts)
        (λ l. subst (λ r. AreChunks R (given_back (with_run c.0 c.1 (length c.1) []).0 (with_run c.0 c.1 (length c.1) []).1 r)) (sym l.left_parts) (again_are_chunks l.others l.key l.value l.rest l.parts))
        joined stopped

  module _ (below : V → V → Type 0) (valid is_single : V → Type 0) (c : List (K × V) × List (K × List (K × V))) (chunks : AreChunks R c) (first now left back : List (K × V)) (is : back ≡ all_pairs (given_back (with_run c.0 c.1 (length c.1) []).0 (with_run c.0 c.1 (length c.1) []).1 left)) where
    back_is : back ≡ all_pairs (with_run c.0 c.1 (length c.1) left)
    back_is = is ∙ back_pairs c.0 c.1 left

    pub last_joined : IsLastJoined R below first (run_at c.0 c.1 (length c.1)) now left → IsLastJoined R below first (all_pairs c) now back
    last_joined l = record {
      key = l.key;
      value = l.value;
      parts = all_end c chunks left ((l.key, l.value) ∷ []) l.parts ∙ ap (λ b. b ++ (l.key, l.value) ∷ []) (sym back_is);
      joined = l.joined;
    }

    pub last_stopped : IsLastStopped R below valid is_single first (run_at c.0 c.1 (length c.1)) now left → IsLastStopped R below valid is_single first (all_pairs c) now back
    last_stopped l = record {
      others = all_pairs (with_run c.0 c.1 (length c.1) l.others);
      key = l.key;
      value = l.value;
      rest = l.rest;
      parts = all_end c chunks l.others ((l.key, l.value) ∷ []) l.parts;
      left_parts = back_is ∙ ap (λ r. all_pairs (with_run c.0 c.1 (length c.1) r)) l.left_parts ∙ last_more c.0 c.1 l.others ((l.key, l.rest) ∷ []);
      partly = l.partly;
      not_least = l.not_least;
      well_formed = l.well_formed;
      single = l.single;
    }

module _ {K V : Type 0} (R : K → K → Ordering) (o : IsTotalOrder R) (valid : V → Type 0) (below : V → V → Type 0) (itself : (x : V) → below x x) (chain : (x y z : V) → below x y → below y z → below x z) (is_single : V → Type 0) (first other now left new rest : List (K × V)) where
  -- the last pair is joined
  pub more_joined : IsUnderWay R valid below is_single first other now left → IsMap R below valid new → IsLastJoined R below now left new rest → IsUnderWay R valid below is_single first other new rest
  more_joined u m l = under_way_more R o valid below itself chain is_single first other now rest l.key l.value (subst (IsUnderWay R valid below is_single first other now) l.parts u) new m l.joined

  -- the last pair is joined in part
  pub joined_in_part : IsUnderWay R valid below is_single first other now left → IsMap R below valid new → IsLastStopped R below valid is_single now left new rest → ArePairsJoined R below valid is_single false first other new rest
  joined_in_part u m l =
      let way = subst (IsUnderWay R valid below is_single first other now) l.parts u in
      record {
        map = m;
        other_map = subst (IsMap R below valid) (sym l.left_parts) (stopped_is_map R o valid below itself chain is_single first other now l.others l.key l.value way new (l.key, l.rest) refl l.partly l.not_least l.well_formed);
        ok = tt;
        refused = subst (IsPartialJoin (MapBelow R below) first other new) (sym l.left_parts) (stopped_is_join R o valid below itself chain is_single first other now l.others l.key l.value way new (l.key, l.rest) refl l.partly l.not_least);
        single = single_stopped R o valid below itself chain is_single first other now l.others l.key l.value way new l.single;
      }

-- fewer are left
pub last_smaller : {K V : Type 0} (R : K → K → Ordering) (below : V → V → Type 0) (now left new rest : List (K × V)) → IsLastJoined R below now left new rest → length rest < length left
last_smaller R below now left new rest l = omega (arith, ap length l.parts, length-append rest ((l.key, l.value) ∷ []))
