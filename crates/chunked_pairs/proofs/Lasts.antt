-- The last run, taken out and given back.
use Rattle.std.proofs.Common.{◌++◌, ◌<◌, ◌∷◌, ◌≡◌}
use Rattle.chunked_pairs.proofs.Prelude.{[], all_pairs, AllKeys, ap, arith, AreChunks, back_pairs, chunks_back, FallsTo, given_back, IfNone, IsRun, IsSome, IsTotalOrder, keys_fall, keys_parts, last_more, last_some, length, List, None, Option, Ordering, refl, run_at, run_is, run_part, Some, subst, sym, with_run, with_same, without_last, ℕ, ◌∙◌}

module _ {K V : Type 0} where
  pub back_none : (run : List (K × V)) (ms : List (K × List (K × V))) (new : List (K × V)) → length new ≡ 0 → given_back run ms new ≡ without_last run ms
  back_none run ms [] e = refl
  back_none run ms (x ∷ xs) e = absurd (omega (arith, e))

  pub back_some : (run : List (K × V)) (ms : List (K × List (K × V))) (new : List (K × V)) → 0 < length new → given_back run ms new ≡ with_run run ms (length ms) new
  back_some run ms [] lt = absurd (omega (arith, lt))
  back_some run ms (x ∷ xs) lt = refl

  -- all pairs without the last ones
  pub back_without : (run : List (K × V)) (ms : List (K × List (K × V))) (xs ys : List (K × V)) → run_at run ms (length ms) ≡ xs ++ ys → all_pairs (run, ms) ≡ all_pairs (given_back (with_run run ms (length ms) []).0 (with_run run ms (length ms) []).1 xs) ++ ys
  back_without run ms xs ys is =
      ap all_pairs (sym (with_same run ms (length ms))) ∙ ap (λ l. all_pairs (with_run run ms (length ms) l)) is
      ∙ last_more run ms xs ys ∙ ap (λ l. l ++ ys) (sym (back_pairs run ms xs))

  pub back_chunks : (R : K → K → Ordering) (o : IsTotalOrder R) (run : List (K × V)) (ms : List (K × List (K × V))) (xs ys : List (K × V)) → AreChunks R (run, ms) → run_at run ms (length ms) ≡ xs ++ ys → AreChunks R (given_back (with_run run ms (length ms) []).0 (with_run run ms (length ms) []).1 xs)
  back_chunks R o run ms xs ys c is =
      let last : IsRun R (xs ++ ys) = subst (IsRun R) is (run_is R o run ms (length ms) (omega arith) c.chained) in
      let falls = subst (AllKeys (λ q. FallsTo R q ms (length ms))) is (keys_fall R o run ms (length ms) (omega arith) c.chained) in
      chunks_back R o run ms xs c (run_part R o xs ys last) (keys_parts (λ q. FallsTo R q ms (length ms)) xs ys falls).0

-- where the last run has nothing to take, there are no pairs
pub nothing_taken : {K V A : Type 0} (R : K → K → Ordering) (o : IsTotalOrder R) (c : List (K × V) × List (K × List (K × V))) (r : Option A) (n : ℕ) → AreChunks R c → n ≡ length (run_at c.0 c.1 (length c.1)) → (0 < n → IsSome r) → IfNone r (all_pairs c ≡ [])
nothing_taken R o c (Some x) n chunks is some = tt
nothing_taken {K} {V} R o c None n chunks is some = none (all_pairs c) (λ lt. let t = some (let last = last_some R o c chunks lt in omega (arith, is, last)) in cc (t))
  where
    none : (xs : List (K × V)) → ¬ (0 < length xs) → xs ≡ []
    none [] h = refl
    none (x ∷ xs) h = absurd (h (omega arith))
