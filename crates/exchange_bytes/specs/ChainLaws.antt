-- A list that is written is read back, and what is read was written so, where that holds for each item.
use Rattle.std.proofs.Common.{◌≡◌, ℕ, zero, suc, List, [], ◌∷◌, ◌++◌, length, Result, Ok, refl, sym, ap, subst, ◌∙◌, append_assoc, arith}
use Rattle.byte_fields.specs.declared.faults.SpellingFault.{SpellingFault}
use Rattle.byte_fields.specs.Composing.{IsField}
use Rattle.byte_fields.specs.FieldLaws.{bind_ok, fields_their_bytes, ok_is, Takes-then}
use Rattle.byte_fields.specs.Laws.{IsBytes, Takes}
use Rattle.byte_fields.specs.Reading.{◌>>=◌, number_at}
use Rattle.byte_fields.specs.Spelling.{number}
use Rattle.store_bytes.specs.ListReading.{Reader}
use Rattle.exchange_bytes.specs.Chains.{AreChained, chain, chain_at, chained, chained_at, IsChain}

module _ {S A : Type 0} (at : S → Reader A) (text : S → A → List ℕ) (told : A → S) (Fits : S → A → Type 0)
    (IsTold : S → Type 0) (field : (s : S) → IsTold s → IsField (at s) (text s) (Fits s))
    (goes_on : (s : S) (x : A) → Fits s x → IsTold (told x)) where
  pub record AreRead (s : S) (n : ℕ) (bytes : List ℕ) (xs : List A) (rest : List ℕ) : Type 0 where
    pub taken : Takes bytes (chain text told s xs) rest
    pub count : length xs ≡ n
    pub each : IsChain Fits told s xs

  chain_takes : (n : ℕ) (s : S) (bytes : List ℕ) (x : List A × List ℕ) → IsTold s → IsBytes bytes
      → chain_at at told n s bytes ≡ Ok x → AreRead s n bytes x.0 x.1
  unfolding chain_at
  chain_takes zero s bytes x is fits e =
      subst (λ (y : List A × List ℕ). AreRead s 0 bytes y.0 y.1) (ok_is ([], bytes) x e) (record { taken = record { parts = refl; rest_fits = fits }; count = refl; each = tt })
  chain_takes (suc n) s bytes x is fits e =
      let a = bind_ok (at s bytes) (λ first. chain_at at told n (told first.0) first.1 >>= λ others. Ok (first.0 ∷ others.0, others.1)) x e in
      let b = bind_ok (chain_at at told n (told a.0.0) a.0.1) (λ others. Ok (a.0.0 ∷ others.0, others.1)) x a.2 in
      let first = (field s is).takes bytes a.0 fits a.1 in
      let second = chain_takes n (told a.0.0) a.0.1 b.0 (goes_on s a.0.0 first.1) first.0.rest_fits b.1 in
      let made : List A × List ℕ = (a.0.0 ∷ b.0.0, b.0.1) in
      subst (λ (y : List A × List ℕ). AreRead s (suc n) bytes y.0 y.1) (ok_is made x b.2) (record {
        taken = Takes-then bytes (text s a.0.0) a.0.1 (chain text told (told a.0.0) b.0.0) b.0.1 first.0 second.taken;
        count = ap suc second.count;
        each = (first.1, second.each);
      })

  chain_again : (s : S) (xs : List A) (rest : List ℕ) → IsTold s → IsChain Fits told s xs
      → chain_at at told (length xs) s (chain text told s xs ++ rest) ≡ Ok (xs, rest)
  unfolding chain_at
  chain_again s [] rest is each = refl
  chain_again s (x ∷ xs) rest is each =
      let regrouped : chain text told s (x ∷ xs) ++ rest ≡ text s x ++ (chain text told (told x) xs ++ rest) = append_assoc (text s x) (chain text told (told x) xs) rest in
      ap (chain_at at told (suc (length xs)) s) regrouped
      ∙ rw ((field s is).again x (chain text told (told x) xs ++ rest) each.0, chain_again (told x) xs rest (goes_on s x each.0) each.1) refl

  chained_takes : (s : S) → IsTold s → (bytes : List ℕ) (x : List A × List ℕ) → IsBytes bytes
      → chained_at at told s bytes ≡ Ok x → Takes bytes (chained text told s x.0) x.1 × AreChained Fits told s x.0
  unfolding chained_at
  chained_takes s is bytes x fits e =
      let a = bind_ok (number_at bytes) (λ n. chain_at at told n.0 s n.1) x e in
      let first = fields_their_bytes.number_taken bytes a.0.0 a.0.1 fits a.1 in
      let second = chain_takes a.0.0 s a.0.1 x is first.0.rest_fits a.2 in (
        subst (λ (k : ℕ). Takes bytes (number k ++ chain text told s x.0) x.1) (sym second.count) (Takes-then bytes (number a.0.0) a.0.1 (chain text told s x.0) x.1 first.0 second.taken),
        record { count = omega (arith, second.count, first.1); each = second.each },
      )

  chained_again : (s : S) → IsTold s → (xs : List A) (rest : List ℕ) → AreChained Fits told s xs
      → chained_at at told s (chained text told s xs ++ rest) ≡ Ok (xs, rest)
  unfolding chained_at
  chained_again s is xs rest are =
      ap (λ (l : List ℕ). number_at l >>= λ count. chain_at at told count.0 s count.1) (append_assoc (number (length xs)) (chain text told s xs) rest)
      ∙ ap (λ (r : Result (ℕ × List ℕ) SpellingFault). r >>= λ count. chain_at at told count.0 s count.1) (fields_their_bytes.number_back (length xs) (chain text told s xs ++ rest) are.count)
      ∙ chain_again s xs rest is are.each

  pub chained_field : (s : S) → IsTold s → IsField (chained_at at told s) (chained text told s) (AreChained Fits told s)
  chained_field s is = record { takes = chained_takes s is; again = chained_again s is }
