-- Items that a loop reads one by one.
use Rattle.std.proofs.Common.{◌≡◌, ◌<◌, ◌≤◌, ◌+◌, ℕ, zero, suc, drop, get_or, length, subst, List, [], ◌∷◌, ◌++◌, Option, Some, None, Result, Ok, Err, refl, sym, ap, ◌∙◌, append_assoc, arith}
use Rattle.std.proofs.lemmas.List.{append-nil, drop_all}
use Rattle.std.specs.declared.cmp.Ordering.{Ordering}
use Rattle.byte_fields.specs.declared.faults.SpellingFault.{SpellingFault}
use Rattle.byte_fields.specs.declared.faults.DecodeFault.{DecodeFault}
use Rattle.byte_fields.specs.declared.faults.DecodeFault.TheVariants as decode
use Rattle.byte_fields.specs.Reading.{◌>>=◌, Fails, number_at}
use Rattle.store_bytes.specs.ListReading.{list_at, pair_above_at, pairs_above_at, Reader}
use Rattle.exchange_bytes.specs.Chains.{chain, chain_at, chained_at, IsChain}

-- ---- what is made of the items

module _ {S A B : Type 0} (at : S → Reader A) (told : A → S) (all : B → List A → B) (grow : B → A → B) (grows : (b : B) (x : A) (xs : List A) → all b (x ∷ xs) ≡ all (grow b x) xs) where
  -- what these items make of it, and the bytes behind them
  abbrev made_of : B → List A × List ℕ → Result (B × List ℕ) SpellingFault
  made_of b x = Ok (all b x.0, x.1)

  first_made : (b : B) (x : A) (read : Result (List A × List ℕ) SpellingFault) → ((read >>= λ others. Ok (x ∷ others.0, others.1)) >>= made_of b) ≡ (read >>= made_of (grow b x))
  first_made b x (Ok others) = ap (λ (c : B). Ok (c, others.1)) (grows b x others.0)
  first_made b x (Err d) = refl

  pub one_made : (total : Result (B × List ℕ) SpellingFault) (b c : B) (n m : ℕ) (s t : S) (bytes rest : List ℕ) (x : A) → n ≡ suc m → total ≡ (chain_at at told n s bytes >>= made_of b) → at s bytes ≡ Ok (x, rest)
      → c ≡ grow b x → t ≡ told x → total ≡ (chain_at at told m t rest >>= made_of c)
  unfolding chain_at
  one_made total b c n m s t bytes rest x one is e grown now =
      is
      ∙ ap (λ (k : ℕ). chain_at at told k s bytes >>= made_of b) one
      ∙ ap (λ (r : Result (A × List ℕ) SpellingFault). (r >>= λ first. chain_at at told m (told first.0) first.1 >>= λ others. Ok (first.0 ∷ others.0, others.1)) >>= made_of b) e
      ∙ first_made b x (chain_at at told m (told x) rest)
      ∙ ap (λ (d : B). chain_at at told m (told x) rest >>= made_of d) (sym grown)
      ∙ ap (λ (u : S). chain_at at told m u rest >>= made_of c) (sym now)

  pub none_made : (total : Result (B × List ℕ) SpellingFault) (b : B) (n : ℕ) (s : S) (bytes : List ℕ) (e : DecodeFault) → 0 < n → total ≡ (chain_at at told n s bytes >>= made_of b) → Fails e (at s bytes) → Fails e total
  unfolding chain_at
  none_made total b n s bytes decode.Memory some is e = tt
  none_made total b zero s bytes (decode.Fault d) some is e = absurd (omega arith)
  none_made total b (suc n) s bytes (decode.Fault d) some is e =
      is ∙ ap (λ (r : Result (A × List ℕ) SpellingFault). (r >>= λ first. chain_at at told n (told first.0) first.1 >>= λ others. Ok (first.0 ∷ others.0, others.1)) >>= made_of b) e

  pub all_made : ((b : B) → all b [] ≡ b) → (total : Result (B × List ℕ) SpellingFault) (b : B) (n : ℕ) (s : S) (bytes : List ℕ) → n ≡ 0 → total ≡ (chain_at at told n s bytes >>= made_of b) → total ≡ Ok (b, bytes)
  unfolding chain_at
  all_made nothing total b n s bytes none is =
      is ∙ ap (λ (k : ℕ). chain_at at told k s bytes >>= made_of b) none ∙ ap (λ (c : B). Ok (c, bytes)) (nothing b)

-- ---- the items themselves

module _ {S A : Type 0} (at : S → Reader A) (told : A → S) where
  -- these items came, and so many are left
  abbrev pub ArePart : Result (List A × List ℕ) SpellingFault → List A → ℕ → S → List ℕ → Type 0
  ArePart total items n s bytes = total ≡ (chain_at at told n s bytes >>= λ x. Ok (items ++ x.0, x.1))

  pushed : (items : List A) (x : A) (xs : List A) → items ++ (x ∷ xs) ≡ (items ++ x ∷ []) ++ xs
  pushed items x xs = sym (append_assoc items (x ∷ []) xs)

  pub one_read : (total : Result (List A × List ℕ) SpellingFault) (items now : List A) (n m : ℕ) (s t : S) (bytes rest : List ℕ) (x : A) → n ≡ suc m → ArePart total items n s bytes → at s bytes ≡ Ok (x, rest) → now ≡ items ++ x ∷ []
      → t ≡ told x → ArePart total now m t rest
  one_read = one_made at told (λ items xs. items ++ xs) (λ items x. items ++ x ∷ []) pushed

  pub none_read : (total : Result (List A × List ℕ) SpellingFault) (items : List A) (n : ℕ) (s : S) (bytes : List ℕ) (e : DecodeFault) → 0 < n → ArePart total items n s bytes → Fails e (at s bytes) → Fails e total
  none_read = none_made at told (λ items xs. items ++ xs) (λ items x. items ++ x ∷ []) pushed

  pub all_read : (total : Result (List A × List ℕ) SpellingFault) (items : List A) (n : ℕ) (s : S) (bytes : List ℕ) → n ≡ 0 → ArePart total items n s bytes → total ≡ Ok (items, bytes)
  all_read = all_made at told (λ items xs. items ++ xs) (λ items x. items ++ x ∷ []) pushed append-nil

  as_read : (r : Result (List A × List ℕ) SpellingFault) → r ≡ (r >>= λ x. Ok ([] ++ x.0, x.1))
  as_read (Ok x) = refl
  as_read (Err d) = refl

  -- how many there are was read
  pub reading_begins : (s : S) (bytes inner : List ℕ) (count n : ℕ) → n ≡ count → number_at bytes ≡ Ok (count, inner) → ArePart (chained_at at told s bytes) [] n s inner
  unfolding chained_at
  reading_begins s bytes inner count n all e =
      ap (λ (r : Result (ℕ × List ℕ) SpellingFault). r >>= λ n. chain_at at told n.0 s n.1) e
      ∙ ap (λ (k : ℕ). chain_at at told k s inner) (sym all)
      ∙ as_read (chain_at at told n s inner)

  -- it wasn't
  pub reading_fails : (s : S) (bytes : List ℕ) (e : DecodeFault) → Fails e (number_at bytes) → Fails e (chained_at at told s bytes)
  unfolding chained_at
  reading_fails s bytes decode.Memory e = tt
  reading_fails s bytes (decode.Fault d) e = ap (λ (r : Result (ℕ × List ℕ) SpellingFault). r >>= λ n. chain_at at told n.0 s n.1) e

-- ---- pairs whose keys ascend are such items

module _ {K V : Type 0} (cmp : K → K → Ordering) (f : Reader K) (g : Reader V) where
  abbrev pub key_told : K × V → Option K
  key_told p = Some p.0

  abbrev as_first : K × V → List (K × V) × List ℕ → Result (List (K × V) × List ℕ) SpellingFault
  as_first p others = Ok (p ∷ others.0, others.1)

  pub pairs_chain : (n : ℕ) (last : Option K) (bytes : List ℕ) → pairs_above_at cmp f g n last bytes ≡ chain_at (pair_above_at cmp f g) key_told n last bytes
  unfolding pairs_above_at chain_at
  pairs_chain zero last bytes = refl
  pairs_chain (suc n) last bytes = by (λ k rest. pairs_chain n k rest) (pair_above_at cmp f g last bytes)
    where
      by : ((k : Option K) (rest : List ℕ) → pairs_above_at cmp f g n k rest ≡ chain_at (pair_above_at cmp f g) key_told n k rest) → (r : Result ((K × V) × List ℕ) SpellingFault)
          → (r >>= λ first. pairs_above_at cmp f g n (Some first.0.0) first.1 >>= as_first first.0) ≡ (r >>= λ first. chain_at (pair_above_at cmp f g) key_told n (Some first.0.0) first.1 >>= as_first first.0)
      by again (Ok first) = ap (λ (r : Result (List (K × V) × List ℕ) SpellingFault). r >>= as_first first.0) (again (Some first.0.0) first.1)
      by again (Err d) = refl

  pub list_chained : (bytes : List ℕ) → list_at cmp f g bytes ≡ chained_at (pair_above_at cmp f g) key_told None bytes
  unfolding list_at chained_at
  list_chained bytes = by (number_at bytes)
    where
      by : (r : Result (ℕ × List ℕ) SpellingFault) → (r >>= λ n. pairs_above_at cmp f g n.0 None n.1) ≡ (r >>= λ n. chain_at (pair_above_at cmp f g) key_told n.0 None n.1)
      by (Ok n) = pairs_chain n.0 None n.1
      by (Err d) = refl

  -- how many there are was read
  pub list_begins : (bytes inner : List ℕ) (count n : ℕ) → n ≡ count → number_at bytes ≡ Ok (count, inner) → (items : List (K × V)) → items ≡ [] → ArePart (pair_above_at cmp f g) key_told (list_at cmp f g bytes) items n None inner
  list_begins bytes inner count n all e items none =
      list_chained bytes
      ∙ reading_begins (pair_above_at cmp f g) key_told None bytes inner count n all e
      ∙ ap (λ (l : List (K × V)). chain_at (pair_above_at cmp f g) key_told n None inner >>= λ x. Ok (l ++ x.0, x.1)) (sym none)

  -- it wasn't
  pub list_fails : (bytes : List ℕ) (e : DecodeFault) → Fails e (number_at bytes) → Fails e (list_at cmp f g bytes)
  list_fails bytes decode.Memory e = tt
  list_fails bytes (decode.Fault d) e = list_chained bytes ∙ reading_fails (pair_above_at cmp f g) key_told None bytes (decode.Fault d) e

-- ---- items that a loop writes one by one

pub item_at : {A : Type 0} (xs : List A) (i : ℕ) (x : A) → i < length xs → x ≡ get_or xs i x → drop i xs ≡ x ∷ drop (i + 1) xs
item_at [] i x lt e = absurd (omega arith)
item_at {A = A} (y ∷ xs) zero x lt e = ap (λ (z : A). z ∷ xs) (sym e)
item_at {A = A} (y ∷ xs) (suc i) x lt e = let next : suc i + 1 ≡ suc (i + 1) = omega arith in item_at xs i x (omega arith) e ∙ ap (λ (k : ℕ). x ∷ drop k (y ∷ xs)) (sym next)

module _ {S A : Type 0} (text : S → A → List ℕ) (told : A → S) (Fits : S → A → Type 0) where
  -- these bytes and the items from this one on are all, and all fit if those do
  pub record AreWritten (all out : List ℕ) (s begin : S) (xs : List A) (i : ℕ) : Type 0 where
    pub text_is : out ++ chain text told s (drop i xs) ≡ all
    pub fit : IsChain Fits told s (drop i xs) → IsChain Fits told begin xs

  pub one_written : (all out : List ℕ) (s begin : S) (xs : List A) (i : ℕ) (x : A) → i < length xs → x ≡ get_or xs i x → Fits s x → AreWritten all out s begin xs i → AreWritten all (out ++ text s x) (told x) begin xs (i + 1)
  one_written all out s begin xs i x lt e fits are =
      let next = item_at xs i x lt e in
      record {
        text_is = append_assoc out (text s x) (chain text told (told x) (drop (i + 1) xs)) ∙ ap (λ (l : List A). out ++ chain text told s l) (sym next) ∙ are.text_is;
        fit = λ rest. are.fit (subst (λ (l : List A). IsChain Fits told s l) (sym next) (fits, rest));
      }

  pub all_written : (all out : List ℕ) (s begin : S) (xs : List A) (i : ℕ) → length xs ≤ i → AreWritten all out s begin xs i → (out ≡ all) × IsChain Fits told begin xs
  all_written all out s begin xs i end are =
      let none : drop i xs ≡ [] = drop_all i xs end in
      (sym (append-nil out) ∙ ap (λ (l : List A). out ++ chain text told s l) (sym none) ∙ are.text_is, are.fit (subst (λ (l : List A). IsChain Fits told s l) (sym none) tt))
