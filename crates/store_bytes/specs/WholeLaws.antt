-- The two laws: what is read is spelled so, and what is spelled so is read.
use Rattle.std.proofs.Common.{◌≡◌, ℕ, zero, suc, ◌+◌, ◌-◌, ◌≤◌, Bool, true, false, cond, ltb, eqb, List, [], ◌∷◌, ◌++◌, length, get_or, take, drop, Option, Some, None, Result, Ok, Err, refl, sym, ap, subst, ◌∙◌, ⊎_elim, append_assoc, arith}
use Rattle.std.specs.Prelude.{not, ◌&&◌, codes}
use Rattle.std.specs.List.{flat_map, AllByRecursion}
use Rattle.std.specs.Str.{bytes_eq}
use Rattle.std.specs.Ordering.{is_lt}
use Rattle.std.specs.Cmp.Lexicographic.{same_text}
use Rattle.std.specs.FinMap.Entries.{is_sorted, below_all}
use Rattle.std.specs.declared.cmp.Ordering.{Ordering}
use Rattle.std.specs.Cmp.{IsTotalOrder}
use Rattle.byte_fields.specs.Composing.{IsField, two, passed}
use Rattle.std.proofs.Math.Seq.{take-suc}
use Rattle.std.proofs.lemmas.Bool.{cases_lt, eqb-true, eq-eqb, ltb-false, ltb-true, lt-ltb, le-ltb, and_parts}
use Rattle.std.proofs.lemmas.List.{append-nil, nil_from_length, take-append-drop, take_at, drop_at, length-append, length-take, get_or-take, get_or-drop, get_or_past}
use Rattle.std.proofs.lemmas.List.Concat.{flat_map-cons}
use Rattle.sha2.specs.Sha256.{sha256}
use Rattle.sha2.proofs.Facts256.{length-sha256}
use Rattle.list_laws.specs.Orderings.{is_less}
use Rattle.byte_fields.specs.declared.faults.SpellingFault.{SpellingFault}
use Rattle.byte_fields.specs.declared.faults.SpellingFault.TheVariants as fault
use Rattle.byte_fields.specs.Spelling.{number}
use Rattle.byte_fields.specs.Reading.{◌>>=◌, number_at}
use Rattle.byte_fields.specs.Laws.{IsBytes, Takes}
use Rattle.byte_fields.specs.FieldLaws.{bind_ok, guard_ok, chosen, ok_is, Takes-then, fields_their_bytes}
use Rattle.store_bytes.specs.ListSpelling.{pair, pairs, head, spelling, ArePairs, AreGroup}
use Rattle.store_bytes.specs.ListReading.{Reader, is_above, key_above_at, pair_above_at, pairs_above_at, list_at, group_at, pairs_of, opened, all_of}

both : (a b : Bool) → a ≡ true → b ≡ true → (a && b) ≡ true
both true b p q = q
both false b p q = absurd cc

-- ---- head and checksum

IsBytes-drop : (n : ℕ) (bytes : List ℕ) → IsBytes bytes → IsBytes (drop n bytes)
IsBytes-drop n bytes h i = rw get_or-drop (h (n + i))

IsBytes-take : (n : ℕ) (bytes : List ℕ) → IsBytes bytes → IsBytes (take n bytes)
IsBytes-take n bytes h i =
    ⊎_elim
    (λ lt. rw (get_or-take n bytes i 0 lt) (h i))
    (λ le. rw (get_or_past (take n bytes) i 0 (omega (arith, length-take n bytes))) (omega arith))
    (cases_lt i n)

was_not : (b : Bool) → not b ≡ false → b ≡ true
was_not true e = refl
was_not false e = absurd cc

same_bytes : (xs ys : List ℕ) → bytes_eq xs ys ≡ true → xs ≡ ys
same_bytes xs ys e = same_text xs ys (sym e)

-- the first six bytes
prefix_six : (bytes : List ℕ) (kind : ℕ) → 38 ≤ length bytes → take 4 bytes ≡ codes "UCRS" → get_or bytes 4 0 ≡ 1
    → get_or bytes 5 0 ≡ kind → take 6 bytes ≡ head kind
prefix_six bytes kind long magic format is =
    take-suc bytes 5 0 (omega arith) ∙ ap (λ (l : List ℕ). l ++ get_or bytes 5 0 ∷ []) (take-suc bytes 4 0 (omega arith))
    ∙ ap (λ (l : List ℕ). (l ++ get_or bytes 4 0 ∷ []) ++ get_or bytes 5 0 ∷ []) magic
    ∙ ap (λ n. (codes "UCRS" ++ n ∷ []) ++ get_or bytes 5 0 ∷ []) format
    ∙ ap (λ n. (codes "UCRS" ++ 1 ∷ []) ++ n ∷ []) is

take_take : (k n : ℕ) (bytes : List ℕ) → k ≤ n → take k (take n bytes) ≡ take k bytes
take_take zero n bytes le = refl
take_take (suc k) zero bytes le = absurd (omega arith)
take_take (suc k) (suc n) [] le = refl
take_take (suc k) (suc n) (b ∷ bytes) le = ap (λ (l : List ℕ). b ∷ l) (take_take k n bytes (omega arith))

pub opened_takes : (kind : ℕ) (bytes inner : List ℕ) → IsBytes bytes → opened kind bytes ≡ Ok inner
    → (bytes ≡ (head kind ++ inner) ++ sha256 (head kind ++ inner)) × IsBytes inner
unfolding opened
opened_takes kind bytes inner fits e =
    let prefix = take (length bytes - 32) bytes in
    let sum = drop (length bytes - 32) bytes in
    let last : Result (List ℕ) SpellingFault = Ok (drop 6 prefix) in
    let check : Result (List ℕ) SpellingFault = cond (not (bytes_eq (sha256 prefix) sum)) (Err fault.Checksum) last in
    let kinds : Result (List ℕ) SpellingFault = cond (not (eqb (get_or bytes 5 0) kind)) (Err fault.Kind) check in
    let formats : Result (List ℕ) SpellingFault = cond (not (eqb (get_or bytes 4 0) 1)) (Err fault.Format) kinds in
    let magics : Result (List ℕ) SpellingFault = cond (not (bytes_eq (take 4 bytes) (codes "UCRS"))) (Err fault.Magic) formats in
    let a = guard_ok (ltb (length bytes) 38) fault.Truncated magics inner e in
    let b = guard_ok (not (bytes_eq (take 4 bytes) (codes "UCRS"))) fault.Magic formats inner a.1 in
    let c = guard_ok (not (eqb (get_or bytes 4 0) 1)) fault.Format kinds inner b.1 in
    let d = guard_ok (not (eqb (get_or bytes 5 0) kind)) fault.Kind check inner c.1 in
    let f = guard_ok (not (bytes_eq (sha256 prefix) sum)) fault.Checksum last inner d.1 in
    let long : 38 ≤ length bytes = ltb-false _ _ a.0 in
    let six = prefix_six bytes kind long (same_bytes _ _ (was_not _ b.0)) (eqb-true _ _ (was_not _ c.0)) (eqb-true _ _ (was_not _ d.0)) in
    let is : drop 6 prefix ≡ inner = ok_is _ _ f.1 in
    let begun : prefix ≡ head kind ++ inner = sym (take-append-drop 6 prefix) ∙ ap (λ (l : List ℕ). l ++ drop 6 prefix) (take_take 6 (length bytes - 32) bytes (omega arith) ∙ six) ∙ ap (λ (l : List ℕ). head kind ++ l) is in
    let summed : sha256 prefix ≡ sum = same_bytes _ _ (was_not _ f.0) in (
      sym (take-append-drop (length bytes - 32) bytes) ∙ ap (λ (l : List ℕ). prefix ++ l) (sym summed) ∙ ap (λ (l : List ℕ). l ++ sha256 l) begun,
      subst IsBytes is (IsBytes-drop 6 prefix (IsBytes-take (length bytes - 32) bytes fits)),
    )

same_itself : (xs : List ℕ) → bytes_eq xs xs ≡ true
same_itself [] = refl
same_itself (x ∷ xs) = both (eqb x x) (bytes_eq xs xs) (eq-eqb x x refl) (same_itself xs)

pub opened_again : (kind : ℕ) (inner : List ℕ) → opened kind ((head kind ++ inner) ++ sha256 (head kind ++ inner)) ≡ Ok inner
unfolding opened
opened_again kind inner =
    let prefix = head kind ++ inner in
    let sum = sha256 prefix in
    let len : length (prefix ++ sum) ≡ 38 + length inner = omega (arith, length-append prefix sum, length-sha256 prefix) in
    let before : length (prefix ++ sum) - 32 ≡ length prefix = omega (arith, len) in
    let long : ltb (length (prefix ++ sum)) 38 ≡ false = le-ltb _ _ (omega (arith, len)) in
    let taken : take (length (prefix ++ sum) - 32) (prefix ++ sum) ≡ prefix = ap (λ k. take k (prefix ++ sum)) before ∙ take_at prefix sum (length prefix) refl in
    let dropped : drop (length (prefix ++ sum) - 32) (prefix ++ sum) ≡ sum = ap (λ k. drop k (prefix ++ sum)) before ∙ drop_at prefix sum (length prefix) refl in
    let same : bytes_eq (sha256 prefix) sum ≡ true = same_itself sum in
    let kinds : eqb kind kind ≡ true = eq-eqb kind kind refl in
    rw (long, kinds, taken, dropped, same) refl

module _ {K V : Type 0} (cmp : K → K → Ordering) (total : IsTotalOrder cmp) (f : Reader K) (s : K → List ℕ)
    (P : K → Type 0) (g : Reader V) (t : V → List ℕ) (Q : V → Type 0) (F : IsField f s P) (G : IsField g t Q) where
  -- ---- order

  -- each place is above the one before it, the first above this one
  abbrev ascends : Option K → List (K × V) → Bool
  ascends last [] = true
  ascends last (p ∷ ps) = is_above cmp last p.0 && ascends (Some p.0) ps

  chained : (q p r : K) → is_lt (cmp q p) ≡ true → is_lt (cmp p r) ≡ true → is_lt (cmp q r) ≡ true
  chained q p r a b = ap is_lt (total.trans q p r (is_less _ a) (is_less _ b))

  above_all : (q p : K) (ps : List (K × V)) → is_lt (cmp q p) ≡ true → below_all cmp p ps ≡ true → below_all cmp q ps ≡ true
  above_all q p [] a b = refl
  above_all q p (r ∷ ps) a b =
      let parts = and_parts (is_lt (cmp p r.0)) (below_all cmp p ps) b in
      both (is_lt (cmp q r.0)) (below_all cmp q ps) (chained q p r.0 a parts.0) (above_all q p ps a parts.1)

  sorted_above : (q : K) (ps : List (K × V)) → ascends (Some q) ps ≡ true → (below_all cmp q ps ≡ true) × (is_sorted cmp ps ≡ true)
  sorted_above q [] r = (refl, refl)
  sorted_above q (p ∷ ps) r =
      let parts = and_parts (is_lt (cmp q p.0)) (ascends (Some p.0) ps) r in
      let rest = sorted_above p.0 ps parts.1 in
      (both (is_lt (cmp q p.0)) (below_all cmp q ps) parts.0 (above_all q p.0 ps parts.0 rest.0), both (below_all cmp p.0 ps) (is_sorted cmp ps) rest.0 rest.1)

  sorted_from : (ps : List (K × V)) → ascends None ps ≡ true → is_sorted cmp ps ≡ true
  sorted_from [] r = refl
  sorted_from (p ∷ ps) r = let rest = sorted_above p.0 ps r in both (below_all cmp p.0 ps) (is_sorted cmp ps) rest.0 rest.1

  ascends_above : (q : K) (ps : List (K × V)) → below_all cmp q ps ≡ true → is_sorted cmp ps ≡ true → ascends (Some q) ps ≡ true
  ascends_above q [] b s = refl
  ascends_above q (p ∷ ps) b s =
      let first = and_parts (is_lt (cmp q p.0)) (below_all cmp q ps) b in
      let parts = and_parts (below_all cmp p.0 ps) (is_sorted cmp ps) s in
      both (is_lt (cmp q p.0)) (ascends (Some p.0) ps) first.0 (ascends_above p.0 ps parts.0 parts.1)

  ascends_from : (ps : List (K × V)) → is_sorted cmp ps ≡ true → ascends None ps ≡ true
  ascends_from [] s = refl
  ascends_from (p ∷ ps) s = let parts = and_parts (below_all cmp p.0 ps) (is_sorted cmp ps) s in ascends_above p.0 ps parts.0 parts.1

  abbrev Fits : K × V → Type 0
  Fits p = P p.0 × Q p.1

  -- ---- one pair

  abbrev IsAboveLast : Option K → K → Type 0
  IsAboveLast last k = P k × (is_above cmp last k ≡ true)

  key_above_field : (last : Option K) → IsField (key_above_at cmp f last) s (IsAboveLast last)
  unfolding key_above_at
  key_above_field last = passed f s P (IsAboveLast last) (is_above cmp last) fault.Order F (record { fits = λ k p above. (p, above); plain = λ k h. h.0; passes = λ k h. h.1 })

  abbrev FitsAbove : Option K → K × V → Type 0
  FitsAbove last p = IsAboveLast last p.0 × Q p.1

  pair_above_field : (last : Option K) → IsField (pair_above_at cmp f g last) (pair s t) (FitsAbove last)
  unfolding pair_above_at
  pair_above_field last = two (key_above_at cmp f last) s (IsAboveLast last) g t Q (pair s t) (FitsAbove last) (λ k v. (k, v)) (key_above_field last) G
      (record {
        first = λ p. p.0;
        second = λ p. p.1;
        whole = λ p. refl;
        spelled = λ a b. refl;
        fits = λ a b p q. (p, q);
        first_fits = λ p r. r.0;
        second_fits = λ p r. r.1;
      })

  pair_above_takes : (last : Option K) (bytes : List ℕ) (x : (K × V) × List ℕ) → IsBytes bytes
      → pair_above_at cmp f g last bytes ≡ Ok x
      → (Takes bytes (pair s t x.0) x.1 × Fits x.0) × (is_above cmp last x.0.0 ≡ true)
  pair_above_takes last bytes x fits e = let h = (pair_above_field last).takes bytes x fits e in ((h.0, (h.1.0.0, h.1.1)), h.1.0.1)

  pair_above_again : (last : Option K) (p : K × V) (rest : List ℕ) → Fits p → is_above cmp last p.0 ≡ true
      → pair_above_at cmp f g last (pair s t p ++ rest) ≡ Ok (p, rest)
  pair_above_again last p rest fits above = (pair_above_field last).again p rest ((fits.0, above), fits.1)

  -- ---- lists

  pub record AreRead (last : Option K) (n : ℕ) (bytes : List ℕ) (ps : List (K × V)) (rest : List ℕ) : Type 0 where
    pub taken : Takes bytes (flat_map (pair s t) ps) rest
    pub count : length ps ≡ n
    pub each : AllByRecursion Fits ps
    pub ascending : ascends last ps ≡ true

  pairs_take : (n : ℕ) (last : Option K) (bytes : List ℕ) (x : List (K × V) × List ℕ) → IsBytes bytes
      → pairs_above_at cmp f g n last bytes ≡ Ok x → AreRead last n bytes x.0 x.1
  unfolding pairs_above_at
  pairs_take zero last bytes x fits e =
      subst (λ (y : List (K × V) × List ℕ). AreRead last 0 bytes y.0 y.1) (ok_is ([], bytes) x e) (record { taken = record { parts = refl; rest_fits = fits }; count = refl; each = tt; ascending = refl })
  pairs_take (suc n) last bytes x fits e =
      let a = bind_ok (pair_above_at cmp f g last bytes) (λ first. pairs_above_at cmp f g n (Some first.0.0) first.1 >>= λ others. Ok (first.0 ∷ others.0, others.1)) x e in
      let b = bind_ok (pairs_above_at cmp f g n (Some a.0.0.0) a.0.1) (λ others. Ok (a.0.0 ∷ others.0, others.1)) x a.2 in
      let first = pair_above_takes last bytes a.0 fits a.1 in
      let second = pairs_take n (Some a.0.0.0) a.0.1 b.0 first.0.0.rest_fits b.1 in
      let made : List (K × V) × List ℕ = (a.0.0 ∷ b.0.0, b.0.1) in
      subst (λ (y : List (K × V) × List ℕ). AreRead last (suc n) bytes y.0 y.1) (ok_is made x b.2) (record {
        taken = rw flat_map-cons (Takes-then bytes (pair s t a.0.0) a.0.1 (flat_map (pair s t) b.0.0) b.0.1 first.0.0 second.taken);
        count = ap suc second.count;
        each = (first.0.1, second.each);
        ascending = both (is_above cmp last a.0.0.0) (ascends (Some a.0.0.0) b.0.0) first.1 second.ascending;
      })

  pairs_again : (last : Option K) (ps : List (K × V)) (rest : List ℕ) → AllByRecursion Fits ps → ascends last ps ≡ true
      → pairs_above_at cmp f g (length ps) last (flat_map (pair s t) ps ++ rest) ≡ Ok (ps, rest)
  unfolding pairs_above_at
  pairs_again last [] rest fits ascending = refl
  pairs_again last (p ∷ ps) rest fits ascending =
      let parts = and_parts (is_above cmp last p.0) (ascends (Some p.0) ps) ascending in
      let regrouped : flat_map (pair s t) (p ∷ ps) ++ rest ≡ pair s t p ++ (flat_map (pair s t) ps ++ rest) = ap (λ (x : List ℕ). x ++ rest) (flat_map-cons (pair s t) p ps) ∙ append_assoc (pair s t p) (flat_map (pair s t) ps) rest in
      ap (pairs_above_at cmp f g (suc (length ps)) last) regrouped ∙ rw (pair_above_again last p (flat_map (pair s t) ps ++ rest) fits.0 parts.0, pairs_again (Some p.0) ps rest fits.1 parts.1) refl

  list_takes : (bytes : List ℕ) (ps : List (K × V)) → IsBytes bytes → pairs_of cmp f g bytes ≡ Ok ps
      → ArePairs cmp P Q ps × (bytes ≡ pairs s t ps)
  unfolding pairs_of
  list_takes bytes ps fits e =
      let a = bind_ok (number_at bytes) (λ n. pairs_above_at cmp f g n.0 None n.1 >>= λ x. cond (eqb (length x.1) 0) (Ok x.0) (Err fault.Trailing)) ps e in
      let b = bind_ok (pairs_above_at cmp f g a.0.0 None a.0.1) (λ x. cond (eqb (length x.1) 0) (Ok x.0) (Err fault.Trailing)) ps a.2 in
      let first = fields_their_bytes.number_taken bytes a.0.0 a.0.1 fits a.1 in
      let second = pairs_take a.0.0 None a.0.1 b.0 first.0.rest_fits b.1 in
      ⊎_elim
      (λ ended.
      let nothing : b.0.1 ≡ [] = nil_from_length b.0.1 (eqb-true _ _ ended.0) in
      let parts = (Takes-then bytes (number a.0.0) a.0.1 (flat_map (pair s t) b.0.0) b.0.1 first.0 second.taken).parts in
      let whole : bytes ≡ pairs s t b.0.0 = parts ∙ ap (λ (r : List ℕ). (number a.0.0 ++ flat_map (pair s t) b.0.0) ++ r) nothing ∙ append-nil (number a.0.0 ++ flat_map (pair s t) b.0.0) ∙ ap (λ (k : ℕ). number k ++ flat_map (pair s t) b.0.0) (sym second.count) in
      subst (λ (qs : List (K × V)). ArePairs cmp P Q qs × (bytes ≡ pairs s t qs)) (ok_is b.0.0 ps ended.1) (record { count = omega (arith, second.count, first.1); each = second.each; ascending = sorted_from b.0.0 second.ascending }, whole))
      (λ bad. let wrong = bad.1 in absurd cc)
      (chosen (eqb (length b.0.1) 0) (Ok b.0.0) (Err fault.Trailing) (Ok ps) b.2)

  list_again : (ps : List (K × V)) → ArePairs cmp P Q ps → pairs_of cmp f g (pairs s t ps) ≡ Ok ps
  unfolding pairs_of
  list_again ps are =
      let rest : pairs_above_at cmp f g (length ps) None (flat_map (pair s t) ps) ≡ Ok (ps, []) = ap (pairs_above_at cmp f g (length ps) None) (sym (append-nil (flat_map (pair s t) ps))) ∙ pairs_again None ps [] are.each (ascends_from ps are.ascending) in
      rw (fields_their_bytes.number_back (length ps) (flat_map (pair s t) ps) are.count, rest) refl

  -- ---- lists inside of others

  part_takes : (bytes : List ℕ) (x : List (K × V) × List ℕ) → IsBytes bytes → list_at cmp f g bytes ≡ Ok x
      → Takes bytes (pairs s t x.0) x.1 × ArePairs cmp P Q x.0
  unfolding list_at
  part_takes bytes x fits e =
      let a = bind_ok (number_at bytes) (λ n. pairs_above_at cmp f g n.0 None n.1) x e in
      let first = fields_their_bytes.number_taken bytes a.0.0 a.0.1 fits a.1 in
      let second = pairs_take a.0.0 None a.0.1 x first.0.rest_fits a.2 in (
        subst (λ (k : ℕ). Takes bytes (number k ++ flat_map (pair s t) x.0) x.1) (sym second.count) (Takes-then bytes (number a.0.0) a.0.1 (flat_map (pair s t) x.0) x.1 first.0 second.taken),
        record { count = omega (arith, second.count, first.1); each = second.each; ascending = sorted_from x.0 second.ascending },
      )

  part_again : (ps : List (K × V)) (rest : List ℕ) → ArePairs cmp P Q ps → list_at cmp f g (pairs s t ps ++ rest) ≡ Ok (ps, rest)
  unfolding list_at
  part_again ps rest are =
      ap (λ (l : List ℕ). number_at l >>= λ count. pairs_above_at cmp f g count.0 None count.1) (append_assoc (number (length ps)) (flat_map (pair s t) ps) rest)
      ∙ ap (λ (r : Result (ℕ × List ℕ) SpellingFault). r >>= λ count. pairs_above_at cmp f g count.0 None count.1) (fields_their_bytes.number_back (length ps) (flat_map (pair s t) ps ++ rest) are.count)
      ∙ pairs_again None ps rest are.each (ascends_from ps are.ascending)

  pub list_field : IsField (list_at cmp f g) (pairs s t) (ArePairs cmp P Q)
  list_field = record { takes = part_takes; again = part_again }

  pub group_field : IsField (group_at cmp f g) (pairs s t) (AreGroup cmp P Q)
  unfolding group_at
  group_field = passed (list_at cmp f g) (pairs s t) (ArePairs cmp P Q) (AreGroup cmp P Q) (λ ps. ltb 0 (length ps)) fault.Number list_field
      (record {
        fits = λ ps are some. record { pairs = are; some = ltb-true _ _ some };
        plain = λ ps are. are.pairs;
        passes = λ ps are. lt-ltb _ _ are.some;
      })

  -- ---- all of it

  pub all_takes : (kind : ℕ) (bytes : List ℕ) (ps : List (K × V)) → IsBytes bytes → all_of cmp f g kind bytes ≡ Ok ps
      → ArePairs cmp P Q ps × (bytes ≡ spelling s t kind ps)
  unfolding all_of
  all_takes kind bytes ps fits e =
      let a = bind_ok (opened kind bytes) (pairs_of cmp f g) ps e in
      let o = opened_takes kind bytes a.0 fits a.1 in
      let l = list_takes a.0 ps o.1 a.2 in
      (l.0, o.0 ∙ ap (λ (inner : List ℕ). (head kind ++ inner) ++ sha256 (head kind ++ inner)) l.1)

  pub all_again : (kind : ℕ) (ps : List (K × V)) → ArePairs cmp P Q ps → all_of cmp f g kind (spelling s t kind ps) ≡ Ok ps
  unfolding all_of
  all_again kind ps are = ap (λ (r : Result (List ℕ) SpellingFault). r >>= pairs_of cmp f g) (opened_again kind (pairs s t ps)) ∙ list_again ps are
