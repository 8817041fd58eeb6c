-- The cuts of a prefix, one at a time, and the names with a cut prefix.
use Rattle.std.proofs.Common.{◌++◌, ◌-◌, ◌<◌, ◌∷◌, ◌≡◌, ◌≤◌}
use Rattle.dropins.proofs.Prelude.{[], ap, append_assoc, arith, BadByte, cond, drop, EmptyPrefix, false, flat_map, fold, fold-append, get_or, Instance, instance, is_dash, is_empty, is_ok, IsFaultOf, IsName, Length, length, length-drop, List, Memory, Name, name_with, NameFault, names_are_their_parts, NoKind, Plain, prefix, prefixes, prefixes_may_be_cut, refl, Shape, shape, suc, suffix, sym, take, take-append-drop, take_all, Template, true, true≢false, with_name, with_prefix, zero, ℕ, ◌∙◌}

prefixes_at : (p : List ℕ) (n m : ℕ) → n ≡ suc m → prefixes n p ≡ cond (is_dash (get_or p m 0)) (take n p ∷ prefixes m p) (prefixes m p)
prefixes_at p n m e = rw e refl

prefixes_taken : (p : List ℕ) (e : ℕ) → 1 < e → is_dash (get_or p (e - 1 - 1) 0) ≡ true → prefixes (e - 1) p ≡ take (e - 1) p ∷ prefixes (e - 1 - 1) p
prefixes_taken p e h d = let q : e - 1 ≡ suc (e - 1 - 1) = omega arith in prefixes_at p (e - 1) (e - 1 - 1) q ∙ ap (λ b. cond b (take (e - 1) p ∷ prefixes (e - 1 - 1) p) (prefixes (e - 1 - 1) p)) d

prefixes_left : (p : List ℕ) (e : ℕ) → 1 < e → is_dash (get_or p (e - 1 - 1) 0) ≡ false → prefixes (e - 1) p ≡ prefixes (e - 1 - 1) p
prefixes_left p e h d = let q : e - 1 ≡ suc (e - 1 - 1) = omega arith in prefixes_at p (e - 1) (e - 1 - 1) q ∙ ap (λ b. cond b (take (e - 1) p ∷ prefixes (e - 1 - 1) p) (prefixes (e - 1 - 1) p)) d

-- A prefix that ends in a dash is added.
pub cut_taken : (W : List ℕ → List Name) (all new : List Name) (p : List ℕ) (e : ℕ) (r : List Name) → 1 < e → is_dash (get_or p (e - 1 - 1) 0) ≡ true → new ≡ fold with_name all (W (take (e - 1) p)) → fold with_name all (flat_map W (prefixes (e - 1) p)) ≡ r → fold with_name new (flat_map W (prefixes (e - 1 - 1) p)) ≡ r
cut_taken W all new p e r h d n i =
    ap (λ x. fold with_name x (flat_map W (prefixes (e - 1 - 1) p))) n
    ∙ sym (fold-append with_name all (W (take (e - 1) p)) (flat_map W (prefixes (e - 1 - 1) p)))
    ∙ sym (ap (λ x. fold with_name all (flat_map W x)) (prefixes_taken p e h d))
    ∙ i

-- Any other prefix is skipped.
pub cut_left : (W : List ℕ → List Name) (all : List Name) (p : List ℕ) (e : ℕ) (r : List Name) → 1 < e → is_dash (get_or p (e - 1 - 1) 0) ≡ false → fold with_name all (flat_map W (prefixes (e - 1) p)) ≡ r → fold with_name all (flat_map W (prefixes (e - 1 - 1) p)) ≡ r
cut_left W all p e r h d i = sym (ap (λ x. fold with_name all (flat_map W x)) (prefixes_left p e h d)) ∙ i

some_taken : (n : ℕ) (p : List ℕ) → 0 < n → n ≤ length p → is_empty (take n p) ≡ false
some_taken zero p h l = absurd (omega arith)
some_taken (suc n) [] h l = absurd (omega arith)
some_taken (suc n) (b ∷ bs) h l = refl

-- A name whose prefix is replaced by its first bytes is a name.
pub prefix_is_name : (n : Name) (e : ℕ) → IsName n → 0 < e → e ≤ length (prefix n) → IsName (with_prefix n (take e (prefix n)))
prefix_is_name n e h low high =
    (prefixes_may_be_cut n (take e (prefix n)) (drop e (prefix n)) h (sym (take-append-drop e (prefix n))) (some_taken e (prefix n) low high)).2.name

drop_prefix : (p w : List ℕ) → drop (length p) (p ++ w) ≡ w
drop_prefix [] w = refl
drop_prefix (x ∷ p) w = drop_prefix p w

another_prefix : (s : Shape) (p q i k : List ℕ) → q ++ drop (length p) (name_with s p i k) ≡ name_with s q i k
another_prefix Plain p q i k = ap (λ w. q ++ w) (drop_prefix p (46 ∷ k))
another_prefix Template p q i k = ap (λ w. q ++ w) (drop_prefix p (64 ∷ 46 ∷ k))
another_prefix Instance p q i k =
    ap (λ w. q ++ w) (ap (drop (length p)) (append_assoc p (64 ∷ i) (46 ∷ k)) ∙ drop_prefix p ((64 ∷ i) ++ 46 ∷ k)) ∙ sym (append_assoc q (64 ∷ i) (46 ∷ k))

-- Another prefix before what follows a name's own prefix.
pub prefix_replaced : (n : Name) (q : List ℕ) → IsName n → q ++ drop (length (prefix n)) n ≡ with_prefix n q
prefix_replaced n q h =
    ap (λ m. q ++ drop (length (prefix n)) m) (sym (names_are_their_parts n h)) ∙ another_prefix (shape n) (prefix n) q (instance n) (suffix n)

-- A slice to the end.
pub rest_whole : (m : ℕ) (n : List ℕ) → take (length n - m) (drop m n) ≡ drop m n
rest_whole m n = take_all (length n - m) (drop m n) (omega (arith, length-drop m n))

-- Parsing a valid name fails only if memory runs out.
pub only_memory : (b : List ℕ) (f : NameFault) → IsName b → IsFaultOf b f → f ≡ Memory
only_memory b Length h e = absurd (true≢false (sym h ∙ ap is_ok e))
only_memory b NoKind h e = absurd (true≢false (sym h ∙ ap is_ok e))
only_memory b EmptyPrefix h e = absurd (true≢false (sym h ∙ ap is_ok e))
only_memory b (BadByte at) h e = absurd (true≢false (sym h ∙ ap is_ok e))
only_memory b Memory h e = refl

-- A prefix and the end of a name make the name with that prefix.
pub cut_is : (n q text bytes joined own pre : List ℕ) → IsName n → text ≡ joined → joined ≡ bytes ++ take (length own - length pre) (drop (length pre) own) → bytes ≡ q → pre ≡ prefix n → own ≡ n → text ≡ with_prefix n q
cut_is n q text bytes joined own pre h t j b p o =
    t ∙ j ∙ ap (λ w. bytes ++ w) (rest_whole (length pre) own)
    ∙ ap (λ w. w ++ drop (length pre) own) b
    ∙ ap (λ w. q ++ drop (length w) own) p
    ∙ ap (λ w. q ++ drop (length (prefix n)) w) o
    ∙ prefix_replaced n q h
