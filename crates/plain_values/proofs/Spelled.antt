-- Comparing byte strings of one length is comparing the big-endian numbers that they spell.
use Rattle.std.proofs.Common.{◌*◌, ◌+◌, ◌-◌, ◌<◌, ◌∷◌, ◌≡◌, ◌≤◌}
use Rattle.plain_values.proofs.Prelude.{[], ap, arith, drop, eq_by_cmp, Equal, false, Fits, get_or, get_or-drop, Greater, is_eq, length, Less, List, MatchOrdering, min, nat_cmp, nat_cmp-IsAntisymmetric, nat_cmp_is, Ordering, ordering_then, ranks, refl, slice_cmp, slice_cmp-IsAntisymmetric, spelled, subst, suc, sym, take, take_rest, w8, zero, ℕ, ◌∙◌}

abbrev pub AreBytes : List ℕ → Type 0
AreBytes bytes = (i : ℕ) → Fits w8 (get_or bytes i 0)

-- a lesser prefix gives a lesser number, whatever bytes follow
lesser : (k : ℕ) (xs ys : List ℕ) (m n : ℕ) → m < n → k ≤ length xs → k ≤ length ys → AreBytes xs → AreBytes ys → spelled m (take k xs) < spelled n (take k ys)
lesser zero xs ys m n lt _ _ _ _ = lt
lesser (suc k) [] ys m n lt short _ _ _ = absurd (omega (arith, short))
lesser (suc k) (x ∷ xs) [] m n lt _ short _ _ = absurd (omega (arith, short))
lesser (suc k) (x ∷ xs) (y ∷ ys) m n lt hx hy bx by =
    lesser k xs ys (m * 256 + x) (n * 256 + y) (omega (arith, lt, bx 0)) (omega (arith, hx)) (omega (arith, hy)) (λ i. bx (suc i)) (λ i. by (suc i))

-- the order of the first k bytes is that of their numbers; on a tie the rest decides
pub by_numbers : (k : ℕ) (xs ys : List ℕ) (m : ℕ) → k ≤ length xs → k ≤ length ys → AreBytes xs → AreBytes ys
    → slice_cmp nat_cmp xs ys ≡ ordering_then (nat_cmp (spelled m (take k xs)) (spelled m (take k ys))) (slice_cmp nat_cmp (drop k xs) (drop k ys))
by_numbers zero xs ys m _ _ _ _ = ap (λ o. ordering_then o (slice_cmp nat_cmp xs ys)) (nat_cmp_is m m Equal refl)
by_numbers (suc k) [] ys m short _ _ _ = absurd (omega (arith, short))
by_numbers (suc k) (x ∷ xs) [] m _ short _ _ = absurd (omega (arith, short))
by_numbers (suc k) (x ∷ xs) (y ∷ ys) m hx hy bx by =
    by_first (nat_cmp x y) (ranks x y) (by_numbers k xs ys (m * 256 + x) (omega (arith, hx)) (omega (arith, hy)) (λ i. bx (suc i)) (λ i. by (suc i)))
  where
    by_first : (o : Ordering) → MatchOrdering o (x < y) (x ≡ y) (y < x)
        → slice_cmp nat_cmp xs ys ≡ ordering_then (nat_cmp (spelled (m * 256 + x) (take k xs)) (spelled (m * 256 + x) (take k ys))) (slice_cmp nat_cmp (drop k xs) (drop k ys))
        → ordering_then o (slice_cmp nat_cmp xs ys)
        ≡ ordering_then (nat_cmp (spelled (m * 256 + x) (take k xs)) (spelled (m * 256 + y) (take k ys))) (slice_cmp nat_cmp (drop k xs) (drop k ys))
    by_first Less lt _ =
        ap (λ o. ordering_then o (slice_cmp nat_cmp (drop k xs) (drop k ys)))
        (nat_cmp_is _ _ Less (lesser k xs ys (m * 256 + x) (m * 256 + y) (omega (arith, lt)) (omega (arith, hx)) (omega (arith, hy)) (λ i. bx (suc i)) (λ i. by (suc i))))
    by_first Equal is following =
        following
        ∙ ap (λ z. ordering_then (nat_cmp (spelled (m * 256 + x) (take k xs)) (spelled (m * 256 + z) (take k ys))) (slice_cmp nat_cmp (drop k xs) (drop k ys))) is
    by_first Greater gt _ =
        ap (λ o. ordering_then o (slice_cmp nat_cmp (drop k xs) (drop k ys)))
        (nat_cmp_is _ _ Greater (lesser k ys xs (m * 256 + y) (m * 256 + x) (omega (arith, gt)) (omega (arith, hy)) (omega (arith, hx)) (λ i. by (suc i)) (λ i. bx (suc i))))

-- if the numbers of the first k bytes differ, they decide
pub decided : (k : ℕ) (xs ys : List ℕ) (x y : ℕ) → k ≤ length xs → k ≤ length ys → AreBytes xs → AreBytes ys
    → x ≡ spelled 0 (take k xs) → y ≡ spelled 0 (take k ys) → (x ≡ y → ⊥) → nat_cmp x y ≡ slice_cmp nat_cmp xs ys
decided k xs ys x y hx hy bx by is_x is_y apart =
    by_rank (nat_cmp x y) (ranks x y)
    ∙ ap (λ z. ordering_then (nat_cmp z y) following) is_x ∙ ap (λ z. ordering_then (nat_cmp (spelled 0 (take k xs)) z) following) is_y
    ∙ sym (by_numbers k xs ys 0 hx hy bx by)
  where
    following : Ordering
    following = slice_cmp nat_cmp (drop k xs) (drop k ys)

    by_rank : (o : Ordering) → MatchOrdering o (x < y) (x ≡ y) (y < x) → o ≡ ordering_then o following
    by_rank Less _ = refl
    by_rank Equal is = absurd (apart is)
    by_rank Greater _ = refl

-- if they are equal, the rest decides
pub left_decides : (k : ℕ) (xs ys : List ℕ) → k ≤ length xs → k ≤ length ys → AreBytes xs → AreBytes ys
    → spelled 0 (take k xs) ≡ spelled 0 (take k ys)
    → slice_cmp nat_cmp (take (length xs - k) (drop k xs)) (take (length ys - k) (drop k ys)) ≡ slice_cmp nat_cmp xs ys
left_decides k xs ys hx hy bx by same =
    ap (λ z. slice_cmp nat_cmp z (take (length ys - k) (drop k ys))) (take_rest xs k) ∙ ap (slice_cmp nat_cmp (drop k xs)) (take_rest ys k)
    ∙ sym (by_numbers k xs ys 0 hx hy bx by ∙ ap (λ o. ordering_then o (slice_cmp nat_cmp (drop k xs) (drop k ys))) (sym (nat_cmp_is _ _ Equal same)))

-- what remains is a list of bytes too
pub left_bytes : (k : ℕ) (xs : List ℕ) → AreBytes xs → AreBytes (take (length xs - k) (drop k xs))
left_bytes k xs bytes i = subst (λ z. Fits w8 (get_or z i 0)) (sym (take_rest xs k)) (subst (Fits w8) (sym (get_or-drop k xs i 0)) (bytes (k + i)))

-- if two strings are equal up to the length of the shorter one, the shorter one is less
pub by_lengths : (xs ys : List ℕ) (n : ℕ) → n ≡ min (length xs) (length ys) → slice_cmp nat_cmp (drop n xs) (drop n ys) ≡ nat_cmp (length xs) (length ys)
by_lengths [] [] zero is = refl
by_lengths [] [] (suc n) is = absurd (omega (arith, is))
by_lengths [] (y ∷ ys) zero is = nat_cmp_is 0 (suc (length ys)) Less (omega arith)
by_lengths [] (y ∷ ys) (suc n) is = absurd (omega (arith, is))
by_lengths (x ∷ xs) [] zero is = nat_cmp_is (suc (length xs)) 0 Greater (omega arith)
by_lengths (x ∷ xs) [] (suc n) is = absurd (omega (arith, is))
by_lengths (x ∷ xs) (y ∷ ys) zero is = absurd (omega (arith, is))
by_lengths (x ∷ xs) (y ∷ ys) (suc n) is = by_lengths xs ys n (omega (arith, is)) ∙ more (nat_cmp (length xs) (length ys)) (ranks (length xs) (length ys))
  where
    more : (r : Ordering) → MatchOrdering r (length xs < length ys) (length xs ≡ length ys) (length ys < length xs) → r ≡ nat_cmp (suc (length xs)) (suc (length ys))
    more Less h = nat_cmp_is (suc (length xs)) (suc (length ys)) Less (omega (arith, h))
    more Equal h = nat_cmp_is (suc (length xs)) (suc (length ys)) Equal (ap suc h)
    more Greater h = nat_cmp_is (suc (length xs)) (suc (length ys)) Greater (omega (arith, h))

-- a result other than `Equal` means that the two are different
pub unlike : (o : Ordering) → (o ≡ Equal → ⊥) → false ≡ is_eq o
unlike Less apart = refl
unlike Equal apart = absurd (apart refl)
unlike Greater apart = refl

-- strings of different lengths are different
pub other_lengths : (xs ys : List ℕ) → (length xs ≡ length ys → ⊥) → false ≡ eq_by_cmp (slice_cmp nat_cmp) xs ys
other_lengths xs ys apart = unlike (slice_cmp nat_cmp xs ys) (λ e. apart (ap length (slice_cmp-IsAntisymmetric nat_cmp-IsAntisymmetric xs ys e)))

-- strings whose first k bytes spell different numbers are different
pub other_words : (k : ℕ) (xs ys : List ℕ) (x y : ℕ) → k ≤ length xs → k ≤ length ys → AreBytes xs → AreBytes ys
    → x ≡ spelled 0 (take k xs) → y ≡ spelled 0 (take k ys) → (x ≡ y → ⊥) → false ≡ eq_by_cmp (slice_cmp nat_cmp) xs ys
other_words k xs ys x y hx hy bx by is_x is_y apart =
    unlike (nat_cmp x y) (λ e. apart (nat_cmp-IsAntisymmetric x y e)) ∙ ap is_eq (decided k xs ys x y hx hy bx by is_x is_y apart)
