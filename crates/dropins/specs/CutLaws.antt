-- Laws of cuts: they are the proper fronts of a prefix that end in a dash, the longer ones first.
use Rattle.std.proofs.Common.{◌++◌, ◌+◌, ◌-◌, ◌<◌, ◌↔◌, ◌∷◌, ◌≡◌, ◌≤◌, ◌⊎◌}
use Rattle.dropins.specs.Prelude.{[], add-one, All, All-cons, All-nil, All-weaker, AllPairs, AllPairs-cons, among_from_contains, ap, arith, Bool, cases_lt, cond, Contains, contains_from_among, drop, drop_more, eqb-true, false, get_or, inl, inr, IsAmong, length, length-append, length-take-le, List, refl, subst, suc, sym, take, take-append-drop, take_more, true, zero, ℕ, ◌∙◌}
use Rattle.dropins.specs.FolderLists.{cuts, is_dash, prefixes}

-- c is a proper front of p, and ends in a dash
pub record IsDashedPrefix (p c : List ℕ) : Type 0 where
  pub start : List ℕ
  pub next : ℕ
  pub rest : List ℕ
  pub ends_in_dash : c ≡ start ++ 45 ∷ []
  pub proper : p ≡ c ++ next ∷ rest

-- the cuts of a prefix are its proper fronts that end in a dash
abbrev pub CutsAreDashedPrefixes : Type 0
CutsAreDashedPrefixes = (p c : List ℕ) → Contains (cuts p) c ↔ IsDashedPrefix p c

-- a longer cut comes before a shorter one
abbrev pub LongerCutsComeFirst : Type 0
LongerCutsComeFirst = (p : List ℕ) → AllPairs (λ c d. length d < length c) (cuts p)

-- ---- each is such a front

-- a place of p before the n-th that has a dash, behind which c is cut
record IsCutAt (n : ℕ) (p c : List ℕ) : Type 0 where
  place : ℕ
  within : place < n
  dash : is_dash (get_or p place 0) ≡ true
  cut : c ≡ take (suc place) p

cut_at : (n : ℕ) (p c : List ℕ) → IsAmong c (prefixes n p) → IsCutAt n p c
cut_at zero p c h = absurd h
cut_at (suc n) p c h = by (is_dash (get_or p n 0)) refl h (cut_at n p c)
  where
    later : IsCutAt n p c → IsCutAt (suc n) p c
    later k = record { place = k.place; within = omega (arith, k.within); dash = k.dash; cut = k.cut }

    pick : is_dash (get_or p n 0) ≡ true → (take (suc n) p ≡ c) ⊎ IsAmong c (prefixes n p)
        → (IsAmong c (prefixes n p) → IsCutAt n p c) → IsCutAt (suc n) p c
    pick d (inl e) more = record { place = n; within = omega arith; dash = d; cut = sym e }
    pick d (inr k) more = later (more k)

    by : (b : Bool) → is_dash (get_or p n 0) ≡ b → IsAmong c (cond b (take (suc n) p ∷ prefixes n p) (prefixes n p))
        → (IsAmong c (prefixes n p) → IsCutAt n p c) → IsCutAt (suc n) p c
    by true d k more = pick d k more
    by false d k more = later (more k)

take_next : (p : List ℕ) (i : ℕ) → i < length p → take (suc i) p ≡ take i p ++ get_or p i 0 ∷ []
take_next p i h = ap (λ j. take j p) (sym (add-one i)) ∙ take_more p i 0 h

drop_next : (p : List ℕ) (i : ℕ) → i < length p → drop i p ≡ get_or p i 0 ∷ drop (suc i) p
drop_next p i h = drop_more p i 0 h ∙ ap (λ j. get_or p i 0 ∷ drop j p) (add-one i)

prefix_from_cut : (p c : List ℕ) → IsCutAt (length p - 1) p c → IsDashedPrefix p c
prefix_from_cut p c k = record {
  start = take k.place p;
  next = get_or p (suc k.place) 0;
  rest = drop (suc (suc k.place)) p;
  ends_in_dash = k.cut ∙ take_next p k.place (omega (arith, k.within)) ∙ ap (λ b. take k.place p ++ b ∷ []) (eqb-true (get_or p k.place 0) 45 k.dash);
  proper = sym (take-append-drop (suc k.place) p) ∙ ap (λ w. take (suc k.place) p ++ w) (drop_next p (suc k.place) (omega (arith, k.within))) ∙ ap (λ w. w ++ get_or p (suc k.place) 0 ∷ drop (suc (suc k.place)) p) (sym k.cut);
}

-- what is cut behind a dash, where a byte follows, is such a front
pub dashed_prefix_at : (p : List ℕ) (k : ℕ) → suc k < length p → is_dash (get_or p k 0) ≡ true → IsDashedPrefix p (take (suc k) p)
dashed_prefix_at p k l dash = prefix_from_cut p (take (suc k) p) (record { place = k; within = omega (arith, l); dash = dash; cut = refl })

-- ---- each such front is there

prefix_there : (n m : ℕ) (p : List ℕ) → m < n → is_dash (get_or p m 0) ≡ true → IsAmong (take (suc m) p) (prefixes n p)
prefix_there zero m p h d = absurd (omega arith)
prefix_there (suc n) m p h d = by (cases_lt m n) (λ l. prefix_there n m p l d)
  where
    after : (b : Bool) → IsAmong (take (suc m) p) (prefixes n p)
        → IsAmong (take (suc m) p) (cond b (take (suc n) p ∷ prefixes n p) (prefixes n p))
    after true k = inr k
    after false k = k

    first : (b : Bool) → b ≡ true → take (suc n) p ≡ take (suc m) p
        → IsAmong (take (suc m) p) (cond b (take (suc n) p ∷ prefixes n p) (prefixes n p))
    first true t e = inl e
    first false t e = cc (t)

    by : (m < n) ⊎ (n ≤ m) → (m < n → IsAmong (take (suc m) p) (prefixes n p)) → IsAmong (take (suc m) p) (prefixes (suc n) p)
    by (inl l) more = after (is_dash (get_or p n 0)) (more l)
    by (inr l) more = let e : m ≡ n = omega arith in first (is_dash (get_or p n 0)) (ap (λ j. is_dash (get_or p j 0)) (sym e) ∙ d) (ap (λ j. take (suc j) p) (sym e))

take_prefix : (c w : List ℕ) → take (length c) (c ++ w) ≡ c
take_prefix [] w = refl
take_prefix (x ∷ c) w = ap (λ v. x ∷ v) (take_prefix c w)

at_end : (start w : List ℕ) (b : ℕ) → get_or ((start ++ b ∷ []) ++ w) (length start) 0 ≡ b
at_end [] w b = refl
at_end (x ∷ start) w b = at_end start w b

cut_from_prefix : (p c : List ℕ) → IsDashedPrefix p c → IsAmong c (cuts p)
cut_from_prefix p c f =
    let long : length p ≡ length c + suc (length f.rest) = ap length f.proper ∙ length-append c (f.next ∷ f.rest) in
    let size : length c ≡ length f.start + 1 = ap length f.ends_in_dash ∙ length-append f.start (45 ∷ []) in
    let whole : p ≡ (f.start ++ 45 ∷ []) ++ f.next ∷ f.rest = f.proper ∙ ap (λ x. x ++ f.next ∷ f.rest) f.ends_in_dash in
    let dash : is_dash (get_or p (length f.start) 0) ≡ true = ap (λ x. is_dash (get_or x (length f.start) 0)) whole ∙ ap is_dash (at_end f.start (f.next ∷ f.rest) 45) in
    let same : suc (length f.start) ≡ length c = omega (arith, size) in
    let taken : take (suc (length f.start)) p ≡ c = ap (λ j. take j p) same ∙ ap (take (length c)) f.proper ∙ take_prefix c (f.next ∷ f.rest) in
    subst (λ x. IsAmong x (cuts p)) taken (prefix_there (length p - 1) (length f.start) p (omega (arith, long, size)) dash)

pub cuts_are_dashed_prefixes : CutsAreDashedPrefixes
cuts_are_dashed_prefixes p c =
    (λ h. prefix_from_cut p c (cut_at (length p - 1) p c (among_from_contains c (cuts p) h)), λ f. contains_from_among c (cuts p) (cut_from_prefix p c f))

-- ---- longer ones come first

prefixes_short : (n : ℕ) (p : List ℕ) → n ≤ length p → All (λ d. length d < suc n) (prefixes n p)
prefixes_short zero p h = All-nil (λ d. length d < 1)
prefixes_short (suc n) p h = by (is_dash (get_or p n 0)) (All-weaker (λ d. length d < suc n) (λ d. length d < suc (suc n)) (λ d l. omega arith) (prefixes n p) (prefixes_short n p (omega arith)))
  where
    by : (b : Bool) → All (λ d. length d < suc (suc n)) (prefixes n p)
        → All (λ d. length d < suc (suc n)) (cond b (take (suc n) p ∷ prefixes n p) (prefixes n p))
    by true a = All-cons (λ d. length d < suc (suc n)) (take (suc n) p) (prefixes n p) (let e = length-take-le (suc n) p h in omega (arith, e)) a
    by false a = a

prefixes_shorten : (n : ℕ) (p : List ℕ) → n ≤ length p → AllPairs (λ c d. length d < length c) (prefixes n p)
prefixes_shorten zero p h = λ i j d l w. absurd (omega arith)
prefixes_shorten (suc n) p h = by (is_dash (get_or p n 0)) (prefixes_shorten n p (omega arith))
  where
    below : All (λ d. length d < length (take (suc n) p)) (prefixes n p)
    below = All-weaker (λ d. length d < suc n) (λ d. length d < length (take (suc n) p)) (λ d l. let e = length-take-le (suc n) p h in omega (arith, e, l)) (prefixes n p) (prefixes_short n p (omega arith))

    by : (b : Bool) → AllPairs (λ c d. length d < length c) (prefixes n p)
        → AllPairs (λ c d. length d < length c) (cond b (take (suc n) p ∷ prefixes n p) (prefixes n p))
    by true a = AllPairs-cons (λ c d. length d < length c) (take (suc n) p) (prefixes n p) below a
    by false a = a

pub longer_cuts_come_first : LongerCutsComeFirst
longer_cuts_come_first p = prefixes_shorten (length p - 1) p (omega arith)
