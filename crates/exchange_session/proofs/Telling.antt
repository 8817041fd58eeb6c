-- What is told of ranges.
use Rattle.std.proofs.Common.{◌+◌, ◌∷◌, ◌≡◌, ◌≢◌}
use Rattle.std.specs.FinMap as finmap
use Rattle.exchange_session.proofs.Prelude.{[], All, ap, ArePartsOf, arith, Bool, cond, false, find, FinMap, from_T, inl, inr, IsAmong, is_sorted, IsTrue, is_within, List, map, place_cmp, place_cmp-IsAntisymmetric, place_cmp_total, PlaceParts, print, Range, refl, same_map, suc, sym, times_within, true, Version, within, zero, ℕ, ◌∙◌}
use Rattle.exchange_session.specs.Answered.{own_ask}
use Rattle.exchange_session.specs.Told.{Covers, IsAskedAt, IsOwnAsk, IsOwnPrint, own_print, StaysUnequal}
use Rattle.exchange_session.specs.declared.messages.{RangeAsk.{RangeAsk}, RangePrint.{RangePrint}}

-- a map with these entries
pub of_entries : (m : FinMap place_cmp Version) (es : List (PlaceParts × Version)) → finmap.entries m ≡ es → m ≡ finmap.from_entries {R = place_cmp} es
of_entries m es is = same_map place_cmp_total place_cmp-IsAntisymmetric m (finmap.from_entries es) (λ q.
    finmap.get-entries m q ∙ ap (find place_cmp q) is ∙ sym (finmap.get-from_entries place_cmp_total es q))

-- an ask with these versions
pub asked : (own : List (PlaceParts × Version)) (r : Range) (versions : FinMap place_cmp Version) → versions ≡ finmap.from_entries {R = place_cmp} (within r own) → ◌≡◌ {A = RangeAsk} (record { range = r; versions = versions }) (own_ask own r)
asked own r versions is = ap {B = RangeAsk} (λ (m : FinMap place_cmp Version). record { range = r; versions = m }) is

-- own prints are own
pub all_own : (seed : ℕ) (own : List (PlaceParts × Version)) (rs : List Range) → All (IsOwnPrint seed own) (map (own_print seed own) rs)
all_own seed own [] k d lt = absurd (omega arith)
all_own seed own (r ∷ rs) zero d lt = refl
all_own seed own (r ∷ rs) (suc k) d lt = all_own seed own rs k d (omega arith)

-- what is made of each of some ranges
module _ {X : Type 0} (range_of : X → Range) (make : Range → X) (same : (r : Range) → range_of (make r) ≡ r) where
  -- a place that is in one of the ranges is in the range of one that is made
  pub found_of : (p : PlaceParts) (rs : List Range) → times_within p rs ≢ 0 → (it : X) × (IsAmong it (map make rs) × (is_within (range_of it) p ≡ true))
  found_of p [] some = absurd (some refl)
  found_of p (r ∷ rs) some = elim (is_within r p) as (λ b. is_within r p ≡ b → (it : X) × (IsAmong it (map make (r ∷ rs)) × (is_within (range_of it) p ≡ true))) [
    | true ↦ λ e. (make r, (inl refl, ap (λ (q : Range). is_within q p) (same r) ∙ e))
    | false ↦ λ e.
        let rest = found_of p rs (λ none. some (ap (λ b. cond b 1 0 + times_within p rs) e ∙ ap (λ n. 0 + n) none)) in
        (rest.0, (inr rest.1.0, rest.1.1))
  ] refl

  -- a place in the range of one that is made is in one of the ranges
  pub among_made : (p : PlaceParts) (rs : List Range) (it : X) → IsAmong it (map make rs) → is_within (range_of it) p ≡ true → times_within p rs ≢ 0
  among_made p [] it among here = absurd among
  among_made p (r ∷ rs) it (inl is) here = λ none.
      let inside : is_within r p ≡ true = ap (λ (q : Range). is_within q p) (sym (same r)) ∙ ap (λ (x : X). is_within (range_of x) p) is ∙ here in
      let one : ◌≡◌ {A = ℕ} (cond (is_within r p) 1 0) 1 = ap (λ (b : Bool). cond b 1 0) inside in
      absurd (omega (arith, none, one))
  among_made p (r ∷ rs) it (inr later) here = λ none. let rest = among_made p rs it later here in rest (omega (arith, none))

  -- where the ranges are parts of one, each place of it is in the range of one that is made, and no other place is
  pub found_in_parts : (r : Range) (rs : List Range) → ArePartsOf r rs → (p : PlaceParts) → is_within r p ≡ true → (it : X) × (IsAmong it (map make rs) × (is_within (range_of it) p ≡ true))
  found_in_parts r rs are p inside =
      let once : times_within p rs ≡ 1 = are p ∙ ap (λ (b : Bool). cond b 1 0) inside in
      found_of p rs (λ none. let not_both : 0 ≡ 1 = sym none ∙ once in absurd (omega arith))

  pub parts_inside : (r : Range) (rs : List Range) → ArePartsOf r rs → (p : PlaceParts) (it : X) → IsAmong it (map make rs) → is_within (range_of it) p ≡ true → is_within r p ≡ true
  parts_inside r rs are p it among here = elim (is_within r p) as (λ b. is_within r p ≡ b → b ≡ true) [
    | true ↦ λ e. refl
    | false ↦ λ e. absurd (among_made p rs it among here (are p ∙ ap (λ (b : Bool). cond b 1 0) e))
  ] refl

-- the parts of a range cover it
pub parts_cover : (seed : ℕ) (own : List (PlaceParts × Version)) (r : Range) (rs : List Range) (asks : List RangeAsk) → ArePartsOf r rs → Covers r (map (own_print seed own) rs) asks
parts_cover seed own r rs asks are p inside = inl (found_in_parts (λ (it : RangePrint). it.range) (own_print seed own) (λ q. refl) r rs are p inside)

-- an ask for a range covers it
pub ask_covers : (r : Range) (ask : RangeAsk) → ask.range ≡ r → Covers r [] (ask ∷ [])
ask_covers r ask is p inside = inr (ask, (inl refl, ap (λ (q : Range). is_within q p) is ∙ inside))

-- a single ask
pub one_own : (own : List (PlaceParts × Version)) (ask : RangeAsk) → IsOwnAsk own ask → All (IsOwnAsk own) (ask ∷ [])
one_own own ask is zero d lt = is
one_own own ask is (suc k) d lt = absurd (omega arith)

-- the entries of a map ascend
pub entries_ascend : (m : FinMap place_cmp Version) → IsTrue (is_sorted place_cmp (finmap.entries m))
entries_ascend m = from_T _ (finmap.entries_sorted m)

-- of the parts of a range nothing is told outside of it
pub parts_stay : (seed : ℕ) (own : List (PlaceParts × Version)) (told : RangePrint) (rs : List Range) → ArePartsOf told.range rs → told.print ≢ print seed (within told.range own)
    → StaysUnequal seed own (told ∷ []) (map (own_print seed own) rs) []
parts_stay seed own told rs are unequal p (inr it) = absurd it.1.0
parts_stay seed own told rs are unequal p (inl it) =
    (told, (inl refl, (unequal, parts_inside (λ (x : RangePrint). x.range) (own_print seed own) (λ q. refl) told.range rs are p it.0 it.1.0 it.1.1)))

-- nor of an ask for it
pub ask_stays : (seed : ℕ) (own : List (PlaceParts × Version)) (told : RangePrint) (ask : RangeAsk) → ask.range ≡ told.range → told.print ≢ print seed (within told.range own)
    → StaysUnequal seed own (told ∷ []) [] (ask ∷ [])
ask_stays seed own told ask same unequal p (inl it) = absurd it.1.0
ask_stays seed own told ask same unequal p (inr (it, (inr none, here))) = absurd none
ask_stays seed own told ask same unequal p (inr (it, (inl is, here))) =
    (told, (inl refl, (unequal, ap (λ (r : Range). is_within r p) (sym same) ∙ ap (λ (a : RangeAsk). is_within a.range p) is ∙ here)))

-- asks that are made for ranges are own
pub own_asks : (own : List (PlaceParts × Version)) (rs : List Range) → All (IsOwnAsk own) (map (own_ask own) rs)
own_asks own [] k d lt = absurd (omega arith)
own_asks own (r ∷ rs) zero d lt = refl
own_asks own (r ∷ rs) (suc k) d lt = own_asks own rs k d (omega arith)

-- asks for the parts of a range ask for its places, and for no others
pub parts_asked : (own : List (PlaceParts × Version)) (r : Range) (rs : List Range) → ArePartsOf r rs → (p : PlaceParts) → is_within r p ≡ true → IsAskedAt (map (own_ask own) rs) p
parts_asked own r rs are p inside = found_in_parts (λ (it : RangeAsk). it.range) (own_ask own) (λ q. refl) r rs are p inside

pub asked_in_parts : (own : List (PlaceParts × Version)) (r : Range) (rs : List Range) → ArePartsOf r rs → (p : PlaceParts) → IsAskedAt (map (own_ask own) rs) p → is_within r p ≡ true
asked_in_parts own r rs are p it = parts_inside (λ (x : RangeAsk). x.range) (own_ask own) (λ q. refl) r rs are p it.0 it.1.0 it.1.1
