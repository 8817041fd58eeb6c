-- What is told to several prints.
use Rattle.std.proofs.Common.{drop, length, sym, take, ◌++◌, ◌∷◌, ◌≡◌, ◌⊎◌}
use Rattle.std.proofs.lemmas.List.{drop_at, take_at}
use Rattle.std.proofs.lemmas.List.Elements.{All-drop, All-head, All-same, All-take}
use Rattle.std.specs.FinMap as finmap
use Rattle.std.specs.{declared.vec.IntoIter.{IntoIter}, Iterator.{Yields}, Vec.Iter.{into_iter_items, into_iter_steps}}
use Rattle.exchange_session.proofs.Prelude.{[], All, All-push, All-weaker, ap, append-nil, inl, inr, IsAmong-append_cases, IsAmong-append_left, IsAmong-append_right, List, nil_from_length, PlaceParts, refl, Version, VersionMap, ℕ, ◌∙◌}
use Rattle.exchange_session.specs.{Told.{IsAskedAt, IsAskedBack, IsNewerAt, IsPursued, IsTold, IsUnequalAt, StaysUnequal}}
use Rattle.exchange_session.specs.declared.messages.{RangeAsk.{RangeAsk}, RangePrint.{RangePrint}}

-- what the iterator of a vector has given is a front of its items
taken_front : {X A : Type 0} (s : IntoIter X A) (xs : List X) (t : IntoIter X A) → Yields into_iter_steps s xs t → into_iter_items s ≡ xs ++ into_iter_items t
taken_front s [] t y = ap into_iter_items y
taken_front s (x ∷ xs) t y = y.1.0 ∙ ap (λ ys. x ∷ ys) (taken_front y.0 xs t y.2)

-- when nothing is left of it, it has given all of them
pub all_taken : {X A : Type 0} (s : IntoIter X A) (items xs : List X) (t : IntoIter X A) → into_iter_items s ≡ items → Yields into_iter_steps s xs t → t.rest.len ≡ 0 → xs ≡ items
all_taken {X} s items xs t begun y none =
    sym (append-nil xs) ∙ sym (ap (λ (l : List X). xs ++ l) (nil_from_length _ (sym t.rest.ok.0 ∙ none))) ∙ sym (taken_front s xs t y) ∙ begun

told_before : (p : PlaceParts) (prints more : List RangePrint) (asks others : List RangeAsk) → IsTold p prints asks → IsTold p (prints ++ more) (asks ++ others)
told_before p prints more asks others (inl it) = inl (it.0, (IsAmong-append_left it.0 prints more it.1.0, it.1.1))
told_before p prints more asks others (inr it) = inr (it.0, (IsAmong-append_left it.0 asks others it.1.0, it.1.1))

told_behind : (p : PlaceParts) (prints more : List RangePrint) (asks others : List RangeAsk) → IsTold p more others → IsTold p (prints ++ more) (asks ++ others)
told_behind p prints more asks others (inl it) = inl (it.0, (IsAmong-append_right it.0 prints more it.1.0, it.1.1))
told_behind p prints more asks others (inr it) = inr (it.0, (IsAmong-append_right it.0 asks others it.1.0, it.1.1))

-- one more print that is pursued
pub pursued_more : (seed : ℕ) (own : List (PlaceParts × Version)) (prints more : List RangePrint) (asks others : List RangeAsk) (before : List RangePrint) (it : RangePrint)
    → All (IsPursued seed own prints asks) before → IsPursued seed own more others it → All (IsPursued seed own (prints ++ more) (asks ++ others)) (before ++ it ∷ [])
pursued_more seed own prints more asks others before it all last =
    All-push (IsPursued seed own (prints ++ more) (asks ++ others)) before it
    (All-weaker (IsPursued seed own prints asks) (IsPursued seed own (prints ++ more) (asks ++ others)) (λ (one : RangePrint) pursued unequal p inside. told_before p prints more asks others (pursued unequal p inside)) before all)
    (λ unequal p inside. told_behind p prints more asks others (last unequal p inside))

-- what holds of all and of one more
all_parts : {X : Type 0} (P : X → Type 0) (before : List X) (it : X) → All P (before ++ it ∷ []) → All P before × P it
all_parts P before it all =
    let every = before ++ it ∷ [] in (
      All-same P before (take (length before) every) (sym (take_at before (it ∷ []) (length before) refl)) (All-take P (length before) every all),
      All-head P it [] (All-same P (it ∷ []) (drop (length before) every) (sym (drop_at before (it ∷ []) (length before) refl)) (All-drop P (length before) every all)),
    )

-- nothing was told where all prints agreed, and nothing is told if one more agrees
pub agreed_more : (P : RangePrint → Type 0) (prints more : List RangePrint) (asks others : List RangeAsk) (before : List RangePrint) (it : RangePrint)
    → (All P before → (prints ≡ []) × (asks ≡ [])) → (P it → (more ≡ []) × (others ≡ []))
    → All P (before ++ it ∷ []) → (prints ++ more ≡ []) × (asks ++ others ≡ [])
agreed_more P prints more asks others before it was is all =
    let parts = all_parts P before it all in
    let first = was parts.0 in
    let last = is parts.1 in
    (rw (first.0, last.0) refl, rw (first.1, last.1) refl)

-- the same where more is asked for
pub pursued_wider : (seed : ℕ) (own : List (PlaceParts × Version)) (prints : List RangePrint) (asks others : List RangeAsk) (told : List RangePrint)
    → All (IsPursued seed own prints asks) told → All (IsPursued seed own prints (asks ++ others)) told
pursued_wider seed own prints asks others told all =
    All-weaker (IsPursued seed own prints asks) (IsPursued seed own prints (asks ++ others)) (λ (one : RangePrint) pursued unequal p inside. wider p (pursued unequal p inside)) told all
  where
    wider : (p : PlaceParts) → IsTold p prints asks → IsTold p prints (asks ++ others)
    wider p (inl it) = inl it
    wider p (inr it) = inr (it.0, (IsAmong-append_left it.0 asks others it.1.0, it.1.1))

-- a place that something is told of by two lists each is told of by one
told_by_one : (p : PlaceParts) (prints more : List RangePrint) (asks others : List RangeAsk) → IsTold p (prints ++ more) (asks ++ others) → IsTold p prints asks ⊎ IsTold p more others
told_by_one p prints more asks others (inl it) = elim (IsAmong-append_cases it.0 prints more it.1.0) [
  | inl first ↦ inl (inl (it.0, (first, it.1.1)))
  | inr second ↦ inr (inl (it.0, (second, it.1.1)))
]
told_by_one p prints more asks others (inr it) = elim (IsAmong-append_cases it.0 asks others it.1.0) [
  | inl first ↦ inl (inr (it.0, (first, it.1.1)))
  | inr second ↦ inr (inr (it.0, (second, it.1.1)))
]

-- one more print, of which nothing is told outside of its range
pub stays_more : (seed : ℕ) (own : List (PlaceParts × Version)) (prints more : List RangePrint) (asks others : List RangeAsk) (before : List RangePrint) (it : RangePrint)
    → StaysUnequal seed own before prints asks → StaysUnequal seed own (it ∷ []) more others → StaysUnequal seed own (before ++ it ∷ []) (prints ++ more) (asks ++ others)
stays_more seed own prints more asks others before it was is p told = elim (told_by_one p prints more asks others told) [
  | inl first ↦ let one = was p first in (one.0, (IsAmong-append_left one.0 before (it ∷ []) one.1.0, one.1.1))
  | inr second ↦ let one = is p second in (one.0, (IsAmong-append_right one.0 before (it ∷ []) one.1.0, one.1.1))
]

-- with asks back something is told only of places in ranges whose prints are unequal, or of which an ask tells something newer
pub stays_wider : (seed : ℕ) (own : VersionMap) (told prints : List RangePrint) (asks back theirs : List RangeAsk) → StaysUnequal seed (finmap.entries own) told prints asks
    → ((p : PlaceParts) → IsAskedAt back p → IsNewerAt own theirs p) → (p : PlaceParts) → IsTold p prints (asks ++ back) → IsUnequalAt seed (finmap.entries own) told p ⊎ IsNewerAt own theirs p
stays_wider seed own told prints asks back theirs stays newer p (inl it) = inl (stays p (inl it))
stays_wider seed own told prints asks back theirs stays newer p (inr it) = elim (IsAmong-append_cases it.0 asks back it.1.0) [
  | inl first ↦ inl (stays p (inr (it.0, (first, it.1.1))))
  | inr second ↦ inr (newer p (it.0, (second, it.1.1)))
]

-- what is asked back of more is asked back with what was asked before
pub asked_behind : (own : VersionMap) (asks back theirs : List RangeAsk) → All (IsAskedBack own back) theirs → All (IsAskedBack own (asks ++ back)) theirs
asked_behind own asks back theirs all =
    All-weaker (IsAskedBack own back) (IsAskedBack own (asks ++ back)) (λ (ask : RangeAsk) is more p here. let it = is more p here in (it.0, (IsAmong-append_right it.0 asks back it.1.0, it.1.1))) theirs all

-- one more ask
pub all_back : (own : VersionMap) (back more before : List RangeAsk) (ask : RangeAsk) → All (IsAskedBack own back) before → IsAskedBack own more ask → All (IsAskedBack own (back ++ more)) (before ++ ask ∷ [])
all_back own back more before ask all last =
    All-push (IsAskedBack own (back ++ more)) before ask
    (All-weaker (IsAskedBack own back) (IsAskedBack own (back ++ more)) (λ (one : RangeAsk) is newer p here. let it = is newer p here in (it.0, (IsAmong-append_left it.0 back more it.1.0, it.1.1))) before all)
    (λ newer p here. let it = last newer p here in (it.0, (IsAmong-append_right it.0 back more it.1.0, it.1.1)))

pub newer_more : (own : VersionMap) (back more before : List RangeAsk) (ask : RangeAsk) → ((p : PlaceParts) → IsAskedAt back p → IsNewerAt own before p) → ((p : PlaceParts) → IsAskedAt more p → IsNewerAt own (ask ∷ []) p)
    → (p : PlaceParts) → IsAskedAt (back ++ more) p → IsNewerAt own (before ++ ask ∷ []) p
newer_more own back more before ask was is p it = elim (IsAmong-append_cases it.0 back more it.1.0) [
  | inl first ↦ let one = was p (it.0, (first, it.1.1)) in (one.0, (IsAmong-append_left one.0 before (ask ∷ []) one.1.0, one.1.1))
  | inr second ↦ let one = is p (it.0, (second, it.1.1)) in (one.0, (IsAmong-append_right one.0 before (ask ∷ []) one.1.0, one.1.1))
]

pub none_more : (P : RangeAsk → Type 0) (back more before : List RangeAsk) (ask : RangeAsk) → (All P before → back ≡ []) → (P ask → more ≡ []) → All P (before ++ ask ∷ []) → back ++ more ≡ []
none_more P back more before ask was is all = let parts = all_parts P before ask all in rw (was parts.0, is parts.1) refl
