-- The units that have a part in their footprint are found among the names with its prefix.
use Rattle.std.proofs.Common.{◌++◌, ◌+◌, ◌<◌, ◌∷◌, ◌≡◌, ◌≤◌, ◌⊎◌}
use Rattle.parallel_load.proofs.Prelude.{[], All-append, All-cons, All-nil, ap, append-nil, AreAffected, AreAffectedBy, AreNoted, AreOwnersNoted, AreSecondaryNames, AreWithin, arith, BeginsWith, cases_lt, EndsWith, get_or, GrowsWithin, HasNoStop, inl, inr, IsAmong, IsAmong-append_cases, IsAmong-append_left, IsAmong-append_right, IsInFootprint, IsNoted, IsOfNoType, IsOfType, IsSearchPrefixOf, length, List, Name, NameLoad, refl, subst, sym, take, take_more, ℕ, ◌∙◌}
use Rattle.parallel_load.proofs.{Begins.{names_begin, stopless}, Keeping.{any_at, place_among}, TypeParts.{names_of_type}}

-- ---- indices that are added

pub grown_not : (limit : ℕ) (xs : List ℕ) → GrowsWithin limit xs xs
grown_not limit xs = record { kept = λ i a. a; within = λ h. h }

pub grown_by : (limit : ℕ) (xs ys zs : List ℕ) → GrowsWithin limit xs ys → GrowsWithin limit ys zs → GrowsWithin limit xs zs
grown_by limit xs ys zs g h = record { kept = λ i a. h.kept i (g.kept i a); within = λ a. h.within (g.within a) }

-- the limit is the number of a load's names
pub grown_for : (names olds : List (Name × NameLoad)) (xs ys zs : List ℕ) → names ≡ olds → GrowsWithin (length names) xs ys → GrowsWithin (length names) ys zs → GrowsWithin (length olds) xs zs
grown_for names olds xs ys zs e g h =
    let P : List (Name × NameLoad) → Type 0 = λ ns. GrowsWithin (length ns) xs zs in
    subst P e (grown_by (length names) xs ys zs g h)

pub grown_one : (limit : ℕ) (xs ys : List ℕ) (i : ℕ) → i < limit → ys ≡ xs ++ i ∷ [] → GrowsWithin limit xs ys
grown_one limit xs ys i l e =
    let P : ℕ → Type 0 = λ k. k < limit in
    subst (GrowsWithin limit xs) (sym e) (record {
      kept = λ k a. IsAmong-append_left k xs (i ∷ []) a;
      within = λ h. All-append P xs (i ∷ []) h (All-cons P i [] l (All-nil P));
    })

pub one_there : (xs ys : List ℕ) (i : ℕ) → ys ≡ xs ++ i ∷ [] → IsAmong i ys
one_there xs ys i e = subst (λ (l : List ℕ). IsAmong i l) (sym e) (IsAmong-append_right i xs (i ∷ []) (inl refl))

-- what is noted stays noted
pub noted_still : (limit : ℕ) (names : List (Name × NameLoad)) (old new part : List ℕ) (i : ℕ) → GrowsWithin limit old new → IsNoted names old part i → IsNoted names new part i
noted_still limit names old new part i g h p f = g.kept i (h p f)

-- ---- all indices of a range

pub none_noted : (names : List (Name × NameLoad)) (affected part ending : List ℕ) (from : ℕ) → AreNoted names affected part ending from from
none_noted names affected part ending from i d l m = absurd (omega (arith, l, m))

pub noted_more : (limit : ℕ) (names : List (Name × NameLoad)) (old new part ending : List ℕ) (from to : ℕ) (p : Name × NameLoad) → GrowsWithin limit old new → AreNoted names old part ending from to
    → to < length names → p ≡ get_or names to p → (EndsWith ending p.0 → IsNoted names new part to) → AreNoted names new part ending from (to + 1)
noted_more limit names old new part ending from to p g h within is one i d l m e = by (cases_lt i to)
  where
    by : (i < to) ⊎ (to ≤ i) → IsNoted names new part i
    by (inl k) = noted_still limit names old new part i g (h i d l k e)
    by (inr k) =
        let there : to ≡ i = omega (arith, k, m) in
        let same : get_or names i d ≡ p = ap (λ (n : ℕ). get_or names n d) (sym there) ∙ any_at names to d p within ∙ sym is in
        subst (IsNoted names new part) there (one (subst (λ (q : Name × NameLoad). EndsWith ending q.0) same e))

pub no_owners_noted : (names : List (Name × NameLoad)) (second : List (Name × ℕ)) (affected part ending : List ℕ) (from : ℕ) → AreOwnersNoted names second affected part ending from from
no_owners_noted names second affected part ending from k d l m = absurd (omega (arith, l, m))

pub owners_noted_more : (limit : ℕ) (names : List (Name × NameLoad)) (second : List (Name × ℕ)) (old new part ending : List ℕ) (from to : ℕ) (p : Name × ℕ) → GrowsWithin limit old new
    → AreOwnersNoted names second old part ending from to → to < length second → p ≡ get_or second to p → (EndsWith ending p.0 → IsNoted names new part p.1)
    → AreOwnersNoted names second new part ending from (to + 1)
owners_noted_more limit names second old new part ending from to p g h within is one k d l m e = by (cases_lt k to)
  where
    by : (k < to) ⊎ (to ≤ k) → IsNoted names new part (get_or second k d).1
    by (inl b) = noted_still limit names old new part (get_or second k d).1 g (h k d l b e)
    by (inr b) =
        let there : to ≡ k = omega (arith, b, m) in
        let same : p ≡ get_or second k d = is ∙ any_at second to p d within ∙ ap (λ (n : ℕ). get_or second n d) there in
        subst (λ (q : Name × ℕ). IsNoted names new part q.1) same (one (subst (λ (q : Name × ℕ). EndsWith ending q.0) (sym same) e))

-- what was noted before more is added
indices_still : (limit : ℕ) (names : List (Name × NameLoad)) (old new part ending : List ℕ) (from to : ℕ) → GrowsWithin limit old new → AreNoted names old part ending from to
    → AreNoted names new part ending from to
indices_still limit names old new part ending from to g h i d l m e = noted_still limit names old new part i g (h i d l m e)

-- the same for one more part
pub affected_more : (limit : ℕ) (parts : List (List ℕ)) (names : List (Name × NameLoad)) (old new : List ℕ) (i : ℕ) (x : List ℕ) → i < length parts → x ≡ get_or parts i x → GrowsWithin limit old new
    → AreAffected (take i parts) names old → AreAffectedBy names new x → AreAffected (take (i + 1) parts) names new
affected_more limit parts names old new i x l e g h one part a =
    by (IsAmong-append_cases part (take i parts) (x ∷ []) (subst (λ (ps : List (List ℕ)). IsAmong part ps) (take_more parts i x l ∙ ap (λ (y : List ℕ). take i parts ++ y ∷ []) (sym e)) a))
  where
    by : IsAmong part (take i parts) ⊎ IsAmong part (x ∷ []) → AreAffectedBy names new part
    by (inl b) = λ j m p f. g.kept j (h part b j m p f)
    by (inr (inl f)) = subst (AreAffectedBy names new) f one
    by (inr (inr b)) = absurd b

-- ---- what is found is all

module _ (names : List (Name × NameLoad)) (second : List (Name × ℕ)) (are : AreSecondaryNames names second) (affected part ending : List ℕ) (from to start end : ℕ) where
  -- A name of the unit with an index that has this ending leads to it, if the name is in the range that was searched.
  leads : (i : ℕ) (p : Name × NameLoad) → i < length names → (h : IsInFootprint part (get_or names i p)) → AreNoted names affected part ending from to → AreOwnersNoted names second affected part ending start end
      → (m : Name) → IsAmong m ((get_or names i p).0 ∷ h.unit.names) → EndsWith ending m
      → ((get_or names i p).0 ≡ m → (from ≤ i) × (i < to)) → ((k : ℕ) → k < length second → (get_or second k (m, i)).0 ≡ m → (start ≤ k) × (k < end)) → IsAmong i affected
  leads i p l h noted owners m there e own others = by there
    where
      at : Name × NameLoad
      at = get_or names i p

      owned : at.0 ≡ m → IsAmong i affected
      owned s = let w = own s in noted i p w.0 w.1 (subst (EndsWith ending) (sym s) e) p h

      listed : IsAmong {X = Name × ℕ} (m, i) second → IsAmong i affected
      listed a =
          let r = place_among (m, i) (m, i) second a in
          let name : (get_or second r.0 (m, i)).0 ≡ m = ap (λ (q : Name × ℕ). q.0) r.1.1 in
          let w = others r.0 r.1.0 name in
          subst (IsNoted names affected part) (ap (λ (q : Name × ℕ). q.1) r.1.1) (owners r.0 (m, i) w.0 w.1 (subst (EndsWith ending) (sym name) e)) p h

      other : (m ≡ at.0) ⊎ IsAmong {X = Name × ℕ} (m, i) second → IsAmong i affected
      other (inl s) = owned (sym s)
      other (inr a) = listed a

      by : IsAmong m (at.0 ∷ h.unit.names) → IsAmong i affected
      by (inl s) = owned s
      by (inr a) = other ((are.each i p l h.unit h.load_is).listed m a)

-- the names of a load, under the two names that they have in a proof
module _ (names olds : List (Name × NameLoad)) (same : names ≡ olds) (second : List (Name × ℕ)) (of_olds : AreSecondaryNames olds second) (part old new : List ℕ)
    (grows : GrowsWithin (length names) old new) where
  are : AreSecondaryNames names second
  are = let P : List (Name × NameLoad) → Type 0 = λ ns. AreSecondaryNames ns second in subst P (sym same) of_olds

  all_of : AreAffectedBy names new part → AreAffectedBy olds new part
  all_of h = let P : List (Name × NameLoad) → Type 0 = λ ns. AreAffectedBy ns new part in subst P same h

  -- by names with its prefix
  pub all_by_search_prefix : (search_prefix : List ℕ) (from to start end : ℕ) → IsOfNoType part → IsSearchPrefixOf part search_prefix → AreWithin search_prefix names from to → AreWithin search_prefix second start end
      → AreNoted names old part [] from to → AreOwnersNoted names second new part [] start end → AreAffectedBy olds new part
  all_by_search_prefix search_prefix from to start end typeless f own others noted owners = all_of (λ i l p h.
      (let has = are.each i p l h.unit h.load_is in
      let m = names_begin part search_prefix (get_or names i p).0 h.unit.names f typeless has.own has.well_formed h.there in
      leads names second are new part [] from to start end i p l h (indices_still (length names) names old new part [] from to grows noted) owners m.0 m.1.0
      (record { start = m.0; is = sym (append-nil m.0) })
      (λ s. own i p l (subst (BeginsWith search_prefix) (sym s) m.1.1)) (λ k b s. others k (m.0, i) b (subst (BeginsWith search_prefix) (sym s) m.1.1))))

  -- by names of its type
  pub all_by_type : (word : List ℕ) → IsOfType part word → AreNoted names old part word 0 (length names) → AreOwnersNoted names second new part word 0 (length second) → AreAffectedBy olds new part
  all_by_type word t noted owners = all_of (λ i l p h.
      (let has = are.each i p l h.unit h.load_is in
      let m = names_of_type part word (get_or names i p).0 h.unit.names t has.own has.well_formed h.there in
      leads names second are new part word 0 (length names) 0 (length second) i p l h (indices_still (length names) names old new part word 0 (length names) grows noted) owners m.0 (inr m.1.0) m.1.1
      (λ s. (omega arith, l)) (λ k b s. (omega arith, b))))

-- no footprint has a part without a stop
pub none_found : (names : List (Name × NameLoad)) (second : List (Name × ℕ)) (part affected : List ℕ) → AreSecondaryNames names second → IsOfNoType part → HasNoStop part → AreAffectedBy names affected part
none_found names second part affected are typeless none i l p h =
    let has = are.each i p l h.unit h.load_is in
    absurd (stopless part (get_or names i p).0 h.unit.names none typeless has.own has.well_formed h.there)
