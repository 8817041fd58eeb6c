-- What stays of a load where some places changed.
use Rattle.std.proofs.Common.{◌++◌, ◌+◌, ◌<◌, ◌↔◌, ◌∷◌, ◌≡◌, ◌≤◌, ◌⊎◌}
use Rattle.parallel_load.proofs.Prelude.{[], AddsParts, All, All-append, All-cons, All-head, All-nil, All-tail, All-weaker, all_among, alone, ap, AreAffected, AreNamedAlone, AreOwnLinkTargets, AreSourcesBy, AreStill, arith, below_from_sorted, Bool, Bor, cases_lt, DependencyList, EntryMap, false, find_among, find_at, footprint, get_or, HasParts, host_view_of, HostViewMap, IfSome, inl, inr, is_some, is_sorted, IsAliasOf, IsAmong, IsAmong-append_left, IsAmong-append_right, IsAt, IsBefore, IsHeldOn, IsLoadAlone, IsMissed, IsNamedAlone, IsSource, IsStill, IsStrictlySortedBy, IsTrue, KeepsLinkTargets, keys_of, leads_decide_mains, length, level_for, link_targets_decide, List, LoadedUnit, LoadMap, main, map-append, Name, name_cmp, NamedWords, NameLoad, nat_cmp, nat_cmp-IsAntisymmetric, None, OfAlias, OfUnit, Option, option_copied, PlaceParts, refl, SameLeads, SameWords, slice_cmp-IsAntisymmetric, Some, sorted_by_keys, store_footprints_decide, StoresAgreeIn, subst, suc, sym, take, take_all, take_more, touched_words_decide, true, Viewer, visible_at, with_lists, within, words_again, words_are, zero, ℕ, ◌∙◌}
use Rattle.parallel_load.proofs.Keeping.{all_more, any_at, place_among}

-- what is named by the name with an index
named_at : (s : HostViewMap) (names : List (Name × NameLoad)) (named : List (List DependencyList)) (i : ℕ) (p : Name × NameLoad) → AreNamedAlone s names named → i < length names
    → IsNamedAlone s (get_or names i p).0 (get_or names i p).1 (get_or named i [])
named_at s [] [] i p h l = absurd (omega arith)
named_at s [] (x ∷ named) i p h l = absurd h
named_at s (q ∷ names) [] i p h l = absurd h
named_at s (q ∷ names) (x ∷ named) zero p h l = h.0
named_at s (q ∷ names) (x ∷ named) (suc i) p h l = named_at s names named i p h.1 (omega arith)

-- a name with none of the affected indices is not affected
pub missed_unless : (folders : List (List ℕ)) (names : List (Name × NameLoad)) (affected : List ℕ) (i : ℕ) (p : Name × NameLoad) (one : NameLoad) → AreAffected folders names affected → i < length names
    → ¬ IsAmong i affected → (get_or names i p).1 ≡ one → IsMissed folders (get_or names i p).0 one
missed_unless folders names affected i p (OfUnit u) all l none e = λ f a k. none (all f a i l p (record { unit = u; load_is = e; there = k }))
missed_unless folders names affected i p (OfAlias m) all l none e = tt

module _ (load : LoadMap) (now : EntryMap) (touched : List PlaceParts) (b : IsBefore load now touched) (keep : All (KeepsLinkTargets load.viewer load.words (host_view_of now load.viewer)) touched) where
  abbrev s : HostViewMap
  s = host_view_of b.before load.viewer

  abbrev t : HostViewMap
  t = host_view_of now load.viewer

  -- a place that the host sees and that didn't change shows the same
  untouched : (p : PlaceParts) → (IsAmong p touched → ⊥) → visible_at b.before p ≡ visible_at now p
  untouched p spared = by (b.rest p)
    where
      by : IsAmong p touched ⊎ (visible_at b.before p ≡ visible_at now p) → visible_at b.before p ≡ visible_at now p
      by (inl a) = absurd (spared a)
      by (inr e) = e

  -- the link targets of all names stay
  pub same_words : SameWords s t
  same_words =
      touched_words_decide b.before now load.viewer touched b.rest
      (λ p a e l. sym (words_are s load.words b.load_is.words p.path.name) ∙ all_among (KeepsLinkTargets load.viewer load.words t) touched p keep a l e)

  -- and so do the cached ones
  pub words_stay : AreOwnLinkTargets t load.words
  words_stay = words_again s t load.words same_words b.load_is.words

  -- and so does what each name is an alias of
  pub same_leads : SameLeads s t
  same_leads = link_targets_decide s t same_words

  pub same_mains : (n : Name) → main s n ≡ main t n
  same_mains = leads_decide_mains s t same_leads

  module _ (folders : List (List ℕ)) (has : All (HasParts load.viewer folders) touched) where
    -- the views agree on what the changed parts don't affect
    agree : (parts : List (List ℕ)) → ((f : List ℕ) → IsAmong f folders → ¬ IsAmong f parts) → StoresAgreeIn b.before now load.viewer parts
    agree parts missed p (alone e a) l = untouched p (λ h. missed p.path.name ((all_among (HasParts load.viewer folders) touched p has h l).1 e) a)
    agree parts missed p (within a) l = untouched p (λ h. missed p.path.folder (all_among (HasParts load.viewer folders) touched p has h l).0 a)

    unit_stays : (n : Name) (u : LoadedUnit) → IsMissed folders n (OfUnit u) → IsLoadAlone s n (OfUnit u) → IsLoadAlone t n (OfUnit u)
    unit_stays n u missed is = store_footprints_decide b.before now load.viewer n u same_leads (agree (footprint n u.names) missed) is

    alias_stays : (n m : Name) → IsAliasOf s n m → IsAliasOf t n m
    alias_stays n m a = record { main_is = sym (same_mains n) ∙ a.main_is; other = a.other }

    pub one_stays : (n : Name) (one : NameLoad) (lists : List DependencyList) → IsMissed folders n one → IsLoadAlone s n (with_lists one lists) → IsLoadAlone t n (with_lists one lists)
    one_stays n (OfUnit u) lists missed is = unit_stays n (record u { deps = lists }) missed is
    one_stays n (OfAlias m) lists missed is = alias_stays n m is

    -- what has none of the affected indices stays held
    module _ (affected : List ℕ) (all : AreAffected folders load.names affected) where
      still_loaded : (n : Name) (one : NameLoad) → IsStill affected load.names load.named n one → IsLoadAlone t n one
      still_loaded n one h =
          let there = named_at s load.names load.named h.index (n, h.load) b.load_is.named h.below in
          let P : Name × NameLoad → Type 0 = λ q. IsNamedAlone s q.0 q.1 (get_or load.named h.index []) in
          let Q : Name × NameLoad → Type 0 = λ q. IsMissed folders q.0 q.1 in
          let here = subst P h.at there in
          let missed = subst Q h.at (missed_unless folders load.names affected h.index (n, h.load) (get_or load.names h.index (n, h.load)).1 all h.below h.left refl) in
          subst (IsLoadAlone t n) (sym h.is) (one_stays n h.load (get_or load.named h.index []) missed here.alone)

      pub held_loaded : (still : List (Name × Option NameLoad)) → All (λ (p : Name × Option NameLoad). IfSome p.1 (IsStill affected load.names load.named p.0)) still → All (IsHeldOn t) still
      held_loaded [] h = All-nil (IsHeldOn t)
      held_loaded (p ∷ still) h =
          let P : Name × Option NameLoad → Type 0 = λ q. IfSome q.1 (IsStill affected load.names load.named q.0) in
          All-cons (IsHeldOn t) p still (first p.0 p.1 (All-head P p still h)) (held_loaded still (All-tail P p still h))
        where
          first : (n : Name) (o : Option NameLoad) → IfSome o (IsStill affected load.names load.named n) → IfSome o (IsLoadAlone t n)
          first n None k = tt
          first n (Some one) k = still_loaded n one k

-- names with what stays are in order
pub held_sorted : (names : List (Name × NameLoad)) (still : List (Name × Option NameLoad)) → keys_of still ≡ keys_of names → IsTrue (is_sorted name_cmp names) → IsTrue (is_sorted name_cmp still)
held_sorted names still e h = let B : Bool → Type 0 = λ b. IsTrue b in subst B (sym (sorted_by_keys name_cmp still names e)) h

-- what is held for a name that is found
pub held_is : (s : HostViewMap) (n : Name) (held : List (Name × Option NameLoad)) (at : ℕ) (x : Name × Option NameLoad) (r : Option (Bor NameLoad)) → IsAt name_cmp n held at → x ≡ get_or held at x
    → All (IsHeldOn s) held → option_copied r ≡ x.1 → IfSome r (λ one. IsLoadAlone s n one.now)
held_is s n held at x None found e loaded v = tt
held_is s n held at x (Some one) found e loaded v =
    let there = find_among name_cmp (slice_cmp-IsAntisymmetric nat_cmp-IsAntisymmetric) n held x.1
    (find_at name_cmp n held at x found ∙ ap (λ (p : Name × Option NameLoad). Some p.1) (sym e)) in
    let P : Option NameLoad → Type 0 = λ o. IfSome o (IsLoadAlone s n) in
    subst P (sym v) (all_among (IsHeldOn s) held (n, x.1) loaded there)

-- the parts of one more place
pub parts_more : (viewer : Viewer) (old new : List (List ℕ)) (touched : List PlaceParts) (i : ℕ) (d x : PlaceParts) → i < length touched → x ≡ get_or touched i d
    → AddsParts x.path old new → All (HasParts viewer old) (take i touched) → All (HasParts viewer new) (take (i + 1) touched)
parts_more viewer old new touched i d x l e adds h =
    let there : (f : List ℕ) → IsAmong f (old ++ adds.more) → IsAmong f new = λ f a. subst (λ (fs : List (List ℕ)). IsAmong f fs) (sym adds.added) a in
    all_more (HasParts viewer new) touched i d x l e
    (All-weaker (HasParts viewer old) (HasParts viewer new)
    (λ p k s. (there p.path.folder (IsAmong-append_left p.path.folder old adds.more (k s).0), λ z. there p.path.name (IsAmong-append_left p.path.name old adds.more ((k s).1 z)))) (take i touched) h)
    (λ s. (there x.path.folder (IsAmong-append_right x.path.folder old adds.more adds.folder), λ z. there x.path.name (IsAmong-append_right x.path.name old adds.more (adds.name z))))

-- or of one that the host doesn't see
pub parts_same : (viewer : Viewer) (parts : List (List ℕ)) (touched : List PlaceParts) (i : ℕ) (d x : PlaceParts) → i < length touched → x ≡ get_or touched i d
    → is_some (level_for viewer x) ≡ false → All (HasParts viewer parts) (take i touched) → All (HasParts viewer parts) (take (i + 1) touched)
parts_same viewer parts touched i d x l e f h =
    all_more (HasParts viewer parts) touched i d x l e h (λ s. absurd (let wrong : false ≡ true = sym f ∙ s in cc (wrong)))

-- ascending numbers don't descend
pub indices_ascend : (xs : List ℕ) → IsStrictlySortedBy nat_cmp xs → (i j : ℕ) → i ≤ j → j < length xs → get_or xs i 0 ≤ get_or xs j 0
indices_ascend xs h i j l m = by (cases_lt i j)
  where
    by : (i < j) ⊎ (j ≤ i) → get_or xs i 0 ≤ get_or xs j 0
    by (inl k) = let b = below_from_sorted xs i j 0 h k m in omega (arith, b)
    by (inr k) =
        let e : j ≡ i = omega (arith, k, l) in
        subst (λ (n : ℕ). get_or xs n 0 ≤ get_or xs j 0) e (omega arith)

-- a number with lesser ones before a place and greater ones from there on is not among them
pub none_where : (xs : List ℕ) (x at : ℕ) → ((k : ℕ) → k < at → get_or xs k 0 < x) → ((k : ℕ) → at ≤ k → k < length xs → x < get_or xs k 0) → ¬ IsAmong x xs
none_where xs x at below above a = by (place_among x 0 xs a)
  where
    by : (i : ℕ) × ((i < length xs) × (get_or xs i 0 ≡ x)) → ⊥
    by (i, (l, e)) = which (cases_lt i at)
      where
        which : (i < at) ⊎ (at ≤ i) → ⊥
        which (inl k) = let b = below i k in omega (arith, b, e)
        which (inr k) = let b = above i k l in omega (arith, b, e)

-- what stays of the name with an index
pub still_one : (affected : List ℕ) (names : List (Name × NameLoad)) (named : List (List DependencyList)) (i : ℕ) (x : Name × NameLoad) (lists : List DependencyList) (k : Option NameLoad)
    → i < length names → length named ≡ length names → x ≡ get_or names i x → lists ≡ get_or named i lists → IfSome k (λ one. one ≡ with_lists x.1 lists) → IfSome k (λ _. ¬ IsAmong i affected)
    → IfSome k (IsStill affected names named x.0)
still_one affected names named i x lists None l each e f same left = tt
still_one affected names named i x lists (Some one) l each e f same left = record {
  index = i;
  below = l;
  load = x.1;
  at = sym e;
  is = same ∙ ap (with_lists x.1) (f ∙ any_at named i lists [] (omega (arith, l, each)));
  left = left;
}

-- the same for one more name
pub still_more : (affected : List ℕ) (names : List (Name × NameLoad)) (named : List (List DependencyList)) (i : ℕ) (x : Name × NameLoad) (n : Name) (k : Option NameLoad) (now new : List (Name × Option NameLoad))
    → i < length names → x ≡ get_or names i x → n ≡ x.0 → IfSome k (IsStill affected names named x.0) → new ≡ now ++ (n, k) ∷ []
    → (keys_of now ≡ keys_of (take i names)) × All (λ (p : Name × Option NameLoad). IfSome p.1 (IsStill affected names named p.0)) now
    → (keys_of new ≡ keys_of (take (i + 1) names)) × All (λ (p : Name × Option NameLoad). IfSome p.1 (IsStill affected names named p.0)) new
still_more affected names named i x n k now new l e key one is h =
    let P : Name × Option NameLoad → Type 0 = λ p. IfSome p.1 (IsStill affected names named p.0) in
    let Q : Name → Type 0 = λ m. IfSome k (IsStill affected names named m) in
    let key_of : Name × Option NameLoad → Name = λ p. p.0 in
    let name_of : Name × NameLoad → Name = λ p. p.0 in
    let taken : take (i + 1) names ≡ take i names ++ x ∷ [] = take_more names i x l ∙ ap (λ (y : Name × NameLoad). take i names ++ y ∷ []) (sym e) in (
      ap (λ (ps : List (Name × Option NameLoad)). keys_of ps) is ∙ map-append key_of now ((n, k) ∷ []) ∙ ap (λ (ks : List Name). ks ++ n ∷ []) h.0
          ∙ ap (λ (m : Name). keys_of (take i names) ++ m ∷ []) key ∙ sym (map-append name_of (take i names) (x ∷ [])) ∙ ap (λ (ps : List (Name × NameLoad)). keys_of ps) (sym taken),
      subst (All P) (sym is) (All-append P now ((n, k) ∷ []) h.1 (All-cons P (n, k) [] (subst Q (sym key) one) (All-nil P))),
    )

-- before the first name
pub still_none : (affected : List ℕ) (names : List (Name × NameLoad)) (named : List (List DependencyList)) (now : List (Name × Option NameLoad)) → now ≡ []
    → (keys_of now ≡ keys_of (take 0 names)) × All (λ (p : Name × Option NameLoad). IfSome p.1 (IsStill affected names named p.0)) now
still_none affected names named now e =
    let P : Name × Option NameLoad → Type 0 = λ p. IfSome p.1 (IsStill affected names named p.0) in
    (ap (λ (ps : List (Name × Option NameLoad)). keys_of ps) e, subst (All P) (sym e) (All-nil P))

-- after the last
pub still_all : (affected : List ℕ) (names names' : List (Name × NameLoad)) (named named' : List (List DependencyList)) (i : ℕ) (now : List (Name × Option NameLoad))
    → names ≡ names' → named ≡ named' → length names ≤ i
    → (keys_of now ≡ keys_of (take i names)) × All (λ (p : Name × Option NameLoad). IfSome p.1 (IsStill affected names named p.0)) now → AreStill affected names' named' now
still_all affected names names' named named' i now e f l h =
    let P : List (Name × NameLoad) → Type 0 = λ ns. AreStill affected ns named' now in
    let Q : List (List DependencyList) → Type 0 = λ ls. AreStill affected names ls now in
    subst P e (subst Q f (record { keys_are = h.0 ∙ ap (λ (ps : List (Name × NameLoad)). keys_of ps) (take_all i names l); each = h.1 }))

-- the sources of what is asked for, if the cached link targets are those of the view
pub same_sources : (v : HostViewMap) (words kept : NamedWords) (asked extra sources : List Name) → kept ≡ words → asked ≡ extra → AreOwnLinkTargets v words → AreSourcesBy v.profile kept asked sources
    → (n : Name) → IsAmong n sources ↔ IsSource v extra n
same_sources v words kept asked extra sources e f own h =
    let P : List Name → Type 0 = λ ns. (n : Name) → IsAmong n sources ↔ IsSource v ns n in
    subst P f (h v refl (subst (AreOwnLinkTargets v) (sym e) own))
