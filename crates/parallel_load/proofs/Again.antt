-- A load whose affected units were read again, where each unit names what it named before.
use Rattle.std.proofs.Common.{◌<◌, ◌∷◌, ◌≡◌, ◌≤◌, ◌⊎◌}
use Rattle.parallel_load.proofs.Prelude.{[], All, All-cons, All-head, All-nil, All-tail, ap, AreIndexed, AreLoaded, AreLoadsAgain, AreNamedAlone, AreNames, AreNormalized, AreOwnLinkTargets, AreReadOrLeft, AreRows, AreUniverse, Dependency, DependencyList, DepKind, EntryMap, flat_map, get_or, HasParts, host_view_of, HostViewMap, inl, inr, IsAmong, IsBefore, IsFound, IsKept, IsListed, IsLoad, IsLoadAgain, IsLoadAlone, IsMainIndex, IsMissed, IsNormalizedRow, IsOwnUnit, IsTooLarge, IsUnit, KeepsItsNames, KeepsLinkTargets, keys_length, keys_of, length, List, list_indices, load_indices, LoadedUnit, LoadMap, main, main_name, mains_decide, map, Name, name_indices, name_lists, name_loads, NameLoad, Normalized, normalized_name, OfAlias, OfUnit, one_viewer, PlaceParts, refl, row_alone, same_names_keep_the_universe, sorted_from, subst, suc, sym, Viewer, with_lists, with_loads, words_keep_visible_names, ℕ, ◌∙◌}
use Rattle.parallel_load.proofs.{Indexing.{is_ready, IsReady, row_normalized}, Keeping.{get_among}, Normalizing.{load_is, not_too_large, whole_found}, Staying.{one_stays, same_leads, same_mains, same_words, words_stay}}

-- ---- rows

-- what the row's name resolves to, before names are replaced by main names
abbrev pub IsAloneRow : HostViewMap → Normalized → Type 0
IsAloneRow s row = IsLoadAlone s row.name (with_lists row.load row.lists)

rows_alone : (s : HostViewMap) (rows : List Normalized) → AreNamedAlone s (name_loads rows) (name_lists rows) → All (IsAloneRow s) rows
rows_alone s [] h = All-nil (IsAloneRow s)
rows_alone s (r ∷ rows) h = All-cons (IsAloneRow s) r rows h.0.alone (rows_alone s rows h.1)

alone_loaded : (s : HostViewMap) (rows : List Normalized) → All (IsAloneRow s) rows → AreLoaded (IsLoadAlone s) (map row_alone rows)
alone_loaded s [] h = All-nil (λ (p : Name × NameLoad). IsLoadAlone s p.0 p.1)
alone_loaded s (r ∷ rows) h =
    All-cons (λ (p : Name × NameLoad). IsLoadAlone s p.0 p.1) (row_alone r) (map row_alone rows) (All-head (IsAloneRow s) r rows h)
    (alone_loaded s rows (All-tail (IsAloneRow s) r rows h))

abbrev names_of : List Normalized → List Name
names_of rows = map (λ r. r.name) rows

loads_keys : (rows : List Normalized) → keys_of (name_loads rows) ≡ names_of rows
loads_keys [] = refl
loads_keys (r ∷ rows) = ap (λ (ks : List Name). r.name ∷ ks) (loads_keys rows)

alone_keys : (rows : List Normalized) → keys_of (map row_alone rows) ≡ names_of rows
alone_keys [] = refl
alone_keys (r ∷ rows) = ap (λ (ks : List Name). r.name ∷ ks) (alone_keys rows)

-- rows are made from what they have before names are replaced by main names
made_of : (ms : List (Name × ℕ)) (rows : List Normalized) → All (IsNormalizedRow ms) rows → rows ≡ map (normalized_name ms) (map row_alone rows)
made_of ms [] h = refl
made_of ms (r ∷ rows) h =
    ap (λ (x : Normalized). x ∷ rows) (All-head (IsNormalizedRow ms) r rows h)
    ∙ ap (λ (xs : List Normalized). normalized_name ms (row_alone r) ∷ xs) (made_of ms rows (All-tail (IsNormalizedRow ms) r rows h))

main_alone : (n : Name) (one : NameLoad) (lists : List DependencyList) → main_name (n, with_lists one lists) ≡ main_name (n, one)
main_alone n (OfUnit u) lists = refl
main_alone n (OfAlias m) lists = refl

pub item_among : {X : Type 0} (xs : List X) (i : ℕ) (x : X) → i < length xs → x ≡ get_or xs i x → IsAmong x xs
item_among xs i x l e = subst (λ y. IsAmong y xs) (sym e) (get_among xs i x l)

-- ---- rows, some of which were read again

-- the row of a unit that is read again, which names what it named
record IsRereadRow (t : HostViewMap) (mains : List (Name × ℕ)) (old new : Normalized) : Type 0 where
  was : LoadedUnit
  load_is : old.load ≡ OfUnit was
  unit : LoadedUnit
  is_unit : IsUnit t old.name unit
  names_stay : unit.deps ≡ old.lists
  is : new ≡ normalized_name mains (old.name, OfUnit unit)

-- the row stays, since these folders don't affect it, or its unit was read again
abbrev IsRowAgain : HostViewMap → List (List ℕ) → List (Name × ℕ) → Normalized → Normalized → Type 0
IsRowAgain t folders mains old new = ((new ≡ old) × IsMissed folders old.name old.load) ⊎ IsRereadRow t mains old new

-- the same for all rows
abbrev AreRowsAgain : HostViewMap → List (List ℕ) → List (Name × ℕ) → List Normalized → List Normalized → Type 0
AreRowsAgain t folders mains [] [] = Unit {0}
AreRowsAgain t folders mains [] (new ∷ news) = ⊥
AreRowsAgain t folders mains (old ∷ olds) [] = ⊥
AreRowsAgain t folders mains (old ∷ olds) (new ∷ news) = IsRowAgain t folders mains old new × AreRowsAgain t folders mains olds news

module _ (t : HostViewMap) (folders : List (List ℕ)) (ms : List (Name × ℕ)) where
  name_again : (old new : Normalized) → IsRowAgain t folders ms old new → new.name ≡ old.name
  name_again old new (inl k) = ap (λ (r : Normalized). r.name) k.0
  name_again old new (inr r) = ap (λ (x : Normalized). x.name) r.is

  names_again : (olds news : List Normalized) → AreRowsAgain t folders ms olds news → names_of news ≡ names_of olds
  names_again [] [] h = refl
  names_again [] (w ∷ news) h = absurd h
  names_again (o ∷ olds) [] h = absurd h
  names_again (o ∷ olds) (w ∷ news) h =
      ap (λ (n : Name). n ∷ names_of news) (name_again o w h.0) ∙ ap (λ (ks : List Name). o.name ∷ ks) (names_again olds news h.1)

  main_again : (old new : Normalized) → IsRowAgain t folders ms old new → main_name (row_alone new) ≡ main_name (old.name, old.load)
  main_again old new (inl k) = ap (λ (r : Normalized). main_name (row_alone r)) k.0 ∙ main_alone old.name old.load old.lists
  main_again old new (inr r) = ap (λ (x : Normalized). main_name (row_alone x)) r.is ∙ ap (λ (one : NameLoad). main_name (old.name, one)) (sym r.load_is)

  normalized_again : (old new : Normalized) → IsRowAgain t folders ms old new → IsNormalizedRow ms old → IsNormalizedRow ms new
  normalized_again old new (inl k) h = subst (IsNormalizedRow ms) (sym k.0) h
  normalized_again old new (inr r) h = subst (IsNormalizedRow ms) (sym r.is) (row_normalized ms old.name (OfUnit r.unit))

  all_normalized : (olds news : List Normalized) → AreRowsAgain t folders ms olds news → All (IsNormalizedRow ms) olds → All (IsNormalizedRow ms) news
  all_normalized [] [] h k = All-nil (IsNormalizedRow ms)
  all_normalized [] (w ∷ news) h k = absurd h
  all_normalized (o ∷ olds) [] h k = absurd h
  all_normalized (o ∷ olds) (w ∷ news) h k =
      All-cons (IsNormalizedRow ms) w news (normalized_again o w h.0 (All-head (IsNormalizedRow ms) o olds k)) (all_normalized olds news h.1 (All-tail (IsNormalizedRow ms) o olds k))

  -- the indices stay those of main names
  module _ (found again : List (Name × NameLoad)) (keys : keys_of found ≡ keys_of again) where
    index_again : (p q : Name × NameLoad) (index : ℕ) → main_name q ≡ main_name p → IsMainIndex found p index → IsMainIndex again q index
    index_again p q index e h =
        let count : length found ≡ length again = sym (keys_length found) ∙ ap length keys ∙ keys_length again in
        let P : ℕ → Type 0 = λ k. index < k in
        let Q : List Name → Type 0 = λ ks. IsAmong (main_name q) ks in
        let R : Name → Type 0 = λ n. IsAmong n (keys_of found) in
        record {
          below = subst P count h.below;
          named = λ a. ap (λ (ks : List Name). get_or ks index []) (sym keys) ∙ h.named (subst R e (subst Q (sym keys) a)) ∙ sym e;
        }

    indices_again : (olds news : List Normalized) (ks : List (Name × ℕ)) → AreRowsAgain t folders ms olds news → AreIndexed found (name_loads olds) ks → AreIndexed again (map row_alone news) ks
    indices_again [] [] [] h n = tt
    indices_again [] [] (k ∷ ks) h n = absurd n
    indices_again [] (w ∷ news) ks h n = absurd h
    indices_again (o ∷ olds) [] ks h n = absurd h
    indices_again (o ∷ olds) (w ∷ news) [] h n = absurd n
    indices_again (o ∷ olds) (w ∷ news) (k ∷ ks) h n = (
      n.0 ∙ sym (name_again o w h.0),
      index_again (o.name, o.load) (row_alone w) k.1 (main_again o w h.0) n.1,
      indices_again olds news ks h.1 n.2,
    )

-- ---- what names resolve to, some of which were read again

-- each name has its lists
lists_length : (rows : List Normalized) → length (name_lists rows) ≡ length (name_loads rows)
lists_length [] = refl
lists_length (r ∷ rows) = ap suc (lists_length rows)

pub one_each : (names : List (Name × NameLoad)) (named : List (List DependencyList)) (table : List (List Dependency)) (ms : List (Name × ℕ)) → IsKept names named table ms → length named ≡ length names
one_each names named table ms k = ap length k.are_rows.named_are ∙ lists_length k.all ∙ sym (ap length k.are_rows.names_are)

-- so units that are read again are that for an equal host
pub read_for : (store : EntryMap) (h k : Viewer) (affected : List ℕ) (ms ns : List (Name × ℕ)) (olds names : List (Name × NameLoad)) (lists named : List (List DependencyList))
    (units : List (ℕ × NameLoad)) → h ≡ k → ms ≡ ns → olds ≡ names → lists ≡ named → AreReadOrLeft (host_view_of store h) ms affected olds lists (with_loads olds units)
    → AreReadOrLeft (host_view_of store k) ns affected names named (with_loads names units)
read_for store h k affected ms ns olds names lists named units e f g d a =
    let P : Viewer → Type 0 = λ x. AreReadOrLeft (host_view_of store x) ns affected names named (with_loads names units) in
    let Q : List (Name × ℕ) → Type 0 = λ x. AreReadOrLeft (host_view_of store h) x affected names named (with_loads names units) in
    let R : List (Name × NameLoad) → Type 0 = λ x. AreReadOrLeft (host_view_of store h) ms affected x named (with_loads x units) in
    let S : List (List DependencyList) → Type 0 = λ x. AreReadOrLeft (host_view_of store h) ms affected olds x (with_loads olds units) in
    subst P e (subst Q f (subst R g (subst S d a)))

-- rows with what their names resolve to now
abbrev rows_with : List Normalized → List (Name × NameLoad) → List Normalized
rows_with [] news = []
rows_with (o ∷ olds) [] = []
rows_with (o ∷ olds) (w ∷ news) = record o { load = w.1 } ∷ rows_with olds news

module _ (s t : HostViewMap) (folders : List (List ℕ)) (ms : List (Name × ℕ)) where
  -- a unit that names what it named has the same indices
  indices_stay : (o : Normalized) (was unit : LoadedUnit) → IsNormalizedRow ms o → IsAloneRow s o → o.load ≡ OfUnit was → IsUnit t o.name unit → unit.deps ≡ o.lists
      → o.deps ≡ load_indices ms (OfUnit unit)
  indices_stay o was unit made alone e is stay =
      let P : NameLoad → Type 0 = λ one. IsLoadAlone s o.name (with_lists one o.lists) in
      let named : was.name ≡ o.name = (subst P e alone).name_is in
      ap (λ (x : Normalized). x.deps) made
      ∙ ap (λ (one : NameLoad). load_indices ms (with_lists one o.lists)) e
      ∙ ap (λ (n : Name). flat_map (list_indices ms n) o.lists) (named ∙ sym is.name_is)
      ∙ ap (λ (ls : List DependencyList). flat_map (list_indices ms unit.name) ls) (sym stay)

  row_with : (o : Normalized) (new : NameLoad) → IsNormalizedRow ms o → IsAloneRow s o → IsLoadAgain t folders ms (o.name, o.load) o.lists new → IsRowAgain t folders ms o (record o { load = new })
  row_with o new made alone (inl k) = inl ((λ i. record { name = o.name; load = k.0 i; lists = o.lists; deps = o.deps }), k.1)
  row_with o new made alone (inr r) =
      let deps = indices_stay o r.was r.unit made alone r.load_is r.is_unit r.names_stay in
      let lists : o.lists ≡ r.unit.deps = sym r.names_stay in
      inr (record {
        was = r.was;
        load_is = r.load_is;
        unit = r.unit;
        is_unit = r.is_unit;
        names_stay = r.names_stay;
        is = λ i. record { name = o.name; load = r.is i; lists = lists i; deps = deps i };
      })

  rows_again : (olds : List Normalized) (news : List (Name × NameLoad)) → All (IsNormalizedRow ms) olds → All (IsAloneRow s) olds → AreLoadsAgain t folders ms (name_loads olds) (name_lists olds) news
      → AreRowsAgain t folders ms olds (rows_with olds news)
  rows_again [] [] made alone h = tt
  rows_again [] (w ∷ news) made alone h = absurd h
  rows_again (o ∷ olds) [] made alone h = absurd h
  rows_again (o ∷ olds) (w ∷ news) made alone h = (
    row_with o w.1 (All-head (IsNormalizedRow ms) o olds made) (All-head (IsAloneRow s) o olds alone) h.1,
    rows_again olds news (All-tail (IsNormalizedRow ms) o olds made) (All-tail (IsAloneRow s) o olds alone) h.2,
  )

  loads_with : (olds : List Normalized) (news : List (Name × NameLoad)) → AreLoadsAgain t folders ms (name_loads olds) (name_lists olds) news → name_loads (rows_with olds news) ≡ news
  loads_with [] [] h = refl
  loads_with [] (w ∷ news) h = absurd h
  loads_with (o ∷ olds) [] h = absurd h
  loads_with (o ∷ olds) (w ∷ news) h =
      ap (λ (n : Name). let p : Name × NameLoad = (n, w.1) in p ∷ name_loads (rows_with olds news)) (sym h.0)
      ∙ ap (λ (ps : List (Name × NameLoad)). w ∷ ps) (loads_with olds news h.2)

  lists_with : (olds : List Normalized) (news : List (Name × NameLoad)) → AreLoadsAgain t folders ms (name_loads olds) (name_lists olds) news → name_lists (rows_with olds news) ≡ name_lists olds
  lists_with [] [] h = refl
  lists_with [] (w ∷ news) h = absurd h
  lists_with (o ∷ olds) [] h = absurd h
  lists_with (o ∷ olds) (w ∷ news) h = ap (λ (ls : List (List DependencyList)). o.lists ∷ ls) (lists_with olds news h.2)

  indices_with : (olds : List Normalized) (news : List (Name × NameLoad)) → AreLoadsAgain t folders ms (name_loads olds) (name_lists olds) news → name_indices (rows_with olds news) ≡ name_indices olds
  indices_with [] [] h = refl
  indices_with [] (w ∷ news) h = absurd h
  indices_with (o ∷ olds) [] h = absurd h
  indices_with (o ∷ olds) (w ∷ news) h = ap (λ (ds : List (List Dependency)). o.deps ∷ ds) (indices_with olds news h.2)

-- ---- the load

module _ (load : LoadMap) (now : EntryMap) (touched : List PlaceParts) (b : IsBefore load now touched) (keep : All (KeepsLinkTargets load.viewer load.words (host_view_of now load.viewer)) touched)
    (folders : List (List ℕ)) (has : All (HasParts load.viewer folders) touched) (table : List (List Dependency)) (ms : List (Name × ℕ)) (kept : IsKept load.names load.named table ms) where
  abbrev s : HostViewMap
  s = host_view_of b.before load.viewer

  abbrev t : HostViewMap
  t = host_view_of now load.viewer

  abbrev olds : List Normalized
  olds = kept.all

  abbrev rows : AreRows load.names load.named ms olds
  rows = kept.are_rows

  olds_alone : All (IsAloneRow s) olds
  olds_alone =
      let P : List (Name × NameLoad) → Type 0 = λ ps. AreNamedAlone s ps (name_lists olds) in
      let Q : List (List DependencyList) → Type 0 = λ ls. AreNamedAlone s load.names ls in
      rows_alone s olds (subst P rows.names_are (subst Q rows.named_are b.load_is.named))

  -- a main name of a unit stays its main name, and has the unit's names
  own_by : (n : Name) (one : NameLoad) (lists : List DependencyList) → IsLoadAlone s n (with_lists one lists) → (u : LoadedUnit) → one ≡ OfUnit u
      → (main t n ≡ n) × AreNames t n u.names
  own_by n (OfUnit v) lists p u e =
      let same : v ≡ u = cc (e) in
      let P : LoadedUnit → Type 0 = λ w. AreNames t n w.names in
      let mains = same_mains load now touched b keep in
      (sym (mains n) ∙ p.main_is, subst P same (mains_decide s t mains n v.names p.names_are))
  own_by n (OfAlias m) lists p u e = cc (e)

  own_all : (names : List (Name × NameLoad)) (named : List (List DependencyList)) → AreNamedAlone s names named → All (IsOwnUnit t) names
  own_all [] named h = All-nil (IsOwnUnit t)
  own_all (p ∷ names) [] h = absurd h
  own_all (p ∷ names) (l ∷ named) h = All-cons (IsOwnUnit t) p names (λ u e. own_by p.0 p.1 l h.0.alone u e) (own_all names named h.1)

  pub owns : All (IsOwnUnit t) load.names
  owns = own_all load.names load.named b.load_is.named

  -- what each name resolves to in the new store
  alone_again : (old new : Normalized) → IsAloneRow s old → IsRowAgain t folders ms old new → IsAloneRow t new
  alone_again old new p (inl k) =
      subst (IsAloneRow t) (sym k.0) (one_stays load now touched b keep folders has old.name old.load old.lists k.1 p)
  alone_again old new p (inr r) = subst (IsAloneRow t) (sym r.is) r.is_unit

  all_alone : (some news : List Normalized) → All (IsAloneRow s) some → AreRowsAgain t folders ms some news → All (IsAloneRow t) news
  all_alone [] [] p h = All-nil (IsAloneRow t)
  all_alone [] (w ∷ news) p h = absurd h
  all_alone (o ∷ some) [] p h = absurd h
  all_alone (o ∷ some) (w ∷ news) p h =
      All-cons (IsAloneRow t) w news (alone_again o w (All-head (IsAloneRow s) o some p) h.0) (all_alone some news (All-tail (IsAloneRow s) o some p) h.1)

  -- each unit names what it named
  keeps_unit : (n : Name) (u : LoadedUnit) (lists : List DependencyList) → IsLoadAlone s n (OfUnit (record u { deps = lists })) → (after : LoadedUnit) → IsLoadAlone t n (OfUnit after)
      → after.deps ≡ lists → KeepsItsNames s t n
  keeps_unit n u lists p after q e =
      let N : Name → List DependencyList → Type 0 = λ m ls. (dep : DepKind) × IsListed ls dep m in
      record {
        before = record u { deps = lists };
        after = after;
        is_before = p;
        is_after = q;
        same = λ m. (subst (N m) (sym e), subst (N m) e);
      }

  keeps_row : (old new : Normalized) (n : Name) (one : NameLoad) → old.load ≡ one → main s old.name ≡ old.name → IsLoadAlone s old.name (with_lists one old.lists) → IsRowAgain t folders ms old new
      → KeepsItsNames s t old.name
  keeps_row old new n (OfUnit u) e own p (inl k) =
      let P : NameLoad → Type 0 = λ one. IsMissed folders old.name one in
      keeps_unit old.name u old.lists p (record u { deps = old.lists })
      (one_stays load now touched b keep folders has old.name (OfUnit u) old.lists (subst P e k.1) p) refl
  keeps_row old new n (OfUnit u) e own p (inr r) = keeps_unit old.name u old.lists p r.unit r.is_unit r.names_stay
  keeps_row old new n (OfAlias m) e own p h = absurd (p.other (sym p.main_is ∙ own))

  keeps : (some news : List Normalized) → All (IsAloneRow s) some → AreRowsAgain t folders ms some news → (n : Name) → main s n ≡ n → IsAmong n (names_of some) → KeepsItsNames s t n
  keeps [] news p h n own a = absurd a
  keeps (o ∷ some) [] p h n own a = absurd h
  keeps (o ∷ some) (w ∷ news) p h n own (inl e) =
      let P : Name → Type 0 = λ m. main s m ≡ m in
      subst (KeepsItsNames s t) e (keeps_row o w n o.load refl (subst P (sym e) own) (All-head (IsAloneRow s) o some p) h.0)
  keeps (o ∷ some) (w ∷ news) p h n own (inr a) = keeps some news (All-tail (IsAloneRow s) o some p) h.1 n own a

  module _ (news : List Normalized) (again : AreRowsAgain t folders ms olds news) where
    keys_again : keys_of load.names ≡ keys_of (map row_alone news)
    keys_again =
        ap (λ (ps : List (Name × NameLoad)). keys_of ps) rows.names_are ∙ loads_keys olds ∙ sym (names_again t folders ms olds news again) ∙ sym (alone_keys news)

    universe_again : AreUniverse t load.extra (keys_of (map row_alone news))
    universe_again =
        let names : names_of olds ≡ keys_of load.names = sym (loads_keys olds) ∙ sym (ap (λ (ps : List (Name × NameLoad)). keys_of ps) rows.names_are) in
        subst (AreUniverse t load.extra) keys_again
        (same_names_keep_the_universe s t load.extra (keys_of load.names) refl (same_leads load now touched b keep)
        (words_keep_visible_names s t (same_words load now touched b keep))
        (λ n r own. keeps olds news olds_alone again n own (let P : List Name → Type 0 = λ ks. IsAmong n ks in subst P (sym names) ((b.load_is.universe.members n).1 r)))
        b.load_is.universe)

    few_again : length (keys_of (map row_alone news)) ≤ 4096
    few_again =
        let P : ℕ → Type 0 = λ k. k ≤ 4096 in
        subst P (sym (keys_length load.names) ∙ ap length keys_again) rows.few

    found_again : IsFound t load.extra (map row_alone news)
    found_again = record {
      universe = universe_again;
      loaded = alone_loaded t news (all_alone olds news olds_alone again);
      few = few_again;
    }

    indexed_again : AreIndexed (map row_alone news) (map row_alone news) ms
    indexed_again =
        let P : List (Name × NameLoad) → Type 0 = λ ps. AreIndexed load.names ps ms in
        indices_again t folders ms load.names (map row_alone news) keys_again olds news ms again (subst P rows.names_are rows.indexed)

    ready_again : IsReady (map row_alone news) ms news
    ready_again =
        is_ready (map row_alone news) (map row_alone news) ms news (sorted_from (map row_alone news) universe_again.ascending) (whole_found t load.extra (map row_alone news) found_again)
        (let P : ℕ → Type 0 = λ k. k ≤ 4096 in subst P (keys_length (map row_alone news)) few_again)
        indexed_again refl (made_of ms news (all_normalized t folders ms olds news again rows.normalized))

    rows_load : (new : LoadMap) → new.viewer ≡ load.viewer → new.extra ≡ load.extra → new.names ≡ name_loads news → new.named ≡ name_lists news → new.words ≡ load.words
        → IsLoad t load.extra new
    rows_load new viewer extra names named words =
        let P : List (Name × NameLoad) → Type 0 = λ ps. AreNormalized (map row_alone news) ps new.named in
        let Q : List (List DependencyList) → Type 0 = λ ls. AreNormalized (map row_alone news) (name_loads news) ls in
        load_is t load.extra (map row_alone news) found_again new (viewer ∙ sym (one_viewer now load.viewer)) extra
        (subst P (sym names) (subst Q (sym named) ready_again.normalized))
        (subst (AreOwnLinkTargets t) (sym words) (words_stay load now touched b keep))

    rows_few : ¬ IsTooLarge t load.extra
    rows_few = not_too_large t load.extra (map row_alone news) found_again

  module _ (news : List (Name × NameLoad)) (again : AreLoadsAgain t folders ms load.names load.named news) where
    again_here : AreLoadsAgain t folders ms (name_loads olds) (name_lists olds) news
    again_here =
        let P : List (Name × NameLoad) → Type 0 = λ ps. AreLoadsAgain t folders ms ps (name_lists olds) news in
        let Q : List (List DependencyList) → Type 0 = λ ls. AreLoadsAgain t folders ms load.names ls news in
        subst P rows.names_are (subst Q rows.named_are again)

    abbrev all : List Normalized
    all = rows_with olds news

    all_again : AreRowsAgain t folders ms olds all
    all_again = rows_again s t folders ms olds news rows.normalized olds_alone again_here

    loads_are : name_loads all ≡ news
    loads_are = loads_with s t folders ms olds news again_here

    lists_are : name_lists all ≡ load.named
    lists_are = lists_with s t folders ms olds news again_here ∙ sym rows.named_are

    pub kept_again : IsKept news load.named table ms
    kept_again =
        let P : List (Name × NameLoad) → Type 0 = λ ps. IsKept ps load.named table ms in
        let Q : List (List DependencyList) → Type 0 = λ ls. IsKept (name_loads all) ls table ms in
        let R : List (List Dependency) → Type 0 = λ ds. IsKept (name_loads all) (name_lists all) ds ms in
        subst P loads_are (subst Q lists_are (subst R (indices_with s t folders ms olds news again_here ∙ sym kept.table_is) (ready_again all all_again).kept))

    pub load_again : (new : LoadMap) → new.viewer ≡ load.viewer → new.extra ≡ load.extra → new.names ≡ news → new.named ≡ load.named → new.words ≡ load.words → IsLoad t load.extra new
    load_again new viewer extra names named words = rows_load all all_again new viewer extra (names ∙ sym loads_are) (named ∙ sym lists_are) words

    pub few_is : ¬ IsTooLarge t load.extra
    few_is = rows_few all all_again
