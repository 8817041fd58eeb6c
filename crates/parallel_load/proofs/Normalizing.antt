-- What was found, after names are replaced by main names, is the load.
use Rattle.std.{proofs.Common.{if◌then◌else◌, ◌↔◌, ◌∷◌, ◌≡◌, ◌≤◌}, specs.FinMap.Entries.{is_sorted}}
use Rattle.parallel_load.proofs.Prelude.{[], All-cons, All-head, All-nil, All-tail, all_among, among_map, ap, AreIndexed, AreLoaded, AreNamedAlone, AreNormalized, AreOwnLinkTargets, AreUniverse, Bool, by_mains, ClosureFault, cond, cons_option, DependencyList, Err, false, filter, find, flat_map_among, get_or, HasOver, HostViewMap, IfErr, in_byte_order, inl, inr, is_same, IsAmong, IsClosure, IsErrAnd, IsFound, IsLoad, IsLoadAlone, IsNamedAlone, IsNameLoad, IsNormalizedLoad, IsSource, IsTooLarge, IsTrue, IsWhole, key_at, keys_of, LeadsByLoad, LeadsTo, length, length-map, List, list_by_mains, list_normalized, Listed, lists_in, load_normalized, LoadedUnit, LoadFault, LoadMap, main, main_name, mains_are_their_own, map, map_among, Memory, Name, name_cmp, name_lists, name_loads, named_in, NamedWords, NameLoad, names_in_lists, nat_list_cmp_total, None, normalized_name, not, not_over, OfAlias, OfUnit, Ok, OnTooMany, Option, option_and_then, other_indices, other_mains, reached_closed, refl, refusal_by_workers, refusal_of, Result, Some, sorted_from, subst, sym, TooMany, true, unit_normalized, unless_unit, Viewer, viewer_of, WorkersFault, ℕ, ◌∙◌}
use Rattle.parallel_load.proofs.{Closing.{step_leads, too_large, universe_is}, Indexing.{indexed_keys, normalized_keys, place_of}}
use Rattle.name_closure.specs.Faults as one_thread
use Rattle.worker_rounds.specs.declared.faults.RoundFault.TheVariants as there
use Rattle.worker_rounds.specs.Refusals as by_workers

-- ---- the same names give the same lists

map_same : {X Y : Type 0} (f g : X → Y) (xs : List X) → ((x : X) → IsAmong x xs → f x ≡ g x) → map f xs ≡ map g xs
map_same f g [] h = refl
map_same f g (x ∷ xs) h = ap (λ y. y ∷ map f xs) (h x (inl refl)) ∙ ap (λ ys. g x ∷ ys) (map_same f g xs (λ y a. h y (inr a)))

-- a name's index is that of this main name
record HasMain (ms : List (Name × ℕ)) (name main : Name) : Type 0 where
  index : ℕ
  found_is : find name_cmp name ms ≡ Some index
  main_is : key_at ms index ≡ main

module _ (ms : List (Name × ℕ)) (main_of : Name → Name) (unit : Name) where
  -- a main name, unless it is the unit's
  one_kept : (b : Bool) (index : ℕ) (is : List ℕ) → map (key_at ms) (cons_option (if b then None else Some index) is) ≡ cond (not b) (key_at ms index ∷ map (key_at ms) is) (map (key_at ms) is)
  one_kept true index is = refl
  one_kept false index is = refl

  mains_same : (names : List Name) → ((m : Name) → IsAmong m names → HasMain ms m (main_of m)) → other_mains ms unit names ≡ filter (λ m. not (is_same m unit)) (map main_of names)
  mains_same [] h = refl
  mains_same (x ∷ xs) h =
      let first = h x (inl refl) in
      let rest = mains_same xs (λ m a. h m (inr a)) in
      ap (λ (o : Option ℕ). map (key_at ms) (cons_option (option_and_then (unless_unit ms unit) o) (other_indices ms unit xs))) first.found_is
      ∙ one_kept (is_same (key_at ms first.index) unit) first.index (other_indices ms unit xs)
      ∙ ap (λ (m : Name). cond (not (is_same m unit)) (m ∷ other_mains ms unit xs) (other_mains ms unit xs)) first.main_is
      ∙ ap (λ (ns : List Name). cond (not (is_same (main_of x) unit)) (main_of x ∷ ns) ns) rest

  list_same : (list : DependencyList) → ((m : Name) → IsAmong m list.names → HasMain ms m (main_of m)) → list_normalized ms unit list ≡ list_by_mains main_of unit list
  list_same list h = ap (λ (ns : List Name). let l : DependencyList = record { kind = list.kind; names = in_byte_order ns } in l) (mains_same list.names h)

unit_same : (ms : List (Name × ℕ)) (main_of : Name → Name) (unit : LoadedUnit) → ((m : Name) → IsAmong m (names_in_lists unit.deps) → HasMain ms m (main_of m)) → unit_normalized ms unit ≡ by_mains main_of unit
unit_same ms main_of unit h =
    ap (λ (lists : List DependencyList). let u : LoadedUnit = record unit { deps = lists } in u)
    (map_same (list_normalized ms unit.name) (list_by_mains main_of unit.name) unit.deps
    (λ list a. list_same ms main_of unit.name list (λ m b. h m (flat_map_among (λ (l : DependencyList). l.names) unit.deps list m a b))))

-- ---- what was found

module _ (s : HostViewMap) (found : List (Name × NameLoad)) (loaded : AreLoaded (IsLoadAlone s) found) where
  alone : (n : Name) (one : NameLoad) → IsAmong {X = Name × NameLoad} (n, one) found → IsLoadAlone s n one
  alone n one a = all_among (λ (p : Name × NameLoad). IsLoadAlone s p.0 p.1) found (n, one) loaded a

  -- the main name found for a name is its main name
  main_found : (n : Name) (one : NameLoad) → IsLoadAlone s n one → main_name (n, one) ≡ main s n
  main_found n (OfUnit u) p = sym p.main_is
  main_found n (OfAlias m) p = sym p.main_is

  -- and is no alias
  main_unit : (n of : Name) (one : NameLoad) → IsLoadAlone s n (OfAlias of) → IsLoadAlone s of one → IsAmong {X = Name × NameLoad} (of, one) found → (unit : LoadedUnit) × IsAmong {X = Name × NameLoad} (of, OfUnit unit) found
  main_unit n of (OfUnit u) p q a = (u, a)
  main_unit n of (OfAlias m) p q a = absurd (q.other (sym q.main_is ∙ ap (main s) (sym p.main_is) ∙ (mains_are_their_own s n).0 ∙ p.main_is))

  -- what was found, if all that is named was found
  pub whole_from : ((n : Name) (one : NameLoad) (m : Name) → IsAmong {X = Name × NameLoad} (n, one) found → IsAmong m (named_in one) → (x : NameLoad) × IsAmong {X = Name × NameLoad} (m, x) found) → IsWhole found
  whole_from next = record {
    named = λ p m a h. next p.0 p.1 m a h;
    mains = λ n of a. (let r = next n (OfAlias of) of a (inl refl) in main_unit n of r.0 (alone n (OfAlias of) a) (alone of r.0 r.1) r.1);
    own = λ n u a. (alone n (OfUnit u) a).name_is;
  }

  module _ (sorted : IsTrue (is_sorted name_cmp found)) (whole : IsWhole found) (ms : List (Name × ℕ)) (indexed : AreIndexed found found ms) where
    has_main : (n : Name) (one : NameLoad) → IsAmong {X = Name × NameLoad} (n, one) found → HasMain ms n (main s n)
    has_main n one a =
        let p = place_of found sorted whole ms indexed n one a in
        record {
          index = p.index;
          found_is = p.found_is;
          main_is = ap (λ (ks : List Name). get_or ks p.index []) (indexed_keys found found ms indexed) ∙ p.named ∙ main_found n one (alone n one a);
        }

    normalized_one : (n : Name) (one : NameLoad) → IsAmong {X = Name × NameLoad} (n, one) found → IsNameLoad s n (load_normalized ms one)
    normalized_one n (OfUnit u) a = record {
      alone = u;
      is_unit = alone n (OfUnit u) a;
      by_mains_is = unit_same ms (main s) u (λ m h. (let r = whole.named (n, OfUnit u) m a h in has_main m r.0 r.1));
    }
    normalized_one n (OfAlias m) a = alone n (OfAlias m) a

    normalized_all : (some : List (Name × NameLoad)) → ((p : Name × NameLoad) → IsAmong p some → IsAmong p found) → AreLoaded (IsNameLoad s) (name_loads (map (normalized_name ms) some))
    normalized_all [] h = All-nil (λ (p : Name × NameLoad). IsNameLoad s p.0 p.1)
    normalized_all (p ∷ some) h =
        All-cons (λ (p : Name × NameLoad). IsNameLoad s p.0 p.1) (p.0, load_normalized ms p.1) (name_loads (map (normalized_name ms) some))
        (normalized_one p.0 p.1 (h p (inl refl))) (normalized_all some (λ q a. h q (inr a)))

    -- so what was found is what names resolve to, once names are replaced by main names
    pub normalized_loaded : AreLoaded (IsNameLoad s) (name_loads (map (normalized_name ms) found))
    normalized_loaded = normalized_all found (λ p a. a)

-- ---- what names name before they are replaced by main names

named_one : (s : HostViewMap) (ms : List (Name × ℕ)) (n : Name) (one : NameLoad) → IsLoadAlone s n one → IsNamedAlone s n (load_normalized ms one) (lists_in one)
named_one s ms n (OfUnit u) h = record { alone = h; lists_are = refl }
named_one s ms n (OfAlias m) h = record { alone = h; lists_are = refl }

named_all : (s : HostViewMap) (ms : List (Name × ℕ)) (found : List (Name × NameLoad)) → AreLoaded (IsLoadAlone s) found
    → AreNamedAlone s (name_loads (map (normalized_name ms) found)) (name_lists (map (normalized_name ms) found))
named_all s ms [] h = tt
named_all s ms (p ∷ found) h =
    let P : Name × NameLoad → Type 0 = λ q. IsLoadAlone s q.0 q.1 in
    (named_one s ms p.0 p.1 (All-head P p found h), named_all s ms found (All-tail P p found h))

-- what holds of two lists holds of lists equal to them
named_is : (s : HostViewMap) (ps qs : List (Name × NameLoad)) (xs ys : List (List DependencyList)) → ps ≡ qs → xs ≡ ys → AreNamedAlone s ps xs → AreNamedAlone s qs ys
named_is s ps qs xs ys e f h =
    let P : List (List DependencyList) → Type 0 = λ zs. AreNamedAlone s qs zs in
    let Q : List (Name × NameLoad) → Type 0 = λ rs. AreNamedAlone s rs xs in
    subst P f (subst Q e h)

-- ---- the load

module _ (s : HostViewMap) (extra : List Name) (found : List (Name × NameLoad)) (f : IsFound s extra found) where
  next : (n : Name) (one : NameLoad) (m : Name) → IsAmong {X = Name × NameLoad} (n, one) found → IsAmong m (named_in one)
      → (x : NameLoad) × IsAmong {X = Name × NameLoad} (m, x) found
  next n one m there h =
      let p = all_among (λ (p : Name × NameLoad). IsLoadAlone s p.0 p.1) found (n, one) f.loaded there in
      let key = map_among (λ (p : Name × NameLoad). p.0) found (n, one) there in
      let reached = (reached_closed (IsSource s extra) (LeadsTo s)).stepped n m ((f.universe.members n).0 key) (step_leads s n one m p h) in
      let r = (f.universe.members m).1 reached in
      let q = among_map (λ (p : Name × NameLoad). p.0) found m r in
      (q.source.1, subst (λ (x : Name). IsAmong {X = Name × NameLoad} (x, q.source.1) found) q.makes q.there)

  -- what was found is closed
  pub whole_found : IsWhole found
  whole_found = whole_from s found f.loaded next

  -- and is the load, once names are replaced by main names
  pub load_is : (load : LoadMap) → load.viewer ≡ viewer_of s → load.extra ≡ extra → AreNormalized found load.names load.named → AreOwnLinkTargets s load.words → IsLoad s extra load
  load_is load viewer asked normalized words = record {
    viewer_is = viewer;
    extra_is = asked;
    universe = subst (AreUniverse s extra)
        (sym (ap (λ (ps : List (Name × NameLoad)). keys_of ps) normalized.names_are ∙ normalized_keys normalized.mains found)) f.universe;
    loaded = subst (AreLoaded (IsNameLoad s)) (sym normalized.names_are)
        (normalized_loaded s found f.loaded (sorted_from found f.universe.ascending) whole_found normalized.mains normalized.indexed);
    named = named_is s _ load.names _ load.named (sym normalized.names_are) (sym normalized.named_are) (named_all s normalized.mains found f.loaded);
    words = words;
  }

  -- made of it for the host that looks, with the link targets that it sees
  pub load_made : (viewer : Viewer) (words : NamedWords) (load : LoadMap) → viewer ≡ viewer_of s → AreOwnLinkTargets s words → IsNormalizedLoad found viewer extra words load → IsLoad s extra load
  load_made viewer words load e own made = load_is load (made.viewer_is ∙ e) made.extra_is made.normalized (subst (AreOwnLinkTargets s) (sym made.words_are) own)

  -- which isn't too large
  pub not_too_large : ¬ IsTooLarge s extra
  not_too_large = not_over name_cmp nat_list_cmp_total (IsSource s extra) (LeadsTo s) (keys_of found) 4096 f.universe f.few

-- what holds of two values holds of values equal to them
both : {A B : Type 0} (P : A → B → Type 0) (x y : A) (u v : B) → x ≡ y → u ≡ v → P x u → P y v
both P x y u v e f h = subst (λ b. P y b) f (subst (λ a. P a u) e h)

-- ---- what a loader of the store finds from these names, which are the sources

module _ (s index : HostViewMap) (is : index ≡ s) (extra sources names : List Name)
    (same : (n : Name) → IsAmong n sources ↔ IsSource s extra n) (named : names ≡ sources) where
  pub found_from : (found : List (Name × NameLoad))
      → IsClosure (Listed names) (LeadsByLoad (IsLoadAlone index) named_in) name_cmp (keys_of found)
      → AreLoaded (IsLoadAlone index) found → length found ≤ 4096 → IsFound s extra found
  found_from found closure loaded room =
      let here = subst (λ (t : HostViewMap). AreLoaded (IsLoadAlone t) found) is loaded in
      record {
        universe = universe_is s extra sources same found
            (both (λ ns t. IsClosure (Listed ns) (LeadsByLoad (IsLoadAlone t) named_in) name_cmp (keys_of found))
            names sources index s named is closure) here;
        loaded = here;
        few = subst (λ (k : ℕ). k ≤ 4096) (sym (length-map found (λ (p : Name × NameLoad). p.0))) room;
      }

  -- where there are too many, the universe is too large
  over_from : HasOver (Listed names) (LeadsByLoad (IsLoadAlone index) named_in) name_cmp 4096 → IsTooLarge s extra
  over_from over =
      too_large s extra sources same
      (both (λ ns t. HasOver (Listed ns) (LeadsByLoad (IsLoadAlone t) named_in) name_cmp 4096) names sources index s named is over)

  pub over_here : (fault : ClosureFault)
      → one_thread.OnTooMany fault (HasOver (Listed names) (LeadsByLoad (IsLoadAlone index) named_in) name_cmp 4096)
      → OnTooMany (refusal_of fault) (IsTooLarge s extra)
  over_here TooMany over = over_from over
  over_here Memory over = tt

  pub over_there : (fault : WorkersFault)
      → by_workers.OnTooMany fault (HasOver (Listed names) (LeadsByLoad (IsLoadAlone index) named_in) name_cmp 4096)
      → OnTooMany (refusal_by_workers fault) (IsTooLarge s extra)
  over_there there.Workers over = tt
  over_there there.TooMany over = over_from over
  over_there there.Memory over = tt

-- the link targets that are seen
pub viewed_link_targets : (v w : HostViewMap) (now words : NamedWords) → v ≡ w → now ≡ words → AreOwnLinkTargets v words → AreOwnLinkTargets w now
viewed_link_targets v w now words e f h = both AreOwnLinkTargets v w words now e (sym f) h

-- the refusal of a closure is that of the load
pub refused_over : {T : Type 0} (r : Result T LoadFault) (f : LoadFault) (P : Type 0) → IsErrAnd r (λ e. e ≡ f) → OnTooMany f P
    → IfErr r (λ e. OnTooMany e P)
refused_over (Ok x) f P h k = absurd h
refused_over (Err e) f P h k = subst (λ (x : LoadFault). OnTooMany x P) (sym h) k
