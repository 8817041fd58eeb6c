-- How the index of a store is made.
use Rattle.std.proofs.Common.{if◌then◌else◌, ◌++◌, ◌+◌, ◌<◌, ◌==◌, ◌∷◌, ◌≡◌, ◌⊎◌}
use Rattle.fragment_choice.proofs.Prelude.{[], Alias, alias_in, aliases_in, All, All-append, All-cons, All-head, All-nil, All-tail, and_from, ap, append-nil, AreMapsOf, arith, Bool, BTreeMap, Collects, cond, cons_option, Entry, eq-eqb, eqb-false, eqb-true, Equal, false, filter, filter_map-append, find, get, get_or, Greater, HasOwnLinkTargets, HaveLinks, HostViewMap, inl, inr, is_at, is_eq, is_in, is_link, is_name, IsAmong, IsAmong-append_cases, IsAmong-append_left, IsAmong-append_right, IsAny, IsIndexOf, IsLevel, IsName, IsOwnAt, IsOwnEntry, IsOwnLink, keys_of, length, Less, link_targets, List, lookup, map-append, Name, name_cmp, name_eq-Decides, NamedWords, names_in, None, none-some, option_and_then, option_map, Option, Ordering, own_alias, own_aliases_decide, own_choice, own_link, own_path, owners_at, path_cmp, path_cmp-IsAntisymmetric, PathParts, Puts, refl, same_Some, shown, Some, subst, suc, sym, take, take_more, true, unwrap_or, Updates, UpdatesBy, Vec, view, ℕ, ◌∙◌}
use Rattle.fragment_choice.specs.LinkTargets.{Target}
use Rattle.std.specs.FinMap as finmap

-- ---- the link targets of the names that have links

-- Nothing passes.
pub collects_none : (P : Name → Type 0) (old : List Name) → ((n : Name) → P n → ⊥) → Collects P old old
collects_none P old none = record { kept = λ n h. h; found = λ n p. absurd (none n p) }

-- Two collections, one after the other.
collects_then : (P Q R : Name → Type 0) (old mid new : List Name) → Collects P old mid → Collects Q mid new → ((n : Name) → R n → P n ⊎ Q n) → Collects R old new
collects_then P Q R old mid new g h split = record { kept = λ n a. h.kept n (g.kept n a); found = λ n r. by n (split n r) }
  where
    by : (n : Name) → P n ⊎ Q n → IsAmong n new
    by n (inl p) = h.kept n (g.found n p)
    by n (inr q) = h.found n q

-- The name of an entry was added with its link targets.
pub collects_pushed : (p : PathParts × Entry) (k : Name) (ws : List Target) (old new : NamedWords) → k ≡ p.0.name → new ≡ old ++ (k, ws) ∷ [] → Collects (IsOwnEntry p) (keys_of old) (keys_of new)
collects_pushed p k ws old new e f = record {
  kept = λ n h. subst (IsAmong n) (sym keys) (IsAmong-append_left n (keys_of old) (k ∷ []) h);
  found = λ n o. subst (IsAmong n) (sym keys) (IsAmong-append_right n (keys_of old) (k ∷ []) (inl (e ∙ o.at)));
}
  where
    keys : keys_of new ≡ keys_of old ++ k ∷ []
    keys = ap (λ (es : NamedWords). keys_of es) f ∙ map-append (λ (x : Name × List Target). x.0) old ((k, ws) ∷ [])

pub all_pushed : (s : HostViewMap) (k : Name) (ws : List Target) (old new : NamedWords) → ws ≡ link_targets s k → new ≡ old ++ (k, ws) ∷ [] → All (HasOwnLinkTargets s) old → All (HasOwnLinkTargets s) new
all_pushed s k ws old new e f h =
    subst (All (HasOwnLinkTargets s)) (sym f) (All-append (HasOwnLinkTargets s) old ((k, ws) ∷ []) h (All-cons (HasOwnLinkTargets s) (k, ws) [] e (All-nil (HasOwnLinkTargets s))))

-- Names were added: each one that passes is there, or is among the entries that are left.
pub record Collecting (Passes : Name → Type 0) (es : List (PathParts × Entry)) (old new : List Name) : Type 0 where
  pub kept : (n : Name) → IsAmong n old → IsAmong n new
  pub found : (n : Name) → Passes n → IsAmong n new ⊎ IsAny IsOwnEntry es n

-- A link that is found at a path of one component is one of the level's entries.
find_own : (level : ℕ) (q : PathParts) (es : List (PathParts × Entry)) (o : Option Entry) → find path_cmp q es ≡ o → is_link (option_and_then shown o) ≡ true → is_in level [] q ≡ true → IsAny IsOwnEntry (filter (λ p. is_in level [] p.0) es) q.name
find_own level q [] o e h i = absurd (nothing o e h)
  where
    nothing : (o : Option Entry) → None ≡ o → is_link (option_and_then shown o) ≡ true → ⊥
    nothing None e h = cc (h)
    nothing (Some x) e h = cc (e)
find_own level q (p ∷ es) o e h i = by (path_cmp q p.0) refl e (λ f. find_own level q es o f h i)
  where
    rest : List (PathParts × Entry)
    rest = filter (λ p. is_in level [] p.0) es

    after : (b : Bool) → IsAny IsOwnEntry rest q.name → IsAny IsOwnEntry (cond b (p ∷ rest) rest) q.name
    after true a = inr a
    after false a = a

    first : (b : Bool) → b ≡ true → IsOwnEntry p q.name → IsAny IsOwnEntry (cond b (p ∷ rest) rest) q.name
    first true g a = inl a
    first false g a = cc (g)

    by : (r : Ordering) → path_cmp q p.0 ≡ r → cond (is_eq r) (Some p.1) (find path_cmp q es) ≡ o → (find path_cmp q es ≡ o → IsAny IsOwnEntry rest q.name) → IsAny IsOwnEntry (cond (is_in level [] p.0) (p ∷ rest) rest) q.name
    by Less c f more = after (is_in level [] p.0) (more f)
    by Equal c f more =
        let same = path_cmp-IsAntisymmetric q p.0 c in
        first (is_in level [] p.0) (sym (ap (is_in level []) same) ∙ i) (record { at = sym (ap (λ x. x.name) same); link = ap (λ x. is_link (option_and_then shown x)) f ∙ h })
    by Greater c f more = after (is_in level [] p.0) (more f)

pub starts_collecting : (s : HostViewMap) (level : ℕ) (es : List (PathParts × Entry)) (old : List Name) → es ≡ filter (λ p. is_in level [] p.0) (finmap.entries (view s)) → Collecting (IsOwnAt s level) es old old
starts_collecting s level es old e = record {
  kept = λ n h. h;
  found = λ n o. inr (subst (λ x. IsAny IsOwnEntry x n) (sym e) (find_own level (own_path n level) (finmap.entries (view s)) (finmap.get (view s) (own_path n level)) (sym (finmap.get-entries (view s) (own_path n level))) o (and_from _ _ (eq-eqb level level refl) refl)));
}

-- One more entry was visited.
pub collects_next : (P : Name → Type 0) (p : PathParts × Entry) (es rest : List (PathParts × Entry)) (old mid new : List Name) → es ≡ p ∷ rest → Collecting P es old mid → Collects (IsOwnEntry p) mid new → Collecting P rest old new
collects_next P p es rest old mid new e g h = record {
  kept = λ n a. h.kept n (g.kept n a);
  found = λ n o. by n (subst (λ x. IsAmong n mid ⊎ IsAny IsOwnEntry x n) e (g.found n o));
}
  where
    by : (n : Name) → IsAmong n mid ⊎ IsAny IsOwnEntry (p ∷ rest) n → IsAmong n new ⊎ IsAny IsOwnEntry rest n
    by n (inl a) = inl (h.kept n a)
    by n (inr (inl o)) = inl (h.found n o)
    by n (inr (inr a)) = inr a

-- All entries were visited.
pub collects_all : (P : Name → Type 0) (es : List (PathParts × Entry)) (old new : List Name) → es ≡ [] → Collecting P es old new → Collects P old new
collects_all P es old new e g = record { kept = g.kept; found = λ n o. by n (subst (λ x. IsAmong n new ⊎ IsAny IsOwnEntry x n) e (g.found n o)) }
  where
    by : (n : Name) → IsAmong n new ⊎ IsAny IsOwnEntry [] n → IsAmong n new
    by n (inl a) = a
    by n (inr a) = absurd a

-- Links at the levels below `end`.
abbrev pub IsOwnBelow : HostViewMap → ℕ → Name → Type 0
IsOwnBelow s end n = (level : ℕ) × (level < end) × IsOwnAt s level n

pub collects_level : (s : HostViewMap) (level next : ℕ) (old mid new : List Name) → next ≡ suc level → Collects (IsOwnBelow s level) old mid → Collects (IsOwnAt s level) mid new → Collects (IsOwnBelow s next) old new
collects_level s level next old mid new q g h = collects_then (IsOwnBelow s level) (IsOwnAt s level) (IsOwnBelow s next) old mid new g h (λ n l. by n l)
  where
    by : (n : Name) → IsOwnBelow s next n → IsOwnBelow s level n ⊎ IsOwnAt s level n
    by n (r, lt, l) = less_or (r == level) refl
      where
        less_or : (b : Bool) → (r == level) ≡ b → IsOwnBelow s level n ⊎ IsOwnAt s level n
        less_or true e = inr (subst (λ x. IsOwnAt s x n) (eqb-true r level e) l)
        less_or false e = inl (r, (let differs = eqb-false r level e in omega arith), l)

pub collects_levels : (s : HostViewMap) (end : ℕ) (old new : List Name) → ((level : ℕ) → IsLevel level → level < end) → Collects (IsOwnBelow s end) old new → Collects (IsOwnLink s) old new
collects_levels s end old new all g = record { kept = g.kept; found = λ n o. by n o }
  where
    by : (n : Name) → IsOwnLink s n → IsAmong n new
    by n (r, lt, o) = g.found n (r, all r lt, o)

-- A list is taken out of a map, and put back with one more name.
pub puts : (o t : Name) (old mid new : BTreeMap Name (Vec Name)) (taken : Option (Vec Name)) (names : Vec Name)
    → taken ≡ get name_cmp old t → UpdatesBy name_cmp (name_cmp t) old mid None → names.items ≡ names_in taken ++ o ∷ [] → UpdatesBy name_cmp (name_cmp t) mid new (Some names) → Puts o t old new
puts o t old mid new taken names e m f u = record {
  kept = λ n k h. by n k (is_at (name_cmp t) k) refl h;
  there = subst (IsAmong o) (sym put) (IsAmong-append_right o (names_in taken) (o ∷ []) (inl refl));
  sound = λ n k h. back n k (is_at (name_cmp t) k) refl h;
}
  where
    put : owners_at new t ≡ names_in taken ++ o ∷ []
    put = ap names_in u.1 ∙ f

    past : (k : Name) → is_at (name_cmp t) k ≡ false → get name_cmp new k ≡ get name_cmp old k
    past k q = u.0 k ∙ ap (λ b. cond b (Some names) (get name_cmp mid k)) q ∙ m.0 k ∙ ap (λ (b : Bool). cond b None (get name_cmp old k)) q

    by : (n k : Name) (b : Bool) → is_at (name_cmp t) k ≡ b → IsAmong n (owners_at old k) → IsAmong n (owners_at new k)
    by n k true q h =
        let same : t ≡ k = (name_eq-Decides t k).0 q in
        let prefix : IsAmong n (names_in taken ++ o ∷ []) = IsAmong-append_left n (names_in taken) (o ∷ []) (subst (IsAmong n) (ap (owners_at old) (sym same) ∙ sym (ap names_in e)) h) in
        subst (IsAmong n) (sym put ∙ ap (owners_at new) same) prefix
    by n k false q h =
        subst (IsAmong n) (sym (ap names_in (past k q))) h

    back : (n k : Name) (b : Bool) → is_at (name_cmp t) k ≡ b → IsAmong n (owners_at new k) → IsAmong n (owners_at old k) ⊎ ((o ≡ n) × (t ≡ k))
    back n k true q h = split (IsAmong-append_cases n (names_in taken) (o ∷ []) (subst (IsAmong n) (ap (owners_at new) (sym same) ∙ put) h))
      where
        same : t ≡ k
        same = (name_eq-Decides t k).0 q

        split : IsAmong n (names_in taken) ⊎ IsAmong n (o ∷ []) → IsAmong n (owners_at old k) ⊎ ((o ≡ n) × (t ≡ k))
        split (inl a) = inl (subst (IsAmong n) (ap names_in e ∙ ap (owners_at old) same) a)
        split (inr (inl a)) = inr (a, same)
        split (inr (inr a)) = absurd a
    back n k false q h = inl (subst (IsAmong n) (ap names_in (past k q)) h)

-- The names of an optional list; none if it is absent.
pub names_or : (taken : Option (Vec Name)) (none : Vec Name) → none.items ≡ [] → (unwrap_or taken none).items ≡ names_in taken
names_or None none e = e
names_or (Some names) none e = refl

-- ---- the maps of the index

-- The maps have exactly these aliases.
pub no_pairs : (aliases : BTreeMap Name Name) (owners : BTreeMap Name (Vec Name)) → aliases.entries ≡ [] → owners.entries ≡ [] → AreMapsOf [] aliases owners
no_pairs aliases owners f e = record {
  known = λ o t h. absurd (none-some _ (sym (ap (λ es. lookup (is_at (name_cmp o)) es) f) ∙ h));
  there = λ o t h. absurd h;
  sound = λ o t h. subst (IsAmong o) (ap (λ es. names_in (lookup (is_at (name_cmp t)) es)) e) h;
}

-- One more alias was put into both.
pub one_pair_more : (pairs : List (Name × Name)) (o t : Name) (aliases known : BTreeMap Name Name) (old new : BTreeMap Name (Vec Name))
    → AreMapsOf pairs aliases old → Puts o t old new → Updates name_cmp aliases known o (Some t) → AreMapsOf (pairs ++ (o, t) ∷ []) known new
one_pair_more pairs o t aliases known old new g p u = record {
  known = λ n m h. by n m (is_at (name_cmp o) n) refl (sym (u.0 n) ∙ h);
  there = λ n m h. there n m (IsAmong-append_cases {X = Name × Name} (n, m) pairs ((o, t) ∷ []) h);
  sound = λ n m h. sound n m (p.sound n m h);
}
  where
    last : (n m : Name) → o ≡ n → t ≡ m → IsAmong {X = Name × Name} (n, m) (pairs ++ (o, t) ∷ [])
    last n m e f =
        let pair : (o, t) ≡ (n, m) = ap (λ (x : Name). (x, t)) e ∙ ap (λ (x : Name). (n, x)) f in
        IsAmong-append_right {X = Name × Name} (n, m) pairs ((o, t) ∷ []) (inl pair)

    by : (n m : Name) (b : Bool) → is_at (name_cmp o) n ≡ b → cond (is_at (name_cmp o) n) (Some t) (get name_cmp aliases n) ≡ Some m → IsAmong {X = Name × Name} (n, m) (pairs ++ (o, t) ∷ [])
    by n m true q h = last n m ((name_eq-Decides o n).0 q) (same_Some _ _ (sym (ap (λ b. cond b (Some t) (get name_cmp aliases n)) q) ∙ h))
    by n m false q h = IsAmong-append_left {X = Name × Name} (n, m) pairs ((o, t) ∷ []) (g.known n m (sym (ap (λ b. cond b (Some t) (get name_cmp aliases n)) q) ∙ h))

    there : (n m : Name) → IsAmong {X = Name × Name} (n, m) pairs ⊎ IsAmong {X = Name × Name} (n, m) ((o, t) ∷ []) → IsAmong n (owners_at new m)
    there n m (inl a) = p.kept n m (g.there n m a)
    there n m (inr (inl e)) = subst (λ (x : Name). IsAmong x (owners_at new m)) (ap (λ (x : Name × Name). x.0) e) (subst (λ (x : Name). IsAmong o (owners_at new x)) (ap (λ (x : Name × Name). x.1) e) p.there)
    there n m (inr (inr a)) = absurd a

    sound : (n m : Name) → IsAmong n (owners_at old m) ⊎ ((o ≡ n) × (t ≡ m)) → IsAmong {X = Name × Name} (n, m) (pairs ++ (o, t) ∷ [])
    sound n m (inl a) = IsAmong-append_left {X = Name × Name} (n, m) pairs ((o, t) ∷ []) (g.sound n m a)
    sound n m (inr (e, f)) = last n m e f

-- One more name with its link targets.
module _ (all : NamedWords) (i : ℕ) (x : Name × List Target) (within : i < length all) (is : x ≡ get_or all i x) where
  one_more : aliases_in (take (i + 1) all) ≡ aliases_in (take i all) ++ cons_option (alias_in x) []
  one_more =
      ap (λ (es : NamedWords). aliases_in es) (take_more all i x within ∙ ap (λ (y : Name × List Target). take i all ++ y ∷ []) (sym is))
      ∙ filter_map-append alias_in (take i all) (x ∷ [])

  -- It is an alias, and was put into both maps.
  pub maps_more : (o t k m : Name) (aliases known now : BTreeMap Name Name) (old new later : BTreeMap Name (Vec Name))
      → alias_in x ≡ Some (o, t) → AreMapsOf (aliases_in (take i all)) aliases old → Puts k m old new → k ≡ o → m ≡ t → Updates name_cmp aliases known o (Some t)
      → now ≡ known → later ≡ new → AreMapsOf (aliases_in (take (i + 1) all)) now later
  maps_more o t k m aliases known now old new later said maps p e f u is_known is_new =
      let put : Puts o t old new = subst (λ (y : Name). Puts y t old new) e (subst (λ (y : Name). Puts k y old new) f p) in
      let more : AreMapsOf (aliases_in (take i all) ++ (o, t) ∷ []) known new = one_pair_more (aliases_in (take i all)) o t aliases known old new maps put u in
      let pairs : aliases_in (take i all) ++ (o, t) ∷ [] ≡ aliases_in (take (i + 1) all) =
      ap (λ (y : Option (Name × Name)). aliases_in (take i all) ++ cons_option y []) (sym said) ∙ sym one_more in
      subst (λ (ps : List (Name × Name)). AreMapsOf ps now later) pairs
      (subst (λ (a : BTreeMap Name Name). AreMapsOf (aliases_in (take i all) ++ (o, t) ∷ []) a later) (sym is_known)
      (subst (λ (b : BTreeMap Name (Vec Name)). AreMapsOf (aliases_in (take i all) ++ (o, t) ∷ []) known b) (sym is_new) more))

  -- It is none, and the maps stay.
  pub maps_same : (aliases now : BTreeMap Name Name) (old later : BTreeMap Name (Vec Name))
      → alias_in x ≡ None → AreMapsOf (aliases_in (take i all)) aliases old → now ≡ aliases → later ≡ old → AreMapsOf (aliases_in (take (i + 1) all)) now later
  maps_same aliases now old later said maps is_known is_old =
      let pairs : aliases_in (take i all) ≡ aliases_in (take (i + 1) all) =
      sym (append-nil (aliases_in (take i all))) ∙ ap (λ (y : Option (Name × Name)). aliases_in (take i all) ++ cons_option y []) (sym said) ∙ sym one_more in
      subst (λ (ps : List (Name × Name)). AreMapsOf ps now later) pairs
      (subst (λ (a : BTreeMap Name Name). AreMapsOf (aliases_in (take i all)) a later) (sym is_known)
      (subst (λ (b : BTreeMap Name (Vec Name)). AreMapsOf (aliases_in (take i all)) aliases b) (sym is_old) maps))

-- ---- the maps are the index of what is seen

module _ (s : HostViewMap) where
  -- One of the aliases that link targets say.
  pub record IsOwnAlias (o t : Name) : Type 0 where
    pub name : IsName o
    pub alias : own_choice s o o ≡ Some (Alias t)

  -- What a name and its alias are, if there is an alias.
  abbrev paired : Name → Option Name → Option (Name × Name)
  paired n a = option_map (λ (x : Name). let q : Name × Name = (n, x) in q) a

  says_alias : (p : Name × List Target) (o t : Name) → HasOwnLinkTargets s p → alias_in p ≡ Some (o, t) → IsOwnAlias o t
  says_alias p o t own h = by (is_name p.0) refl (own_alias p.0 p.1) refl h
    where
      by : (b : Bool) → is_name p.0 ≡ b → (a : Option Name) → own_alias p.0 p.1 ≡ a → (if b then paired p.0 a else None) ≡ Some (o, t) → IsOwnAlias o t
      by false e a f k = absurd (none-some _ k)
      by true e None f k = absurd (none-some _ k)
      by true e (Some x) f k =
          let same = same_Some _ _ k in
          let name : p.0 ≡ o = ap (λ (y : Name × Name). y.0) same in
          let alias : x ≡ t = ap (λ (y : Name × Name). y.1) same in
          record {
            name = subst IsName name e;
            alias = subst (λ (y : Name). own_choice s y y ≡ Some (Alias t)) name ((own_aliases_decide s p.0 t).0 (ap (own_alias p.0) (sym own) ∙ f ∙ ap (λ (y : Name). Some y) alias));
          }

  -- The aliases of the list are those that links make.
  pub said_in : (all : NamedWords) → All (HasOwnLinkTargets s) all → (o t : Name) → IsAmong {X = Name × Name} (o, t) (aliases_in all) → IsOwnAlias o t
  said_in [] h o t a = absurd a
  said_in (p ∷ all) h o t a = by (alias_in p) refl a (said_in all (All-tail (HasOwnLinkTargets s) p all h) o t)
    where
      by : (x : Option (Name × Name)) → alias_in p ≡ x → IsAmong {X = Name × Name} (o, t) (cons_option x (aliases_in all)) → (IsAmong {X = Name × Name} (o, t) (aliases_in all) → IsOwnAlias o t) → IsOwnAlias o t
      by None e a more = more a
      by (Some q) e (inl f) more = says_alias p o t (All-head (HasOwnLinkTargets s) p all h) (e ∙ ap (λ (x : Name × Name). Some x) f)
      by (Some q) e (inr a) more = more a

  pub listed_in : (all : NamedWords) → All (HasOwnLinkTargets s) all → (o t : Name) → IsName o → own_choice s o o ≡ Some (Alias t) → IsAmong o (keys_of all) → IsAmong {X = Name × Name} (o, t) (aliases_in all)
  listed_in [] h o t name e a = absurd a
  listed_in (p ∷ all) h o t name e (inl f) = subst (λ (x : Option (Name × Name)). IsAmong {X = Name × Name} (o, t) (cons_option x (aliases_in all))) (sym said) (inl refl)
    where
      alias : own_alias p.0 p.1 ≡ Some t
      alias = ap (own_alias p.0) (All-head (HasOwnLinkTargets s) p all h) ∙ (own_aliases_decide s p.0 t).1 (subst (λ (y : Name). own_choice s y y ≡ Some (Alias t)) (sym f) e)

      said : alias_in p ≡ Some (o, t)
      said =
          ap (λ b. if b then paired p.0 (own_alias p.0 p.1) else None) (subst IsName (sym f) name)
          ∙ ap (paired p.0) alias ∙ ap (λ (y : Name). paired y (Some t)) f
  listed_in (p ∷ all) h o t name e (inr a) = by (alias_in p) (listed_in all (All-tail (HasOwnLinkTargets s) p all h) o t name e a)
    where
      by : (x : Option (Name × Name)) → IsAmong {X = Name × Name} (o, t) (aliases_in all) → IsAmong {X = Name × Name} (o, t) (cons_option x (aliases_in all))
      by None b = b
      by (Some q) b = inr b

  pub index_of : (all : NamedWords) (aliases : BTreeMap Name Name) (owners : BTreeMap Name (Vec Name)) → HaveLinks s all → AreMapsOf (aliases_in all) aliases owners → IsIndexOf s aliases owners
  index_of all aliases owners have maps = record {
    known = λ o t h. (said_in all have.words o t (maps.known o t h)).alias;
    each = λ t. record {
      there = λ o name e. maps.there o t (listed_in all have.words o t name e (have.linked o (linked o t e)));
      sound = λ o h. (said_in all have.words o t (maps.sound o t h)).alias;
      well_formed = λ o h. (said_in all have.words o t (maps.sound o t h)).name;
    };
  }
    where
      linked : (o t : Name) → own_choice s o o ≡ Some (Alias t) → IsOwnLink s o
      linked o t e = let l = own_link s o o t e in (l.level, l.within, ap is_link l.there)
