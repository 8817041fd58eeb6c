-- What is taken, as lists in ascending order of file names.
use Rattle.std.proofs.Common.{◌++◌, ◌↔◌, ◌∷◌, ◌≡◌, ◌⊎◌}
use Rattle.path_maps.specs.HostViews.{HostViewMap, view}
use Rattle.dropins.proofs.Prelude.{[], AllByRecursion, ap, AreLinksOf, At, Bool, btree_map_get_iff, BTreeMap, cond, Contains, Contains-append_cases, Contains-append_left, Contains-append_right, Contains-push, dirs_with, ending, Entry, entry_name, false, filter, Folder, get, given, held_there, inl, inr, is_name, IsLinkedOf, IsOrdered, IsStrictlySortedBy, IsStrictlySortedBy-filter, IsTakenOver, IsTrue, keys_of, Less, Links, List, made_there, map, Name, name_cmp, name_cmp-IsAntisymmetric, nat_list_cmp_total, none_there, Nothing, only_one, over_none, over_of_names, PathParts, Placed, refl, Search, Some, subst, sym, Take, took_over, true, unmasked, ℕ, ◌∙◌}
use Rattle.dropins.proofs.Lends.{over_iff_taken, over_name}
use Rattle.std.specs.FinMap as finmap

abbrev IsNamed : List ℕ → Take → Type 0
IsNamed f Nothing = Unit {0}
IsNamed f (Placed p) = p.0.name ≡ f

-- Each entry is stored under its file name.
abbrev AreNamed : List (List ℕ × Take) → Type 0
AreNamed [] = Unit {0}
AreNamed (e ∷ es) = IsNamed e.0 e.1 × AreNamed es

named_all : (es : List (List ℕ × Take)) → ((f : List ℕ) (p : PathParts × Entry) → Contains es (f, Placed p) → p.0.name ≡ f) → AreNamed es
named_all [] h = tt
named_all ((f, Nothing) ∷ es) h = (tt, named_all es (λ g p c. h g p (Contains-append_right ((f, Nothing) ∷ []) es (g, Placed p) c)))
named_all ((f, Placed q) ∷ es) h = (h f q (Contains-append_left ((f, Placed q) ∷ []) es (f, Placed q) (Contains-push [] (f, Placed q))), named_all es (λ g p c. h g p (Contains-append_right ((f, Placed q) ∷ []) es (g, Placed p) c)))

below_names : (f : List ℕ) (es : List (List ℕ × Take)) → AllByRecursion (λ y. name_cmp f y ≡ Less) (keys_of es) → AreNamed es → AllByRecursion (λ y. name_cmp f y ≡ Less) (map entry_name (unmasked es))
below_names f [] b n = tt
below_names f ((g, Nothing) ∷ es) b n = below_names f es b.1 n.1
below_names f ((g, Placed p) ∷ es) b n = (ap (name_cmp f) n.0 ∙ b.0, below_names f es b.1 n.1)

names_ascend : (es : List (List ℕ × Take)) → IsStrictlySortedBy name_cmp (keys_of es) → AreNamed es → IsStrictlySortedBy name_cmp (map entry_name (unmasked es))
unfolding IsStrictlySortedBy
names_ascend [] b n = tt
names_ascend ((g, Nothing) ∷ es) b n = names_ascend es b.1 n.1
names_ascend ((g, Placed p) ∷ es) b n = (subst (λ f. AllByRecursion (λ y. name_cmp f y ≡ Less) (map entry_name (unmasked es))) (sym n.0) (below_names g es b.0 n.1), names_ascend es b.1 n.1)

given_there : (es : List (List ℕ × Take)) (p : PathParts × Entry) → AreNamed es → Contains (unmasked es) p → Contains es (p.0.name, Placed p)
given_there [] p n c = none_there p c
given_there ((g, Nothing) ∷ es) p n c = Contains-append_right ((g, Nothing) ∷ []) es (p.0.name, Placed p) (given_there es p n.1 c)
given_there ((g, Placed q) ∷ es) p n c = pick (given_there es p n.1) (Contains-append_cases (q ∷ []) (unmasked es) p c)
  where
    pick : (Contains (unmasked es) p → Contains es (p.0.name, Placed p)) → Contains (q ∷ []) p ⊎ Contains (unmasked es) p → Contains ((g, Placed q) ∷ es) (p.0.name, Placed p)
    pick more (inl o) =
        let e = only_one q p o in
        let same : (g, Placed q) ≡ (p.0.name, Placed p) = ap (λ f. (f, Placed q)) (sym n.0) ∙ ap (λ r. (r.0.name, Placed r)) e in
        subst (Contains ((g, Placed q) ∷ es)) same (Contains-append_left ((g, Placed q) ∷ []) es (g, Placed q) (Contains-push [] (g, Placed q)))
    pick more (inr o) = Contains-append_right ((g, Placed q) ∷ []) es (p.0.name, Placed p) (more o)

there_given : (es : List (List ℕ × Take)) (f : List ℕ) (p : PathParts × Entry) → Contains es (f, Placed p) → Contains (unmasked es) p
there_given [] f p c = none_there _ c
there_given (e ∷ es) f p c = pick (there_given es f p) (Contains-append_cases (e ∷ []) es (f, Placed p) c)
  where
    pick : (Contains es (f, Placed p) → Contains (unmasked es) p) → Contains (e ∷ []) (f, Placed p) ⊎ Contains es (f, Placed p) → Contains (unmasked (e ∷ es)) p
    pick more (inl o) = subst (λ d. Contains (given d.1 ++ unmasked es) p) (sym (only_one e (f, Placed p) o)) (Contains-append_left (p ∷ []) (unmasked es) p (Contains-push [] p))
    pick more (inr o) = Contains-append_right (given e.1) (unmasked es) p (more o)

module _ (s : HostViewMap) (x : Search) (ds ts : List (List ℕ)) (m : BTreeMap (List ℕ) Take) (ordered : IsOrdered name_cmp m) (says : (f : List ℕ) → get name_cmp m f ≡ took_over s x ds ts f) where
  entry_is : (f : List ℕ) (v : Take) → (get name_cmp m f ≡ Some v) ↔ Contains m.entries (f, v)
  entry_is f v = btree_map_get_iff nat_list_cmp_total name_cmp-IsAntisymmetric m ordered f v

  named : AreNamed m.entries
  named = named_all m.entries (λ f p c. over_name s x ds ts f p (sym (says f) ∙ (entry_is f (Placed p)).1 c))

  -- The entries that are taken are in ascending order of file names.
  pub ascending : (ps : List (PathParts × Entry)) → ps ≡ unmasked m.entries → IsStrictlySortedBy name_cmp (map entry_name ps)
  ascending ps e = subst (λ qs. IsStrictlySortedBy name_cmp (map entry_name qs)) (sym e) (names_ascend m.entries ordered named)

  -- These are exactly the entries that are taken.
  pub exact : (ps : List (PathParts × Entry)) → ps ≡ unmasked m.entries → (p : PathParts × Entry) → Contains ps p ↔ (IsTakenOver s x ds ts (At p.0) p.0 × (finmap.get (view s) p.0 ≡ Some p.1))
  exact ps e p = (
    λ c. (over_iff_taken s x ds ts p).0 (sym (says p.0.name) ∙ (entry_is p.0.name (Placed p)).1 (given_there m.entries p named (subst (λ qs. Contains qs p) e c))),
    λ t. subst (λ qs. Contains qs p) (sym e) (there_given m.entries p.0.name p ((entry_is p.0.name (Placed p)).0 (says p.0.name ∙ (over_iff_taken s x ds ts p).1 t))),
  )

-- What a filter keeps, and what of it is kept.
kept_there : {X : Type 0} (q : X → Bool) (xs : List X) (x : X) → Contains (filter q xs) x → IsTrue (q x) × Contains xs x
kept_there q [] x c = none_there x c
kept_there q (y ∷ xs) x c = step (q y) refl (kept_there q xs x) c
  where
    later : IsTrue (q x) × Contains xs x → IsTrue (q x) × Contains (y ∷ xs) x
    later h = (h.0, Contains-append_right (y ∷ []) xs x h.1)

    pick : IsTrue (q y) → (Contains (filter q xs) x → IsTrue (q x) × Contains xs x) → Contains (y ∷ []) x ⊎ Contains (filter q xs) x → IsTrue (q x) × Contains (y ∷ xs) x
    pick e more (inl o) = (subst (λ z. IsTrue (q z)) (only_one y x o) e, Contains-append_left (y ∷ []) xs x o)
    pick e more (inr o) = later (more o)

    step : (t : Bool) → q y ≡ t → (Contains (filter q xs) x → IsTrue (q x) × Contains xs x) → Contains (cond t (y ∷ filter q xs) (filter q xs)) x → IsTrue (q x) × Contains (y ∷ xs) x
    step true e more d = pick e more (Contains-append_cases (y ∷ []) (filter q xs) x d)
    step false e more d = later (more d)

there_kept : {X : Type 0} (q : X → Bool) (xs : List X) (x : X) → IsTrue (q x) → Contains xs x → Contains (filter q xs) x
there_kept q [] x h c = none_there x c
there_kept q (y ∷ xs) x h c = pick (there_kept q xs x h) (Contains-append_cases (y ∷ []) xs x c)
  where
    kept : (t : Bool) → Contains (filter q xs) x → Contains (cond t (y ∷ filter q xs) (filter q xs)) x
    kept true d = Contains-append_right (y ∷ []) (filter q xs) x d
    kept false d = d

    here : (t : Bool) → t ≡ true → Contains (y ∷ []) x → Contains (cond t (y ∷ filter q xs) (filter q xs)) x
    here true e o = Contains-append_left (y ∷ []) (filter q xs) x o
    here false e o = cc (e)

    pick : (Contains xs x → Contains (filter q xs) x) → Contains (y ∷ []) x ⊎ Contains xs x → Contains (filter q (y ∷ xs)) x
    pick more (inl o) = here (q y) (subst (λ z. IsTrue (q z)) (sym (only_one y x o)) h) o
    pick more (inr o) = kept (q y) (more o)

record HasEntry (ps : List (PathParts × Entry)) (n : Name) : Type 0 where
  entry : PathParts × Entry
  there : Contains ps entry
  name_is : entry.0.name ≡ n

entry_there : (ps : List (PathParts × Entry)) (n : Name) → Contains (map entry_name ps) n → HasEntry ps n
entry_there [] n c = none_there n c
entry_there (p ∷ ps) n c = pick (entry_there ps n) (Contains-append_cases (p.0.name ∷ []) (map entry_name ps) n c)
  where
    pick : (Contains (map entry_name ps) n → HasEntry ps n) → Contains (p.0.name ∷ []) n ⊎ Contains (map entry_name ps) n → HasEntry (p ∷ ps) n
    pick more (inl o) = record { entry = p; there = Contains-append_left (p ∷ []) ps p (Contains-push [] p); name_is = only_one p.0.name n o }
    pick more (inr o) = let h = more o in record { entry = h.entry; there = Contains-append_right (p ∷ []) ps h.entry h.there; name_is = h.name_is }

-- The unit names among the file names of what is taken are exactly the names that are linked.
pub linked : (s : HostViewMap) (fs : List Name) (d : Folder) (ps : List (PathParts × Entry)) → ((p : PathParts × Entry) → Contains ps p ↔ (IsTakenOver s Links (dirs_with (ending d) fs) [] (At p.0) p.0 × (finmap.get (view s) p.0 ≡ Some p.1)))
    → (ns : List Name) → ns ≡ filter is_name (map entry_name ps) → (n : Name) → Contains ns n ↔ IsLinkedOf s fs d n
linked s fs d ps ex ns e n = (there, back)
  where
    there : Contains ns n → IsLinkedOf s fs d n
    there c =
        let h = kept_there is_name (map entry_name ps) n (subst (λ ms. Contains ms n) e c) in
        let p = entry_there ps n h.1 in
        record { name = h.0; path = p.entry.0; name_is = p.name_is; taken = over_none s Links (dirs_with (ending d) fs) (At p.entry.0) p.entry.0 ((ex p.entry).0 p.there).0 }

    back : IsLinkedOf s fs d n → Contains ns n
    back l =
        let h = held_there s Links l.path l.path l.taken.stands.says in
        subst (λ ms. Contains ms n) (sym e) (there_kept is_name (map entry_name ps) n l.name (subst (Contains (map entry_name ps)) l.name_is (made_there entry_name ps (l.path, h.0) ((ex (l.path, h.0)).1 (over_of_names s Links (dirs_with (ending d) fs) [] (At l.path) l.path l.taken, h.1)))))

pub names_ascending : (ps : List (PathParts × Entry)) → IsStrictlySortedBy name_cmp (map entry_name ps) → (ns : List Name) → ns ≡ filter is_name (map entry_name ps) → IsStrictlySortedBy name_cmp ns
names_ascending ps h ns e = subst (IsStrictlySortedBy name_cmp) (sym e) (IsStrictlySortedBy-filter name_cmp is_name (map entry_name ps) h)

-- The file names of the entries that are named like units are the unit names among the file names.
names_of_kept : (ps : List (PathParts × Entry)) → map entry_name (filter (λ p. is_name (entry_name p)) ps) ≡ filter is_name (map entry_name ps)
names_of_kept [] = refl
names_of_kept (p ∷ ps) = by (is_name p.0.name) (names_of_kept ps)
  where
    by : (b : Bool) → map entry_name (filter (λ q. is_name (entry_name q)) ps) ≡ filter is_name (map entry_name ps)
        → map entry_name (cond b (p ∷ filter (λ q. is_name (entry_name q)) ps) (filter (λ q. is_name (entry_name q)) ps)) ≡ cond b (p.0.name ∷ filter is_name (map entry_name ps)) (filter is_name (map entry_name ps))
    by true more = ap (λ ks. p.0.name ∷ ks) more
    by false more = more

pub links_ascending : (ps : List (PathParts × Entry)) → IsStrictlySortedBy name_cmp (map entry_name ps) → (ls : List (PathParts × Entry)) → ls ≡ filter (λ p. is_name (entry_name p)) ps → IsStrictlySortedBy name_cmp (map entry_name ls)
links_ascending ps h ls e = names_ascending ps h (map entry_name ls) (ap (map entry_name) e ∙ names_of_kept ps)

-- Of what is taken, the entries that are named like units are exactly the links.
pub linked_entries : (s : HostViewMap) (fs : List Name) (d : Folder) (ps : List (PathParts × Entry)) → ((p : PathParts × Entry) → Contains ps p ↔ (IsTakenOver s Links (dirs_with (ending d) fs) [] (At p.0) p.0 × (finmap.get (view s) p.0 ≡ Some p.1)))
    → (ls : List (PathParts × Entry)) → ls ≡ filter (λ p. is_name (entry_name p)) ps → AreLinksOf s fs d ls
linked_entries s fs d ps ex ls e p = (
  λ c.
      let h = kept_there (λ q. is_name (entry_name q)) ps p (subst (λ qs. Contains qs p) e c) in
      let t = (ex p).0 h.1 in
      ((h.0, over_none s Links (dirs_with (ending d) fs) (At p.0) p.0 t.0), t.1),
  λ l. subst (λ qs. Contains qs p) (sym e) (there_kept (λ q. is_name (entry_name q)) ps p l.0.0 ((ex p).1 (over_of_names s Links (dirs_with (ending d) fs) [] (At p.0) p.0 l.0.1, l.1))),
)
