-- The names at which something is visible, level by level, and those of them that are sources.
use Rattle.std.proofs.Common.{if◌then◌else◌, ◌&&◌, ◌++◌, ◌+◌, ◌<◌, ◌↔◌, ◌∷◌, ◌≡◌, ◌≢◌, ◌≤◌, ◌⊎◌}
use Rattle.parallel_load.proofs.Prelude.{[], among_filter, among_filter_map, among_find, among_map, and_from, and_parts, ap, AreSourcesBy, arith, asked_by, Bool, bytes_eq, Entry, eq-eqb, eqb-true, false, filter, filter_among, filter_map, filter_map_among, find_among, HostViewMap, inl, inr, Instance, is_in, is_name, is_some, is_template, IsAmong, IsAmong-append_cases, IsAmong-append_left, IsAmong-append_right, IsName, IsShown, IsSome, IsSource, IsTrue, IsVisibleName, keys_of, List, map_among, Name, NamedWords, None, none-some, not, Option, option_and_then, own_path, path_cmp, path_cmp-IsAntisymmetric, path_cmp_total, PathParts, Plain, Profile, refl, same_Some, shape, shown, shown_name, shown_names, Some, subst, suc, sym, T, Target, Template, true, UnitShape, view, viewed_at, whole_name, zero, ℕ, ◌∙◌}
use Rattle.std.specs.FinMap as finmap

-- ---- what is visible of names

-- those of the levels below this one
abbrev pub names_below : HostViewMap → ℕ → List Name
names_below s zero = []
names_below s (suc level) = names_below s level ++ shown_names s level

pub one_level_more : (s : HostViewMap) (level : ℕ) (old new : List Name) → old ≡ names_below s level → new ≡ old ++ shown_names s level → new ≡ names_below s (level + 1)
one_level_more s level old new e f =
    f ∙ ap (λ (ns : List Name). ns ++ shown_names s level) e ∙ ap (names_below s) (sym (succ_is level))
  where
    succ_is : (r : ℕ) → r + 1 ≡ suc r
    succ_is r = omega arith

-- the parts of a path of one component
own_is : (level : ℕ) (p : PathParts) (n : Name) → is_in level [] p ≡ true → p.name ≡ n → p ≡ own_path n level
own_is level p n h e =
    let parts = and_parts _ _ h in
    ap (λ (r : ℕ). let q : PathParts = record { rank = r; folder = p.folder; name = p.name } in q) (eqb-true p.rank level parts.0)
    ∙ ap (λ (f : List ℕ). let q : PathParts = record { rank = level; folder = f; name = p.name } in q) (no_bytes p.folder parts.1)
    ∙ ap (λ (m : Name). own_path m level) e
  where
    no_bytes : (f : List ℕ) → bytes_eq f [] ≡ true → f ≡ []
    no_bytes [] k = refl
    no_bytes (x ∷ f) k = cc (k)

some_shown : (s : HostViewMap) (q : PathParts) → IsSome (viewed_at s q) → (x : Entry) × (finmap.get (view s) q ≡ Some x) × (is_some (shown x) ≡ true)
some_shown s q h = by (finmap.get (view s) q) refl h
  where
    by : (o : Option Entry) → finmap.get (view s) q ≡ o → IsSome (option_and_then shown o) → (x : Entry) × (finmap.get (view s) q ≡ Some x) × (is_some (shown x) ≡ true)
    by None e k = cc (k)
    by (Some x) e k = (x, e, k)

-- the test is true, and the name is the one that it gives
record HasPassed (a : Bool) (m n : Name) : Type 0 where
  passed : a ≡ true
  same : m ≡ n

from_if : (a : Bool) (m n : Name) → (if a then Some m else None) ≡ Some n → HasPassed a m n
from_if true m n h = record { passed = refl; same = same_Some _ _ h }
from_if false m n h = absurd (none-some _ h)

to_if : (a : Bool) (m : Name) → a ≡ true → (if a then Some m else None) ≡ Some m
to_if true m e = refl
to_if false m e = cc (e)

module _ (s : HostViewMap) (level : ℕ) where
  shown_is : (n : Name) → IsAmong n (shown_names s level) → IsSome (viewed_at s (own_path n level))
  shown_is n h =
      let r = among_filter_map shown_name (filter (λ p. is_in level [] p.0) (finmap.entries (view s))) n h in
      let here = among_filter (λ (p : PathParts × Entry). is_in level [] p.0) (finmap.entries (view s)) r.source r.there in
      let v = from_if (is_some (shown r.source.1)) r.source.0.name n r.makes in
      let own = own_is level r.source.0 n here.1 v.same in
      let got : finmap.get (view s) (own_path n level) ≡ Some r.source.1 =
      finmap.get-entries (view s) (own_path n level)
      ∙ among_find path_cmp path_cmp_total (own_path n level) r.source.1 (finmap.entries (view s)) (is_true _ (finmap.entries_sorted (view s)))
      (subst (λ (q : PathParts). IsAmong {X = PathParts × Entry} (q, r.source.1) (finmap.entries (view s))) own here.0) in
      ap (λ (o : Option Entry). is_some (option_and_then shown o)) got ∙ v.passed
    where
      is_true : (b : Bool) → T b → IsTrue b
      is_true true k = refl
      is_true false k = absurd k

  is_shown : (n : Name) → IsSome (viewed_at s (own_path n level)) → IsAmong n (shown_names s level)
  is_shown n v =
      let x = some_shown s (own_path n level) v in
      let there : IsAmong {X = PathParts × Entry} (own_path n level, x.0) (finmap.entries (view s)) =
      find_among path_cmp path_cmp-IsAntisymmetric (own_path n level) (finmap.entries (view s)) x.0 (sym (finmap.get-entries (view s) (own_path n level)) ∙ x.1) in
      filter_map_among shown_name (filter (λ p. is_in level [] p.0) (finmap.entries (view s))) (own_path n level, x.0) n
      (filter_among (λ (p : PathParts × Entry). is_in level [] p.0) (finmap.entries (view s)) (own_path n level, x.0) there (and_from _ _ (eq-eqb level level refl) refl))
      (to_if (is_some (shown x.0)) n x.2)

below_is : (s : HostViewMap) (k : ℕ) (n : Name) → IsAmong n (names_below s k) → (level : ℕ) × (level < k) × IsSome (viewed_at s (own_path n level))
below_is s zero n h = absurd h
below_is s (suc k) n h = by (below_is s k n) (IsAmong-append_cases n (names_below s k) (shown_names s k) h)
  where
    by : (IsAmong n (names_below s k) → (level : ℕ) × (level < k) × IsSome (viewed_at s (own_path n level))) → IsAmong n (names_below s k) ⊎ IsAmong n (shown_names s k)
        → (level : ℕ) × (level < suc k) × IsSome (viewed_at s (own_path n level))
    by more (inl a) = let r = more a in let lt = r.1 in (r.0, omega arith, r.2)
    by more (inr b) = (k, omega arith, shown_is s k n b)

less_or_is : (a b : ℕ) → a ≤ b → (a < b) ⊎ (a ≡ b)
less_or_is zero zero l = inr refl
less_or_is zero (suc b) l = inl (omega arith)
less_or_is (suc a) zero l = absurd (omega arith)
less_or_is (suc a) (suc b) l = elim (less_or_is a b (omega arith)) [ inl k ↦ inl (omega arith) | inr e ↦ inr (ap suc e) ]

is_below : (s : HostViewMap) (k level : ℕ) (n : Name) → level < k → IsSome (viewed_at s (own_path n level)) → IsAmong n (names_below s k)
is_below s zero level n lt v = absurd (omega arith)
is_below s (suc k) level n lt v = by (λ l. is_below s k level n l v) (less_or_is level k (omega arith))
  where
    by : (level < k → IsAmong n (names_below s k)) → (level < k) ⊎ (level ≡ k) → IsAmong n (names_below s k ++ shown_names s k)
    by more (inl a) = IsAmong-append_left n (names_below s k) (shown_names s k) (more a)
    by more (inr e) = IsAmong-append_right n (names_below s k) (shown_names s k) (is_shown s k n (subst (λ (r : ℕ). IsSome (viewed_at s (own_path n r))) e v))

-- those of all levels are shown
pub names_are_shown : (s : HostViewMap) (names : List Name) (level : ℕ) → names ≡ names_below s level → level ≡ 8 → (n : Name) → IsAmong n names ↔ IsShown s n
names_are_shown s names level e f n = (there, back)
  where
    all : names ≡ names_below s 8
    all = e ∙ ap (names_below s) f

    there : IsAmong n names → IsShown s n
    there h = let r = below_is s 8 n (subst (λ (ns : List Name). IsAmong n ns) all h) in (r.0, r.1, r.2)

    back : IsShown s n → IsAmong n names
    back h = subst (λ (ns : List Name). IsAmong n ns) (sym all) (is_below s 8 h.0 n h.1 h.2)

-- ---- sources

not_template : (sh : UnitShape) → not (is_template sh) ≡ true → sh ≢ Template
not_template Plain h e = cc
not_template Template h e = cc
not_template Instance h e = cc

template_not : (sh : UnitShape) → sh ≢ Template → not (is_template sh) ≡ true
template_not Plain h = refl
template_not Template h = absurd (h refl)
template_not Instance h = refl

record IsWholeName (m n : Name) : Type 0 where
  name : IsName n
  whole : shape n ≢ Template
  same : m ≡ n

whole_from : (m n : Name) → whole_name m ≡ Some n → IsWholeName m n
whole_from m n h =
    let r = from_if (is_name m && not (is_template (shape m))) m n h in
    let parts = and_parts _ _ r.passed in
    record {
      name = subst IsName r.same parts.0;
      whole = subst (λ (x : Name). shape x ≢ Template) r.same (not_template (shape m) parts.1);
      same = r.same;
    }

-- the unit names in a list of link targets
abbrev named_in : NamedWords → List Name
named_in words = filter_map (λ (p : Name × List Target). whole_name p.0) words

-- the names that are asked for and those in the list of link targets are the sources
pub sources_are : (profile : Profile) (words : NamedWords) (extra names : List Name) → names ≡ asked_by profile extra ++ filter_map (λ (p : Name × List Target). whole_name p.0) words → AreSourcesBy profile words extra names
sources_are profile words extra names e s same are n = (
  λ h. there (IsAmong-append_cases n (asked_by profile extra) (named_in words) (subst (λ (ns : List Name). IsAmong n ns) e h)),
  λ h. subst (λ (ns : List Name). IsAmong n ns) (sym e) (back h),
)
  where
    visible : IsAmong n (named_in words) → IsVisibleName s n
    visible h =
        let r = among_filter_map (λ (p : Name × List Target). whole_name p.0) words n h in
        let w = whole_from r.source.0 n r.makes in
        let v = (are.shown n).0 (subst (λ (x : Name). IsAmong x (keys_of words)) w.same (map_among (λ (p : Name × List Target). p.0) words r.source r.there)) in
        (v.0, v.1, record { name = w.name; whole = w.whole; shown = v.2 })

    listed : IsVisibleName s n → IsAmong n (named_in words)
    listed v =
        let r = among_map (λ (p : Name × List Target). p.0) words n ((are.shown n).1 (v.0, v.1, v.2.shown)) in
        filter_map_among (λ (p : Name × List Target). whole_name p.0) words r.source n r.there
        (ap whole_name r.makes ∙ to_if (is_name n && not (is_template (shape n))) n (and_from _ _ v.2.name (template_not (shape n) v.2.whole)))

    there : IsAmong n (asked_by profile extra) ⊎ IsAmong n (named_in words) → IsSource s extra n
    there (inl a) = inl (subst (λ (by : Profile). IsAmong n (asked_by by extra)) (sym same) a)
    there (inr b) = inr (visible b)

    back : IsSource s extra n → IsAmong n (asked_by profile extra ++ (named_in words))
    back (inl a) = IsAmong-append_left n (asked_by profile extra) (named_in words) (subst (λ (by : Profile). IsAmong n (asked_by by extra)) same a)
    back (inr v) = IsAmong-append_right n (asked_by profile extra) (named_in words) (listed v)
