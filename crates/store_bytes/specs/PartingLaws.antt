-- Entries that are parted into scopes are the same entries, and in order where they were.
use Rattle.std.proofs.Common.{◌≡◌, ◌<◌, ◌∷◌, ◌++◌, ◌&&◌, ◌+◌, ◌^◌, ◌≤◌, ◌⊎◌}
use Rattle.std.proofs.Common.{take, drop, inl, inr, ℕ, zero, suc, Bool, true, false, cond, List, [], length, IsTrue, refl, sym, ap, subst, ◌∙◌, arith, length-append}
use Rattle.std.specs.FinMap.{is_sorted}
use Rattle.std.specs.FinMap.Entries.{below_all}
use Rattle.std.specs.List.{AllByRecursion}
use Rattle.std.specs.Ordering.{eq_by_cmp, is_eq, is_lt, ordering_then}
use Rattle.std.specs.Cmp.{tied_itself}
use Rattle.std.specs.declared.cmp.Ordering.{Ordering}
use Rattle.std.specs.declared.cmp.Ordering.TheVariants.{Equal, Greater, Less}
use Rattle.std.proofs.lemmas.Bool.{and_parts}
use Rattle.list_laws.specs.Orderings.{is_equal, is_less}
use Rattle.load_path.specs.Paths.{PathParts, IsPath, path_cmp}
use Rattle.load_places.specs.Places.{place_cmp, PlaceParts, scope_cmp}
use Rattle.load_places.specs.PlaceLaws.{scope_cmp_total, scope_cmp-IsAntisymmetric}
use Rattle.load_places.specs.Texts.{IsScope}
use Rattle.load_places.specs.declared.places.Scope.{Scope}
use Rattle.edit_sums.specs.Entries.{Entry}
use Rattle.path_maps.specs.PlaceMaps.{placed}
use Rattle.path_maps.specs.PlaceMapLaws.{same_scope}
use Rattle.path_maps.specs.Scopes.{within}
use Rattle.store_bytes.specs.ListSpelling.{AreGroup}
use Rattle.store_bytes.specs.Spelling.{IsEntry}
use Rattle.store_bytes.specs.Stores.{AreScoped, flattened, Scoped}
use Rattle.store_bytes.specs.Parts.{by_path, leading, parted, with_first_entry}

-- ---- the same entries

flattened-with_first : (e : PlaceParts × Entry) (gs : List Scoped) → flattened (with_first_entry e gs) ≡ e ∷ flattened gs
flattened-with_first e [] = refl
flattened-with_first e (g ∷ gs) = by (eq_by_cmp scope_cmp e.0.scope g.0) refl
  where
    by : (b : Bool) → eq_by_cmp scope_cmp e.0.scope g.0 ≡ b
        → flattened (cond b ((g.0, (e.0.path, e.1) ∷ g.1) ∷ gs) ((e.0.scope, (e.0.path, e.1) ∷ []) ∷ g ∷ gs)) ≡ e ∷ flattened (g ∷ gs)
    by true t = ap (λ (s : Scope). (within s e.0.path, e.1) ∷ flattened (g ∷ gs)) (sym (scope_cmp-IsAntisymmetric e.0.scope g.0 (is_equal _ t)))
    by false t = refl

pub flattened-parted : (es : List (PlaceParts × Entry)) → flattened (parted es) ≡ es
flattened-parted [] = refl
flattened-parted (e ∷ es) = flattened-with_first e (parted es) ∙ ap (λ l. e ∷ l) (flattened-parted es)

-- ---- in order

both : (a b : Bool) → IsTrue a → IsTrue b → IsTrue (a && b)
both true b p q = q
both false b p q = cc (p)

below_first : (q : PlaceParts) (xs ys : List (PlaceParts × Entry)) → IsTrue (below_all place_cmp q (xs ++ ys))
    → IsTrue (below_all place_cmp q xs)
below_first q [] ys h = refl
below_first q (x ∷ xs) ys h = let p = and_parts _ _ h in both _ _ p.0 (below_first q xs ys p.1)

below_second : (q : PlaceParts) (xs ys : List (PlaceParts × Entry)) → IsTrue (below_all place_cmp q (xs ++ ys))
    → IsTrue (below_all place_cmp q ys)
below_second q [] ys h = h
below_second q (x ∷ xs) ys h = below_second q xs ys (and_parts _ _ h).1

-- a place before one of another scope is of a scope before it, or of the same
scope_before : (r : Ordering) (o : Ordering) → ordering_then r o ≡ Less → ¬ (r ≡ Equal) → r ≡ Less
scope_before Less o h n = refl
scope_before Equal o h n = absurd (n refl)
scope_before Greater o h n = cc (h)

not_same : (s t : Scope) → eq_by_cmp scope_cmp s t ≡ false → ¬ (scope_cmp s t ≡ Equal)
not_same s t h e = let wrong = sym h ∙ ap is_eq e in cc (wrong)

below_path : (s : Scope) (p : PathParts) (es : List (PathParts × Entry))
    → IsTrue (below_all place_cmp (within s p) (placed s es)) → IsTrue (below_all path_cmp p es)
below_path s p [] h = refl
below_path s p (e ∷ es) h = let q = and_parts _ _ h in both _ _ (sym (ap is_lt (same_scope s p e.0)) ∙ q.0) (below_path s p es q.1)

-- a scope that is less than the first is less than all
below_scopes : (s : Scope) (g : Scoped) (gs : List Scoped) → scope_cmp s g.0 ≡ Less
    → IsTrue (below_all scope_cmp g.0 gs) → IsTrue (below_all scope_cmp s (g ∷ gs))
below_scopes s g gs less h = both _ _ (ap is_lt less) (later gs h)
  where
    later : (hs : List Scoped) → IsTrue (below_all scope_cmp g.0 hs) → IsTrue (below_all scope_cmp s hs)
    later [] k = refl
    later (x ∷ hs) k = let p = and_parts _ _ k in both _ _ (ap is_lt (scope_cmp_total.trans s g.0 x.0 less (is_less _ p.0))) (later hs p.1)

-- ---- well formed

-- scopes in ascending order, each with some entries in ascending order of their paths
pub record AreParted (gs : List Scoped) : Type 0 where
  pub scopes : IsTrue (is_sorted scope_cmp gs)
  pub filled : AllByRecursion (λ g. 0 < length g.1) gs
  pub paths : AllByRecursion (λ g. IsTrue (is_sorted path_cmp g.1)) gs

parted_more : (e : PlaceParts × Entry) (gs : List Scoped) → IsTrue (below_all place_cmp e.0 (flattened gs))
    → AreParted gs → AreParted (with_first_entry e gs)
parted_more e [] below a = record { scopes = refl; filled = (omega arith, tt); paths = (refl, tt) }
parted_more e (g ∷ gs) below a = by (eq_by_cmp scope_cmp e.0.scope g.0) refl
  where
    by : (b : Bool) → eq_by_cmp scope_cmp e.0.scope g.0 ≡ b
        → AreParted (cond b ((g.0, (e.0.path, e.1) ∷ g.1) ∷ gs) ((e.0.scope, (e.0.path, e.1) ∷ []) ∷ g ∷ gs))
    by true t =
        let same = scope_cmp-IsAntisymmetric e.0.scope g.0 (is_equal _ t) in
        let here : IsTrue (below_all place_cmp (within g.0 e.0.path) (placed g.0 g.1)) =
        subst (λ (s : Scope). IsTrue (below_all place_cmp (within s e.0.path) (placed g.0 g.1))) same (below_first e.0 (placed g.0 g.1) (flattened gs) below) in
        record {
          scopes = a.scopes;
          filled = (omega arith, a.filled.1);
          paths = (both _ _ (below_path g.0 e.0.path g.1 here) a.paths.0, a.paths.1);
        }
    by false t =
        let less = next_scope g.1 a.filled.0 (below_first e.0 (placed g.0 g.1) (flattened gs) below) in
        let s = and_parts _ _ a.scopes in
        record {
          scopes = both _ _ (below_scopes e.0.scope g gs less s.0) a.scopes;
          filled = (omega arith, a.filled);
          paths = (refl, a.paths);
        }
      where
        next_scope : (es : List (PathParts × Entry)) → 0 < length es → IsTrue (below_all place_cmp e.0 (placed g.0 es))
            → scope_cmp e.0.scope g.0 ≡ Less
        next_scope [] some h = absurd (omega arith)
        next_scope (x ∷ es) some h = scope_before (scope_cmp e.0.scope g.0) (path_cmp e.0.path x.0) (is_less _ (and_parts _ _ h).0) (not_same e.0.scope g.0 t)

pub parted_are : (es : List (PlaceParts × Entry)) → IsTrue (is_sorted place_cmp es) → AreParted (parted es)
parted_are [] s = record { scopes = refl; filled = tt; paths = tt }
parted_are (e ∷ es) s =
    let p = and_parts _ _ s in
    parted_more e (parted es) (subst (λ (l : List (PlaceParts × Entry)). IsTrue (below_all place_cmp e.0 l)) (sym (flattened-parted es)) p.0) (parted_are es p.1)

-- scopes with entries that have a spelling, in any order
abbrev pub AreFit : List Scoped → Type 0
AreFit = AllByRecursion (λ g. IsScope g.0 × AllByRecursion (λ p. IsPath p.0 × IsEntry p.1) g.1)

length-placed : (s : Scope) (es : List (PathParts × Entry)) → length (placed s es) ≡ length es
length-placed s [] = refl
length-placed s (e ∷ es) = ap suc (length-placed s es)

length-flattened : (g : Scoped) (gs : List Scoped) → length (flattened (g ∷ gs)) ≡ length g.1 + length (flattened gs)
length-flattened g gs = length-append (placed g.0 g.1) (flattened gs) ∙ ap (λ n. n + length (flattened gs)) (length-placed g.0 g.1)

few_scopes : (gs : List Scoped) → AllByRecursion (λ g. 0 < length g.1) gs → length gs ≤ length (flattened gs)
few_scopes [] some = omega arith
few_scopes (g ∷ gs) some = let h = few_scopes gs some.1 in let e = length-flattened g gs in let one = some.0 in omega (arith, h, e, one)

groups_are : (gs : List Scoped) → AllByRecursion (λ g. 0 < length g.1) gs
    → AllByRecursion (λ g. IsTrue (is_sorted path_cmp g.1)) gs → AreFit gs → length (flattened gs) < 2 ^ 64
    → AllByRecursion (λ g. IsScope g.0 × AreGroup path_cmp IsPath IsEntry g.1) gs
groups_are [] some paths fit few = tt
groups_are (g ∷ gs) some paths fit few =
    let e = length-flattened g gs in
    let one : length g.1 < 2 ^ 64 = omega (arith, e, few) in
    let others : length (flattened gs) < 2 ^ 64 = omega (arith, e, few) in
    ((fit.0.0, record { pairs = record { count = one; each = fit.0.1; ascending = paths.0 }; some = some.0 }), groups_are gs some.1 paths.1 fit.1 others)

-- parts of entries that have a spelling have one too
pub parts_scoped : (es : List (PlaceParts × Entry)) → IsTrue (is_sorted place_cmp es) → AreFit (parted es)
    → length es < 2 ^ 64 → AreScoped (parted es)
parts_scoped es sorted fit few =
    let are = parted_are es sorted in
    let all : length (flattened (parted es)) < 2 ^ 64 = subst (λ (l : List (PlaceParts × Entry)). length l < 2 ^ 64) (sym (flattened-parted es)) few in
    let scopes = few_scopes (parted es) are.filled in
    record { count = omega (arith, scopes, all); each = groups_are (parted es) are.filled are.paths fit all; ascending = are.scopes }

-- ---- the first scope

-- the scope of the first entry is the first scope
data_first : (e : PlaceParts × Entry) (gs : List Scoped)
    → (g : Scoped) × (hs : List Scoped) × (with_first_entry e gs ≡ g ∷ hs) × (g.0 ≡ e.0.scope)
data_first e [] = ((e.0.scope, (e.0.path, e.1) ∷ []), [], refl, refl)
data_first e (g ∷ gs) = by (eq_by_cmp scope_cmp e.0.scope g.0) refl
  where
    by : (b : Bool) → eq_by_cmp scope_cmp e.0.scope g.0 ≡ b
        → (h : Scoped) × (hs : List Scoped)
        × (cond b ((g.0, (e.0.path, e.1) ∷ g.1) ∷ gs) ((e.0.scope, (e.0.path, e.1) ∷ []) ∷ g ∷ gs) ≡ h ∷ hs)
        × (h.0 ≡ e.0.scope)
    by true t = ((g.0, (e.0.path, e.1) ∷ g.1), gs, refl, sym (scope_cmp-IsAntisymmetric e.0.scope g.0 (is_equal _ t)))
    by false t = ((e.0.scope, (e.0.path, e.1) ∷ []), g ∷ gs, refl, refl)

itself : (s : Scope) → eq_by_cmp scope_cmp s s ≡ true
itself s = ap is_eq (tied_itself scope_cmp_total s)

-- an entry of the first scope
joins_first : (e : PlaceParts × Entry) (g : Scoped) (gs : List Scoped) → e.0.scope ≡ g.0
    → with_first_entry e (g ∷ gs) ≡ (g.0, (e.0.path, e.1) ∷ g.1) ∷ gs
joins_first e g gs same =
    ap (λ b. cond b ((g.0, (e.0.path, e.1) ∷ g.1) ∷ gs) ((e.0.scope, (e.0.path, e.1) ∷ []) ∷ g ∷ gs)) (ap (λ (s : Scope). eq_by_cmp scope_cmp s g.0) same ∙ itself g.0)

-- an entry before entries of other scopes
stands_alone : (e : PlaceParts × Entry) (es : List (PlaceParts × Entry)) → leading e.0.scope es ≡ 0
    → with_first_entry e (parted es) ≡ (e.0.scope, (e.0.path, e.1) ∷ []) ∷ parted es
stands_alone e [] none = refl
stands_alone e (x ∷ es) none = by (eq_by_cmp scope_cmp e.0.scope x.0.scope) refl (data_first x (parted es))
  where
    by : (b : Bool) → eq_by_cmp scope_cmp e.0.scope x.0.scope ≡ b
        → ((g : Scoped) × (hs : List Scoped) × (parted (x ∷ es) ≡ g ∷ hs) × (g.0 ≡ x.0.scope))
        → with_first_entry e (parted (x ∷ es)) ≡ (e.0.scope, (e.0.path, e.1) ∷ []) ∷ parted (x ∷ es)
    by true t f = let wrong : suc (leading e.0.scope es) ≡ 0 = sym (ap (λ b. cond b (suc (leading e.0.scope es)) 0) t) ∙ none in absurd (omega (arith, wrong))
    by false t f =
        ap (with_first_entry e) f.2
        ∙ ap (λ b. cond b ((f.0.0, (e.0.path, e.1) ∷ f.0.1) ∷ f.1) ((e.0.scope, (e.0.path, e.1) ∷ []) ∷ f.0 ∷ f.1)) (ap (eq_by_cmp scope_cmp e.0.scope) f.3 ∙ t)
        ∙ ap (λ (gs : List Scoped). (e.0.scope, (e.0.path, e.1) ∷ []) ∷ gs) (sym f.2)

none_or_some : (n : ℕ) → (n ≡ 0) ⊎ (0 < n)
none_or_some zero = inl refl
none_or_some (suc n) = inr (omega arith)

module _ (s : Scope) where
  abbrev IsPartedAt : List (PlaceParts × Entry) → ℕ → Type 0
  IsPartedAt es n = parted es ≡ (s, by_path (take n es)) ∷ parted (drop n es)

  one_leads : (e : PlaceParts × Entry) (es : List (PlaceParts × Entry)) → eq_by_cmp scope_cmp s e.0.scope ≡ true
      → (leading s es ≡ 0) ⊎ (0 < leading s es)
      → (0 < leading s es → IsPartedAt es (leading s es)) → IsPartedAt (e ∷ es) (suc (leading s es))
  one_leads e es t (inl none) h =
      let same = scope_cmp-IsAntisymmetric s e.0.scope (is_equal _ t) in
      subst (λ n. IsPartedAt (e ∷ es) (suc n)) (sym none)
      (stands_alone e es (ap (λ (x : Scope). leading x es) (sym same) ∙ none) ∙ ap (λ (x : Scope). (x, (e.0.path, e.1) ∷ []) ∷ parted es) (sym same))
  one_leads e es t (inr more) h =
      let same = scope_cmp-IsAntisymmetric s e.0.scope (is_equal _ t) in
      ap (with_first_entry e) (h more) ∙ joins_first e (s, by_path (take (leading s es) es)) (parted (drop (leading s es) es)) (sym same)

  -- the first scope has the first entries that are of it
  pub parted-leading : (es : List (PlaceParts × Entry)) → 0 < leading s es → IsPartedAt es (leading s es)
  parted-leading [] some = absurd (omega arith)
  parted-leading (e ∷ es) some = by (eq_by_cmp scope_cmp s e.0.scope) refl (λ h. parted-leading es h)
    where
      by : (b : Bool) → eq_by_cmp scope_cmp s e.0.scope ≡ b → (0 < leading s es → IsPartedAt es (leading s es))
          → IsPartedAt (e ∷ es) (leading s (e ∷ es))
      by false t h = let wrong : leading s (e ∷ es) ≡ 0 = ap (λ b. cond b (suc (leading s es)) 0) t in absurd (omega (arith, wrong, some))
      by true t h = subst (IsPartedAt (e ∷ es)) (sym (ap (λ b. cond b (suc (leading s es)) 0) t)) (one_leads e es t (none_or_some (leading s es)) h)

-- ---- parted again

-- entries of a scope before those of scopes above it
parted_scope : (s : Scope) (es : List (PathParts × Entry)) (gs : List Scoped) → 0 < length es
    → IsTrue (below_all scope_cmp s gs) → parted (flattened gs) ≡ gs
    → parted (placed s es ++ flattened gs) ≡ (s, es) ∷ gs
parted_scope s [] gs some below again = absurd (omega arith)
parted_scope s (e ∷ []) gs some below again = ap (with_first_entry (within s e.0, e.1)) again ∙ alone gs below
  where
    alone : (hs : List Scoped) → IsTrue (below_all scope_cmp s hs) → with_first_entry (within s e.0, e.1) hs ≡ (s, e ∷ []) ∷ hs
    alone [] h = refl
    alone (g ∷ hs) h = ap (λ b. cond b ((g.0, e ∷ g.1) ∷ hs) ((s, e ∷ []) ∷ g ∷ hs)) (ap is_eq (is_less _ (and_parts _ _ h).0))
parted_scope s (e ∷ x ∷ es) gs some below again =
    ap (with_first_entry (within s e.0, e.1)) (parted_scope s (x ∷ es) gs (omega arith) below again) ∙ joins_first (within s e.0, e.1) (s, x ∷ es) gs refl

pub parted-flattened : (gs : List Scoped) → IsTrue (is_sorted scope_cmp gs)
    → AllByRecursion (λ g. IsScope g.0 × AreGroup path_cmp IsPath IsEntry g.1) gs → parted (flattened gs) ≡ gs
parted-flattened [] sorted each = refl
parted-flattened (g ∷ gs) sorted each = let p = and_parts _ _ sorted in parted_scope g.0 g.1 gs each.0.1.some p.0 (parted-flattened gs p.1 each.1)
