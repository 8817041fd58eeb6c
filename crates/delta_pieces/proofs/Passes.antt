-- A pass over entries and versions side by side.
use Rattle.std.proofs.Common.{◌++◌, ◌+◌, ◌<◌, ◌∷◌, ◌≡◌, ◌≢◌}
use Rattle.delta_pieces.proofs.Prelude.{[], add-one, and_parts, ap, append-nil, below_all, Bool, cond, drop, drop-cons, Entry, eq_by_cmp, Equal, false, filter, filter_more, find, find_before, get_or, Greater, is_eq, is_equal, is_greater, is_less, is_newer, is_sorted, IsNotBelow, IsTrue, length, Less, List, None, Option, ordering_reverse, place_cmp, place_cmp_total, PlaceParts, refl, slice_get, Some, subst, suc, sym, take, tied, tied_itself, true, turned, Version, ℕ, ◌∙◌}

-- at the places of these entries, the remaining versions are those of the complete list
abbrev pub RecordsTheSame : (left versions : List (PlaceParts × Version)) → List (PlaceParts × Entry) → Type 0
RecordsTheSame left versions [] = Unit {0}
RecordsTheSame left versions (e ∷ es) = (find place_cmp e.0 left ≡ find place_cmp e.0 versions) × RecordsTheSame left versions es

pub records_all : (versions : List (PlaceParts × Version)) (es : List (PlaceParts × Entry)) → RecordsTheSame versions versions es
records_all versions [] = tt
records_all versions (e ∷ es) = (refl, records_all versions es)

-- a pair below a place doesn't matter for places that aren't below that place
pub find_past : (k q : PlaceParts) (next : PlaceParts × Version) (further : List (PlaceParts × Version)) → place_cmp next.0 k ≡ Less → place_cmp q k ≢ Less → find place_cmp q (next ∷ further) ≡ find place_cmp q further
find_past k q next further below not_below = by (eq_by_cmp place_cmp q next.0) refl
  where
    by : (b : Bool) → eq_by_cmp place_cmp q next.0 ≡ b → find place_cmp q (next ∷ further) ≡ find place_cmp q further
    by true e = absurd (not_below (ap (λ (r : PlaceParts). place_cmp r k) (tied q next.0 e) ∙ below))
    by false e = ap (λ b. cond b (Some next.1) (find place_cmp q further)) e

greater : (x y : PlaceParts) → place_cmp x y ≡ Less → place_cmp y x ≢ Less
greater x y h e =
    let f : place_cmp y x ≡ Greater = place_cmp_total.antisymm y x ∙ ap ordering_reverse h in
    cc

itself : (x : PlaceParts) → place_cmp x x ≢ Less
itself x e = let f : place_cmp x x ≡ Equal = tied_itself place_cmp_total x in cc

-- versions below an entry's place are not needed from that entry on
pub records_from : (e : PlaceParts × Entry) (es : List (PlaceParts × Entry)) (left further versions : List (PlaceParts × Version)) → IsTrue (is_sorted place_cmp (e ∷ es)) →
    ((q : PlaceParts) → place_cmp q e.0 ≢ Less → find place_cmp q further ≡ find place_cmp q left) →
    RecordsTheSame left versions (e ∷ es) → RecordsTheSame further versions (e ∷ es)
records_from e es left further versions s held t = (held e.0 (itself e.0) ∙ t.0, after es (and_parts _ _ s).0 t.1)
  where
    after : (fs : List (PlaceParts × Entry)) → IsTrue (below_all place_cmp e.0 fs) → RecordsTheSame left versions fs → RecordsTheSame further versions fs
    after [] b u = tt
    after (f ∷ fs) b u = (held f.0 (greater e.0 f.0 (is_less _ (and_parts _ _ b).0)) ∙ u.0, after fs (and_parts _ _ b).1 u.1)

-- the state of the pass at an entry, with the versions that remain there
pub record IsPassed (versions further : List (PlaceParts × Version)) (e : PlaceParts × Entry) (es : List (PlaceParts × Entry)) (newer : Bool) : Type 0 where
  pub recorded : newer ≡ is_newer e.1.version (find place_cmp e.0 versions)
  pub sorted : IsTrue (is_sorted place_cmp es)
  pub records : RecordsTheSame further versions es

pub passed : (versions left further : List (PlaceParts × Version)) (e : PlaceParts × Entry) (es all : List (PlaceParts × Entry)) (entry : Entry) (version : Option Version) (newer : Bool)
    → all ≡ e ∷ es → IsTrue (is_sorted place_cmp all) → RecordsTheSame left versions all
    → ((q : PlaceParts) → place_cmp q e.0 ≢ Less → find place_cmp q further ≡ find place_cmp q left)
    → entry ≡ e.1 → version ≡ find place_cmp e.0 further → newer ≡ is_newer entry.version version → IsPassed versions further e es newer
passed versions left further e es all entry version newer is sorted recorded held same there test =
    let ascends = subst (λ (l : List (PlaceParts × Entry)). IsTrue (is_sorted place_cmp l)) is sorted in
    let records = records_from e es left further versions ascends held (subst (RecordsTheSame left versions) is recorded) in
    record {
      recorded = test ∙ ap (λ (x : Entry). is_newer x.version version) same ∙ ap (is_newer e.1.version) (there ∙ records.0);
      sorted = (and_parts (below_all place_cmp e.0 es) _ ascends).1;
      records = records.1;
    }

-- One more entry.

module _ (p : PlaceParts × Entry → Bool) (es : List (PlaceParts × Entry)) (i : ℕ) (e : PlaceParts × Entry) (h : i < length es) (is : e ≡ get_or es i e) where
  more : filter p (take (i + 1) es) ≡ filter p (take i es) ++ cond (p e) (e ∷ []) []
  more = filter_more p es i e h ∙ ap (λ (x : PlaceParts × Entry). filter p (take i es) ++ cond (p x) (x ∷ []) []) (sym is)

  pub with_next : p e ≡ true → filter p (take i es) ++ e ∷ [] ≡ filter p (take (i + 1) es)
  with_next t = sym (more ∙ ap (λ b. filter p (take i es) ++ cond b (e ∷ []) []) t)

  pub without_next : p e ≡ false → filter p (take i es) ≡ filter p (take (i + 1) es)
  without_next t = sym (more ∙ ap (λ b. filter p (take i es) ++ cond b (e ∷ []) []) t ∙ append-nil (filter p (take i es)))

  pub next_of : drop i es ≡ e ∷ drop (i + 1) es
  next_of = rw (add-one) (drop-cons es i e h ∙ ap (λ (x : PlaceParts × Entry). x ∷ drop (suc i) es) (sym is))

-- The first version, if none is below the place.

module _ (k : PlaceParts) where
  -- it is at the place
  pub find_first : (es : List (PlaceParts × Version)) (d : PlaceParts × Version) → Some d ≡ slice_get es 0 → is_eq (place_cmp d.0 k) ≡ true → find place_cmp k es ≡ Some d.1
  find_first [] d is h = cc
  find_first (e ∷ es) d is h =
      let one : d ≡ e = cc in
      let tied : place_cmp e.0 k ≡ Equal = ap (λ (p : PlaceParts × Version). place_cmp p.0 k) (sym one) ∙ is_equal _ h in
      ap (λ r. cond (is_eq r) (Some e.1) (find place_cmp k es)) (turned place_cmp place_cmp_total e.0 k Equal tied) ∙ ap (λ (p : PlaceParts × Version). Some p.1) (sym one)

  -- it is after the place
  pub find_before_first : (es : List (PlaceParts × Version)) (d : PlaceParts × Version) → Some d ≡ slice_get es 0 → IsTrue (is_sorted place_cmp es) → IsNotBelow place_cmp k es → is_eq (place_cmp d.0 k) ≡ false → find place_cmp k es ≡ None
  find_before_first [] d is s n h = refl
  find_before_first (e ∷ es) d is s n h =
      let one : d ≡ e = cc in
      let other : is_eq (place_cmp e.0 k) ≡ false = ap (λ (p : PlaceParts × Version). is_eq (place_cmp p.0 k)) (sym one) ∙ h in
      let less : place_cmp k e.0 ≡ Less = turned place_cmp place_cmp_total e.0 k Greater (is_greater _ n other) in
      ap (λ r. cond (is_eq r) (Some e.1) (find place_cmp k es)) less ∙ find_before place_cmp k place_cmp_total e.0 less es (and_parts _ _ s).0
