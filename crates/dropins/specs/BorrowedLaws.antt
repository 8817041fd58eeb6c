-- Laws of borrowed entries: they give their places.
use Rattle.std.proofs.Common.{◌↔◌, ◌∷◌, ◌≡◌, ◌⊎◌}
use Rattle.dropins.specs.Prelude.{[], ap, Contains, Contains-append_cases, Contains-append_left, Contains-append_right, Contains-push, Entry, HostViewMap, inl, inr, IsStrictlySortedBy, List, map, Name, name_cmp, None, none_there, only_one, Option, option_and_then, PathParts, PlaceParts, refl, shown, Some, subst, sym, view, ℕ}
use Rattle.dropins.specs.{declared.precedence.Search.{Search, TheVariants.{DropIns}}, Taken.{AreDropInsOf, as_found, Candidate.{At}, candidate_at, entry_name, entry_place, file_name, IsDropInAtOf}}
use Rattle.std.specs.FinMap as finmap

-- The places of the entries of a unit's drop-ins are its drop-ins, and they are in ascending order of file names if the
-- entries are.
abbrev pub BorrowedAreDropIns : Type 0
BorrowedAreDropIns = (s : HostViewMap) (fs : List Name) (ps : List (PathParts × Entry)) → AreDropInsOf s fs ps
    → ((p : PlaceParts) → Contains (map (entry_place s) ps) p ↔ IsDropInAtOf s fs p)
    × (IsStrictlySortedBy name_cmp (map entry_name ps)
    → IsStrictlySortedBy name_cmp (map file_name (map (entry_place s) ps)))

-- Where there is a candidate, the store has an entry.
pub held_there : (s : HostViewMap) (x : Search) (q p : PathParts) → candidate_at s x q ≡ Some (At p)
    → (e : Entry) × (finmap.get (view s) q ≡ Some e)
held_there s x q p h = by (finmap.get (view s) q) refl h
  where
    by : (o : Option Entry) → finmap.get (view s) q ≡ o → option_and_then (as_found x q) (option_and_then shown o)
        ≡ Some (At p) → (e : Entry) × (finmap.get (view s) q ≡ Some e)
    by None g k = cc (k)
    by (Some e) g k = (e, g)

-- If an item is in a list, its image is in the mapped list, and what is in the mapped list is the image of one.
pub made_there : {A B : Type 0} (f : A → B) (xs : List A) (x : A) → Contains xs x → Contains (map f xs) (f x)
made_there f [] x c = none_there x c
made_there f (y ∷ ys) x c = pick (made_there f ys x) (Contains-append_cases (y ∷ []) ys x c)
  where
    pick : (Contains ys x → Contains (map f ys) (f x)) → Contains (y ∷ []) x ⊎ Contains ys x → Contains (map f (y ∷ ys)) (f x)
    pick more (inl o) = subst (λ z. Contains (z ∷ map f ys) (f x)) (sym (ap f (only_one y x o))) (Contains-append_left (f x ∷ []) (map f ys) (f x) (Contains-push [] (f x)))
    pick more (inr o) = Contains-append_right (f y ∷ []) (map f ys) (f x) (more o)

pub made_of : {A B : Type 0} (f : A → B) (xs : List A) (y : B) → Contains (map f xs) y → (x : A) × (f x ≡ y) × Contains xs x
made_of f [] y c = none_there y c
made_of {A = A} {B = B} f (x ∷ xs) y c = pick (made_of f xs y) (Contains-append_cases (f x ∷ []) (map f xs) y c)
  where
    pick : (Contains (map f xs) y → (z : A) × (f z ≡ y) × Contains xs z) → Contains (f x ∷ []) y ⊎ Contains (map f xs) y
        → (z : A) × (f z ≡ y) × Contains (x ∷ xs) z
    pick more (inl o) = (x, only_one (f x) y o, Contains-append_left (x ∷ []) xs x (Contains-push [] x))
    pick more (inr o) = let h = more o in (h.0, h.1, Contains-append_right (x ∷ []) xs h.0 h.2)

pub borrowed_are_drop_ins : BorrowedAreDropIns
borrowed_are_drop_ins s fs ps ex = (exact, λ h. subst (IsStrictlySortedBy name_cmp) (sym (names ps)) h)
  where
    exact : (p : PlaceParts) → Contains (map (entry_place s) ps) p ↔ IsDropInAtOf s fs p
    exact p = (
      λ c. let h = made_of (entry_place s) ps p c in (h.0.0, h.1, ((ex h.0).0 h.2).0),
      λ t. let h = held_there s DropIns t.0 t.0 t.2.stands.says in subst (Contains (map (entry_place s) ps)) t.1 (made_there (entry_place s) ps (t.0, h.0) ((ex (t.0, h.0)).1 (t.2, h.1))),
    )

    names : (rs : List (PathParts × Entry)) → map file_name (map (entry_place s) rs) ≡ map entry_name rs
    names [] = refl
    names (r ∷ rs) = ap (λ (l : List (List ℕ)). r.0.name ∷ l) (names rs)
