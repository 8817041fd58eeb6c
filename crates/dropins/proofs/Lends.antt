-- The entry that is borrowed for a file name is what is taken for it, as the store has it.
use Rattle.std.proofs.Common.{◌↔◌, ◌∷◌, ◌≡◌, ◌⊎◌}
use Rattle.dropins.proofs.Prelude.{[], ap, as_found, At, borrowed, Candidate, candidate_at, Entry, first_is, first_said, first_same, found_iff_taken, found_is_taken, found_name, found_path, get_or, HostViewMap, inl, inr, IsTaken, IsTakenOver, levels, List, Mask, None, none_stands, NoneStands, Nothing, Option, option_and_then, option_map, option_or, over_is_either, over_of_names, over_of_types, path, PathParts, Placed, refl, same_Some, Search, shown, Some, subst, sym, Take, take_at, take_of, taken, taken_in, took, took_in, took_over, view, ℕ, ◌∙◌}
use Rattle.dropins.specs.WalkLaws.{path_or}
use Rattle.std.specs.FinMap as finmap

-- The candidate that a taken entry is.
abbrev candidate_of : Take → Candidate
candidate_of Nothing = Mask
candidate_of (Placed p) = At p.0

borrowed_path : (q : PathParts) (e : Entry) (o : Option Candidate) → path_or q o ≡ q → option_map candidate_of (option_map (borrowed (q, e)) o) ≡ o
unfolding path_or
borrowed_path q e None h = refl
borrowed_path q e (Some Mask) h = refl
borrowed_path q e (Some (At p)) h = ap (λ r. Some (At r)) (sym h)

candidate_viewed : (s : HostViewMap) (x : Search) (q : PathParts) → option_map candidate_of (take_at s x q) ≡ candidate_at s x q
candidate_viewed s x q = by (finmap.get (view s) q)
  where
    by : (o : Option Entry) → option_map candidate_of (option_and_then (λ e. take_of x (q, e)) o) ≡ option_and_then (as_found x q) (option_and_then shown o)
    by None = refl
    by (Some e) = borrowed_path q e (option_and_then (as_found x q) (shown e)) (found_path x q (shown e))

first_map : {A B C : Type 0} (h : B → C) (g : A → Option B) (xs : List A) → option_map h (first_said g xs) ≡ first_said (λ a. option_map h (g a)) xs
first_map h g [] = refl
first_map {B = B} {C = C} h g (a ∷ as_left) = by (g a) ∙ ap (option_or (option_map h (g a))) (first_map h g as_left)
  where
    by : (o : Option B) → option_map h (option_or o (first_said g as_left)) ≡ option_or (option_map h o) (option_map h (first_said g as_left))
    by None = refl
    by (Some b) = refl

module _ (s : HostViewMap) (x : Search) (ds : List (List ℕ)) where
  viewed_in : (f : List ℕ) (r : ℕ) → option_map candidate_of (took_in s x ds f r) ≡ taken_in s x ds f r
  viewed_in f r = first_map candidate_of (λ d. take_at s x (path r d f)) ds ∙ first_same (λ d. option_map candidate_of (take_at s x (path r d f))) (λ d. candidate_at s x (path r d f)) (λ d. candidate_viewed s x (path r d f)) ds

  viewed_took : (f : List ℕ) → option_map candidate_of (took s x ds f) ≡ taken s x ds f
  viewed_took f = first_map candidate_of (took_in s x ds f) levels ∙ first_same (λ r. option_map candidate_of (took_in s x ds f r)) (taken_in s x ds f) (viewed_in f) levels

  -- A borrowed entry is the store's entry.
  held_at : (q : PathParts) (p : PathParts × Entry) → take_at s x q ≡ Some (Placed p) → finmap.get (view s) p.0 ≡ Some p.1
  held_at q p h = by (finmap.get (view s) q) refl h
    where
      of_entry : (e : Entry) (o : Option Candidate) → option_map (borrowed (q, e)) o ≡ Some (Placed p) → (q, e) ≡ p
      of_entry e None k = cc (k)
      of_entry e (Some Mask) k = cc (k)
      of_entry e (Some (At r)) k = cc (k)

      by : (o : Option Entry) → finmap.get (view s) q ≡ o → option_and_then (λ e. take_of x (q, e)) o ≡ Some (Placed p) → finmap.get (view s) p.0 ≡ Some p.1
      by None g k = cc (k)
      by (Some e) g k = let same = of_entry e (option_and_then (as_found x q) (shown e)) k in subst (λ (y : PathParts × Entry). finmap.get (view s) y.0 ≡ Some y.1) same g

  held : (f : List ℕ) (p : PathParts × Entry) → took s x ds f ≡ Some (Placed p) → finmap.get (view s) p.0 ≡ Some p.1
  held f p h =
      let level = first_is (took_in s x ds f) levels 0 (Placed p) h in
      let folder = first_is (λ d. take_at s x (path (get_or levels level.place 0) d f)) ds [] (Placed p) level.says in
      held_at (path (get_or levels level.place 0) (get_or ds folder.place []) f) p folder.says

  pub took_name : (f : List ℕ) (p : PathParts × Entry) → took s x ds f ≡ Some (Placed p) → p.0.name ≡ f
  took_name f p h = found_name s x ds f p.0 (sym (viewed_took f) ∙ ap (option_map candidate_of) h)

  -- An entry is borrowed for its file name exactly if its path is taken and the store has the entry there.
  pub took_iff_taken : (p : PathParts × Entry) → (took s x ds p.0.name ≡ Some (Placed p)) ↔ (IsTaken s x ds (At p.0) p.0 × (finmap.get (view s) p.0 ≡ Some p.1))
  took_iff_taken p = (λ h. ((found_iff_taken s x ds p.0).0 (sym (viewed_took p.0.name) ∙ ap (option_map candidate_of) h), held p.0.name p h), λ t. back t.1 (took s x ds p.0.name) refl (viewed_took p.0.name ∙ (found_iff_taken s x ds p.0).1 t.0))
    where
      same_path : (a b : PathParts) → At a ≡ At b → a ≡ b
      same_path a b h = cc (h)

      back : finmap.get (view s) p.0 ≡ Some p.1 → (o : Option Take) → took s x ds p.0.name ≡ o → option_map candidate_of o ≡ Some (At p.0) → o ≡ Some (Placed p)
      back g None e k = cc (k)
      back g (Some Nothing) e k = cc (k)
      back g (Some (Placed q)) e k =
          let path_is : q.0 ≡ p.0 = same_path q.0 p.0 (same_Some _ _ k) in
          let entry_is : q.1 ≡ p.1 = same_Some _ _ (sym (held p.0.name q e) ∙ ap (finmap.get (view s)) path_is ∙ g) in
          ap (λ (y : PathParts × Entry). Some (Placed y)) (λ i. (path_is i, entry_is i))

-- What both lists of folders give.
module _ (s : HostViewMap) (x : Search) (ds ts : List (List ℕ)) where
  pub over_name : (f : List ℕ) (p : PathParts × Entry) → took_over s x ds ts f ≡ Some (Placed p) → p.0.name ≡ f
  over_name f p h = by (took s x ds f) refl h
    where
      by : (o : Option Take) → took s x ds f ≡ o → option_or o (took s x ts f) ≡ Some (Placed p) → p.0.name ≡ f
      by None e k = took_name s x ts f p k
      by (Some t) e k = took_name s x ds f p (e ∙ k)

  -- Nothing is borrowed for a file name exactly if it has no candidate.
  none_borrowed : (f : List ℕ) → took s x ds f ≡ None → NoneStands s x ds f
  none_borrowed f e d q i st n = none_stands s x ds f (sym (viewed_took s x ds f) ∙ ap (option_map candidate_of) e) d q i st n

  lends_none : (f : List ℕ) → NoneStands s x ds f → took s x ds f ≡ None
  lends_none f none = by (took s x ds f) refl
    where
      by : (o : Option Take) → took s x ds f ≡ o → o ≡ None
      by None e = refl
      by (Some t) e =
          let b = found_is_taken s x ds f (candidate_of t) (sym (viewed_took s x ds f) ∙ ap (option_map candidate_of) e) in
          absurd (none (candidate_of t) b.path b.taken.place b.taken.stands b.name_is)

  pub over_iff_taken : (p : PathParts × Entry) → (took_over s x ds ts p.0.name ≡ Some (Placed p)) ↔ (IsTakenOver s x ds ts (At p.0) p.0 × (finmap.get (view s) p.0 ≡ Some p.1))
  over_iff_taken p = (λ h. there (took s x ds p.0.name) refl h, λ t. back (over_is_either s x ds ts (At p.0) p.0 t.0) t.1)
    where
      there : (o : Option Take) → took s x ds p.0.name ≡ o → option_or o (took s x ts p.0.name) ≡ Some (Placed p) → IsTakenOver s x ds ts (At p.0) p.0 × (finmap.get (view s) p.0 ≡ Some p.1)
      there None e k = let h = (took_iff_taken s x ts p).0 k in (over_of_types s x ds ts (At p.0) p.0 h.0 (none_borrowed p.0.name e), h.1)
      there (Some t) e k = let h = (took_iff_taken s x ds p).0 (e ∙ k) in (over_of_names s x ds ts (At p.0) p.0 h.0, h.1)

      back : IsTaken s x ds (At p.0) p.0 ⊎ (IsTaken s x ts (At p.0) p.0 × NoneStands s x ds p.0.name) → finmap.get (view s) p.0 ≡ Some p.1 → took_over s x ds ts p.0.name ≡ Some (Placed p)
      back (inl a) g = ap (λ o. option_or o (took s x ts p.0.name)) ((took_iff_taken s x ds p).1 (a, g))
      back (inr b) g = ap (λ o. option_or o (took s x ts p.0.name)) (lends_none p.0.name b.1) ∙ (took_iff_taken s x ts p).1 (b.0, g)
