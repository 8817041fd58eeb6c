-- What is loaded for the names of one question, and for those of another.
use Rattle.std.proofs.Common.{◌==◌, ◌∷◌, ◌≡◌, ◌⊎◌}
use Rattle.fleet_answers.proofs.Prelude.{[], ap, AreSources, arith, asked_for, cases_eq, EntryMap, eq_by_cmp, first_true, host_view_of, HostViewMap, IfErr, IsAmong, IsBefore, IsSnapshot, IsSnapshotBefore, IsSnapshotOf, inl, inr, IsTooLarge, length, List, LoadFault, LoadMap, Memory, Name, name_cmp, name_eq-Decides, ne_eqb, None, one_viewer, OnTooMany, Option, option_eq, PlaceParts, pointwise, Profile, refl, same_by, second_true, snapshots_stay, Some, sources_make_the_load, sources_make_the_size, subst, sym, TooManyUnits, true, Viewer, visible_at, Workers, ℕ, ◌∙◌}
use denote.Enum.Bare.{same_true}
use Rattle.load_places.specs.contracts.viewers.ViewerPartialEq.TheImpl as viewer_eq
use Rattle.profiles.specs.contracts.profiles.Profile as profiles

-- names that a test finds equal
pub names_same : (xs ys : List Name) → pointwise (eq_by_cmp name_cmp) xs ys ≡ true → xs ≡ ys
names_same = same_by (eq_by_cmp name_cmp) (λ x y. (name_eq-Decides x y).0)

-- hosts that a test finds equal
same_hosts : (x y : Option (List ℕ)) → option_eq (eq_by_cmp name_cmp) x y ≡ true → x ≡ y
same_hosts None None e = refl
same_hosts None (Some y) e = cc (e)
same_hosts (Some x) None e = cc (e)
same_hosts (Some x) (Some y) e = ap Some ((name_eq-Decides x y).0 e)

-- viewers that a test finds equal
pub same_viewers : (v w : Viewer) → (viewer_eq.eq-value).it v w ≡ true → v ≡ w
same_viewers v w h =
    ap (λ (x : Option (List ℕ)). let u : Viewer = record { host = x; profile = v.profile } in u) (same_hosts v.host w.host (first_true _ _ h))
    ∙ ap (λ (p : Profile). let u : Viewer = record { host = w.host; profile = p } in u) (same_true profiles.the_type tt v.profile w.profile (second_true _ _ h))

none_listed : {X : Type 0} (xs : List X) → length xs ≡ 0 → xs ≡ []
none_listed [] e = refl
none_listed (x ∷ xs) e = absurd (omega arith)

-- what a test finds empty
pub none_touched : {X : Type 0} (xs : List X) → (length xs == 0) ≡ true → xs ≡ []
none_touched xs t = none_listed xs (by (cases_eq (length xs) 0) t)
  where
    by : (length xs ≡ 0) ⊎ ((length xs ≡ 0) → ⊥) → (length xs == 0) ≡ true → length xs ≡ 0
    by (inl z) h = z
    by (inr ne) h = let f = ne_eqb (length xs) 0 ne in cc

-- a snapshot for a viewer is one for its own viewer
pub for_own_viewer : (s : EntryMap) (viewer : Viewer) (extra : List Name) (load : LoadMap) → IsSnapshot (host_view_of s viewer) extra load → IsSnapshotOf s load
for_own_viewer s viewer extra load made =
    subst (λ (h : Viewer). IsSnapshot (host_view_of s h) load.extra load) (sym (made.is_load.viewer_is ∙ one_viewer s viewer))
    (subst (λ (es : List Name). IsSnapshot (host_view_of s viewer) es load) (sym made.is_load.extra_is) made)

-- a snapshot of an earlier store can be refreshed
pub is_before : (load : LoadMap) (s : EntryMap) (touched : List PlaceParts) → IsSnapshotBefore load s touched → IsBefore load s touched
is_before load s touched h = record { before = h.before; load_is = h.snapshot_is.is_load; rest = h.rest }

-- and is one of the store itself where nothing was touched
pub untouched : (load : LoadMap) (s : EntryMap) (touched : List PlaceParts) → touched ≡ [] → IsSnapshotBefore load s touched → IsSnapshotOf s load
untouched load s touched none h = snapshots_stay h.before s load.viewer load.extra load (λ p. by p (h.rest p)) h.snapshot_is
  where
    by : (p : PlaceParts) → IsAmong p touched ⊎ (visible_at h.before p ≡ visible_at s p) → visible_at h.before p ≡ visible_at s p
    by p (inl a) = absurd (subst (IsAmong p) none a)
    by p (inr e) = e

-- a snapshot is one for other names that load the same
pub asked_otherwise : (s : HostViewMap) (extra names : List Name) (load : LoadMap) → AreSources s extra names → AreSources s names extra → IsSnapshot s extra load
    → IsSnapshot s names (asked_for names load)
asked_otherwise s extra names load these those w = record {
  within = λ large. w.within (sources_make_the_size s names extra those these large);
  is_load = sources_make_the_load s extra names load these those w.is_load;
}

-- and what is too large for one is too large for the others
pub too_many_otherwise : (s : HostViewMap) (extra names : List Name) → AreSources s extra names → AreSources s names extra → (fault : LoadFault)
    → OnTooMany fault (IsTooLarge s extra) → OnTooMany fault (IsTooLarge s names)
too_many_otherwise s extra names these those Workers h = tt
too_many_otherwise s extra names these those TooManyUnits h = sources_make_the_size s extra names these those h
too_many_otherwise s extra names these those Memory h = tt
