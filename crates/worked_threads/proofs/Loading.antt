-- Loads of stores, and what they are made from.
use Rattle.std.proofs.Common.{◌↔◌, ◌≡◌, ◌≢◌, ◌⊎◌}
use Rattle.worked_threads.proofs.Prelude.{changed_or_same, EntryMap, host_view_of, inl, inr, IsAmong, IsBefore, IsLoad, List, LoadMap, Name, one_viewer, PlaceParts, subst, sym, Viewer, visible_at, ◌∙◌}

-- a load is one for its own viewer, with its own names asked for
pub own_load : (s : EntryMap) (viewer : Viewer) (extra : List Name) (load : LoadMap) → IsLoad (host_view_of s viewer) extra load → IsLoad (host_view_of s load.viewer) load.extra load
own_load s viewer extra load is =
    let H : Viewer → Type 0 = λ h. IsLoad (host_view_of s h) load.extra load in
    let E : List Name → Type 0 = λ ns. IsLoad (host_view_of s viewer) ns load in
    subst H (sym (is.viewer_is ∙ one_viewer s viewer)) (subst E (sym is.extra_is) is)

-- the places at which another store shows something else suffice to refresh the load of the first
pub before_changed : (old new : EntryMap) (load : LoadMap) (places : List PlaceParts) → IsLoad (host_view_of old load.viewer) load.extra load
    → ((p : PlaceParts) → IsAmong p places ↔ (visible_at new p ≢ visible_at old p)) → IsBefore load new places
before_changed old new load places is just = record { before = old; load_is = is; rest = rest }
  where
    rest : (p : PlaceParts) → IsAmong p places ⊎ (visible_at old p ≡ visible_at new p)
    rest p = elim (changed_or_same new old places just p) [ inl h ↦ inl h | inr h ↦ inr (sym h) ]
