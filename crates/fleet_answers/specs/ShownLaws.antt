-- What isn't visible counts for no load: where two stores show the same at all places, a load of one is a load of the other.
-- Source: this project's own.
use Rattle.std.proofs.Common.{◌≡◌}
use Rattle.fleet_answers.specs.Prelude.{[], EntryMap, host_view_of, HostViewMap, inr, IsLoad, IsSource, IsTooLarge, IsUnit, keys_of, LeadsTo, link_targets_decide, List, LoadedUnit, LoadMap, Name, name_cmp, nat_list_cmp_total, one_viewer, over-closure, PlaceParts, refl, same_units_make_the_load, SameLeads, SameWords, store_footprints_decide, sym, touched_words_decide, Viewer, visible_at, ◌∙◌}
use Rattle.fleet_answers.specs.Answers.{IsSnapshot}

-- the stores show the same at each place
abbrev pub ShowTheSame : EntryMap → EntryMap → Type 0
ShowTheSame s t = (place : PlaceParts) → visible_at s place ≡ visible_at t place

-- Then what is a snapshot of one is a snapshot of the other.
abbrev pub SnapshotsStay : Type 0
SnapshotsStay = (s t : EntryMap) (viewer : Viewer) (extra : List Name) (load : LoadMap) → ShowTheSame s t → IsSnapshot (host_view_of s viewer) extra load → IsSnapshot (host_view_of t viewer) extra load

module _ (s t : EntryMap) (viewer : Viewer) (same : ShowTheSame s t) where
  abbrev v : HostViewMap
  v = host_view_of s viewer

  abbrev w : HostViewMap
  w = host_view_of t viewer

  words : SameWords v w
  words = touched_words_decide s t viewer [] (λ place. inr (same place)) (λ place among. absurd among)

  leads : SameLeads v w
  leads = link_targets_decide v w words

  unit_stays : (n : Name) (unit : LoadedUnit) → IsUnit v n unit → IsUnit w n unit
  unit_stays n unit is = store_footprints_decide s t viewer n unit leads (λ place starts level. same place) is

  module _ (extra : List Name) (load : LoadMap) (l : IsLoad v extra load) where
    -- the load is for the same viewer
    load_stays : IsLoad w extra load
    load_stays =
        let stays = same_units_make_the_load v w extra load refl words unit_stays l in
        record {
          viewer_is = l.viewer_is ∙ one_viewer s viewer ∙ sym (one_viewer t viewer);
          extra_is = stays.extra_is;
          universe = stays.universe;
          loaded = stays.loaded;
          named = stays.named;
          words = stays.words;
        }

    -- more is reached than the limit where it was
    too_large_before : IsTooLarge w extra → IsTooLarge v extra
    too_large_before over =
        (over-closure name_cmp nat_list_cmp_total (IsSource v extra) (LeadsTo v) (keys_of load.names) 4096 l.universe).1
        ((over-closure name_cmp nat_list_cmp_total (IsSource w extra) (LeadsTo w) (keys_of load.names) 4096 load_stays.universe).0 over)

pub snapshots_stay : SnapshotsStay
snapshots_stay s t viewer extra load same is = record {
  within = λ over. is.within (too_large_before s t viewer same extra load is.is_load over);
  is_load = load_stays s t viewer same extra load is.is_load;
}
