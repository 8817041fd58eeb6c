-- What was found from the sources is the universe.
use Rattle.std.proofs.Common.{◌↔◌, ◌≡◌, ◌⊎◌}
use Rattle.parallel_load.proofs.Prelude.{all_among, among_flat_map, among_from_contains, among_map, AreLoaded, AreUniverse, contains_from_among, DependencyList, DepKind, flat_map_among, HasOver, HostViewMap, inl, inr, IsAmong, IsClosure, IsListed, IsLoadAlone, IsSource, IsTooLarge, keys_of, LeadsByLoad, LeadsTo, List, Listed, lists_have_what_is_named, more_reached, Name, name_cmp, named_in, NameLoad, names_in_lists, OfAlias, OfUnit, reached_closed, reached_least, refl, subst, sym, ◌∙◌}

-- a name in one of the lists is listed for a kind
listed : (lists : List DependencyList) (m : Name) → IsAmong m (names_in_lists lists) → (dep : DepKind) × IsListed lists dep m
listed lists m h =
    let r = among_flat_map (λ (list : DependencyList). list.names) lists m h in (
      r.source.kind,
      record {
        list = r.source;
        there = contains_from_among r.source lists r.there;
        kind_is = refl;
        has_name = contains_from_among m r.source.names r.makes;
      },
    )

in_lists : (lists : List DependencyList) (dep : DepKind) (m : Name) → IsListed lists dep m → IsAmong m (names_in_lists lists)
in_lists lists dep m l =
    flat_map_among (λ (list : DependencyList). list.names) lists l.list m (among_from_contains l.list lists l.there) (among_from_contains m l.list.names l.has_name)

module _ (s : HostViewMap) where
  -- what is named where something is loaded is what the name leads to
  pub step_leads : (n : Name) (one : NameLoad) (m : Name) → IsLoadAlone s n one → IsAmong m (named_in one) → LeadsTo s n m
  step_leads n (OfUnit u) m p h =
      let l = listed u.deps m h in
      inr (record { own = p.main_is; dep = l.0; named = (lists_have_what_is_named s n u l.0 m p).0 l.1 })
  step_leads n (OfAlias k) m p (inl e) = inl (p.main_is ∙ e)
  step_leads n (OfAlias k) m p (inr h) = absurd h

  leads_step : (n : Name) (one : NameLoad) (m : Name) → IsLoadAlone s n one → LeadsTo s n m → (n ≡ m) ⊎ IsAmong m (named_in one)
  leads_step n (OfUnit u) m p (inl e) = inl (sym p.main_is ∙ e)
  leads_step n (OfUnit u) m p (inr q) = inr (in_lists u.deps q.dep m ((lists_have_what_is_named s n u q.dep m p).1 q.named))
  leads_step n (OfAlias k) m p (inl e) = inr (inl (sym p.main_is ∙ e))
  leads_step n (OfAlias k) m p (inr q) = absurd (p.other (sym p.main_is ∙ q.own))

  abbrev Steps : Name → Name → Type 0
  Steps = LeadsByLoad (IsLoadAlone s) named_in

  module _ (extra sources : List Name) (same : (n : Name) → IsAmong n sources ↔ IsSource s extra n) where
    more : (n : Name) → Name → Type 0
    more n m = LeadsTo s n m

    module _ (pairs : List (Name × NameLoad)) (closure : IsClosure (Listed sources) Steps name_cmp (keys_of pairs)) (loaded : AreLoaded (IsLoadAlone s) pairs) where
      -- what a name leads to is found
      pub found_next : (n : Name) (one : NameLoad) (m : Name) → IsAmong {X = Name × NameLoad} (n, one) pairs → IsAmong n (keys_of pairs) → LeadsTo s n m → IsAmong m (keys_of pairs)
      found_next n one m there h l =
          let p = all_among (λ (p : Name × NameLoad). IsLoadAlone s p.0 p.1) pairs (n, one) loaded there in
          by p (leads_step n one m p l)
        where
          by : IsLoadAlone s n one → (n ≡ m) ⊎ IsAmong m (named_in one) → IsAmong m (keys_of pairs)
          by p (inl e) = subst (λ (x : Name). IsAmong x (keys_of pairs)) e h
          by p (inr a) = (closure.members m).1
              ((reached_closed (Listed sources) Steps).stepped n m ((closure.members n).0 h) (record { one = one; loaded = p; names = a }))

      stepped : (n m : Name) → IsAmong n (keys_of pairs) → LeadsTo s n m → IsAmong m (keys_of pairs)
      stepped n m h l =
          let r = among_map (λ (p : Name × NameLoad). p.0) pairs n h in
          found_next n r.source.1 m (subst (λ (x : Name). IsAmong {X = Name × NameLoad} (x, r.source.1) pairs) r.makes r.there) h l

      pub universe_is : AreUniverse s extra (keys_of pairs)
      universe_is = record {
        ascending = closure.ascending;
        members = λ n. (
          λ h. more_reached (Listed sources) (IsSource s extra) Steps (LeadsTo s) (λ m. (same m).0) (λ m o l. step_leads m l.one o l.loaded l.names) n ((closure.members n).0 h),
          λ r. reached_least (IsSource s extra) (LeadsTo s) (λ m. IsAmong m (keys_of pairs))
              (record { started = λ m a. (closure.members m).1 (record { steps = 0; chain = (same m).1 a }); stepped = stepped }) n r,
        );
      }

    pub too_large : HasOver (Listed sources) Steps name_cmp 4096 → IsTooLarge s extra
    too_large v = record {
      nodes = v.nodes;
      ascending = v.ascending;
      reached = λ n h. more_reached (Listed sources) (IsSource s extra) Steps (LeadsTo s) (λ m. (same m).0) (λ m o l. step_leads m l.one o l.loaded l.names) n (v.reached n h);
      over = v.over;
    }
