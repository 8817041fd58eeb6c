-- What the rounds of a closure keep true.
use Rattle.std.proofs.Common.{◌+◌, ◌<◌, ◌∷◌, ◌≡◌, ◌⊎◌}
use Rattle.name_closure.proofs.Prelude.{[], All, All-cons, All-head, All-nil, All-tail, ap, AreJoined, AreLoaded, AreLoads, AreNew, AreOthers, arith, Equal, flat_map, HasOver, inl, inr, IsAmong, IsClosed, IsClosure, IsReached, IsStrictlySortedBy, IsTotalOrder, keys_of, leads_by_one, LeadsByLoad, length, length-keys_of, List, Listed, named_by, names_all, one_ascending_list, Ordering, reached_closed, reached_least, refl, subst, sym}
use Rattle.name_closure.proofs.Insertions.{length-together, together, together_ascends, together_joins}

module _ {X : Type 0} (P : X → Type 0) where
  pub holds_among : (xs : List X) (x : X) → All P xs → IsAmong x xs → P x
  holds_among [] x a h = absurd h
  holds_among (y ∷ ys) x a (inl e) = subst P e (All-head P y ys a)
  holds_among (y ∷ ys) x a (inr h) = holds_among ys x (All-tail P y ys a) h

  holds_of_all : (xs : List X) → ((x : X) → IsAmong x xs → P x) → All P xs
  holds_of_all [] each = All-nil P
  holds_of_all (x ∷ xs) each = All-cons P x xs (each x (inl refl)) (holds_of_all xs (λ y h. each y (inr h)))

  -- what holds of all members of a list holds of all members of a part of it
  pub holds_of_part : (xs ys : List X) → All P xs → ((x : X) → IsAmong x ys → IsAmong x xs) → All P ys
  holds_of_part xs ys a part = holds_of_all ys (λ x h. holds_among xs x a (part x h))

module _ {N U : Type 0} where
  -- a pair with the key
  entry_of : (n : N) (pairs : List (N × U)) → IsAmong n (keys_of pairs) → (u : U) × IsAmong {X = N × U} (n, u) pairs
  entry_of n [] h = absurd h
  entry_of n (p ∷ ps) (inl e) = (p.1, inl (ap (λ k. (k, p.1)) e))
  entry_of n (p ∷ ps) (inr h) = let r = entry_of n ps h in (r.0, inr r.1)

  key_there : (p : N × U) (pairs : List (N × U)) → IsAmong p pairs → IsAmong p.0 (keys_of pairs)
  key_there p [] h = absurd h
  key_there p (q ∷ qs) (inl e) = inl (ap (λ (r : N × U). r.0) e)
  key_there p (q ∷ qs) (inr h) = inr (key_there p qs h)

module _ {N U : Type 0} (order : N → N → Ordering) (is_node : N → Type 0) (is_loaded : N → U → Type 0) (named : U → List N) (sources : List N) where
  abbrev Leads : N → N → Type 0
  Leads = LeadsByLoad is_loaded named

  abbrev Reached : N → Type 0
  Reached = IsReached (Listed sources) Leads

  -- between two rounds: what is found is loaded, and all that it names is found or fresh
  pub record IsUnderWay (found : List (N × U)) (fresh : List N) : Type 0 where
    pub loaded : AreLoaded is_loaded found
    pub nodes : All is_node (keys_of found)
    pub ascending : IsStrictlySortedBy order (keys_of found)
    pub fresh_ascending : IsStrictlySortedBy order fresh
    pub fresh_nodes : All is_node fresh
    pub apart : (n : N) → IsAmong n fresh → ¬ IsAmong n (keys_of found)
    pub sound : (n : N) → IsAmong n (keys_of found) → Reached n
    pub fresh_sound : (n : N) → IsAmong n fresh → Reached n
    pub started : (n : N) → IsAmong n sources → IsAmong n (keys_of found) ⊎ IsAmong n fresh
    pub done : (n m : N) → IsAmong n (keys_of found) → Leads n m → IsAmong m (keys_of found) ⊎ IsAmong m fresh

  pub under_way_start : (found : List (N × U)) (fresh : List N) → found ≡ [] → IsStrictlySortedBy order (keys_of found) → All is_node sources → AreNew order (keys_of found) sources fresh → IsUnderWay found fresh
  under_way_start found fresh e ascending starts new = record {
    loaded = subst (AreLoaded is_loaded) (sym e) (All-nil (λ p. is_loaded p.0 p.1));
    nodes = holds_of_all is_node (keys_of found) (λ n h. absurd (none n h));
    ascending = ascending;
    fresh_ascending = new.ascending;
    fresh_nodes = holds_of_part is_node sources fresh starts new.origin;
    apart = new.apart;
    sound = λ n h. absurd (none n h);
    fresh_sound = λ n h. record { steps = 0; chain = new.origin n h };
    started = new.took;
    done = λ n m h l. absurd (none n h);
  }
    where
      none : (n : N) → ¬ IsAmong n (keys_of found)
      none n h = subst (λ (v : List (N × U)). IsAmong n (keys_of v)) e h

  -- a round: its fresh nodes become found, and the nodes that it names and that aren't found become fresh
  module _ (found : List (N × U)) (fresh : List N) (pairs found' : List (N × U)) (way : IsUnderWay found fresh)
      (loads : AreLoads is_loaded fresh pairs) (joined : AreJoined (keys_of found) (keys_of pairs) (keys_of found')) where
    from_found : (n : N) → IsAmong n (keys_of found) → IsAmong n (keys_of found')
    from_found n h = (joined n).1 (inl h)

    from_fresh : (n : N) → IsAmong n fresh → IsAmong n (keys_of found')
    from_fresh n h = (joined n).1 (inr (subst (IsAmong n) (sym loads.in_order) h))

    from_either : (n : N) → IsAmong n (keys_of found) ⊎ IsAmong n fresh → IsAmong n (keys_of found')
    from_either n (inl h) = from_found n h
    from_either n (inr h) = from_fresh n h

    back : (n : N) → IsAmong n (keys_of found') → IsAmong n (keys_of found) ⊎ IsAmong n fresh
    back n h = elim ((joined n).0 h) [ inl a ↦ inl a | inr b ↦ inr (subst (IsAmong n) loads.in_order b) ]

    -- what a pair names is reached
    names_reached : (n : N) → (p : N × U) × (IsAmong p pairs × IsAmong n (named p.1)) → Reached n
    names_reached n r =
        let p = r.0 in
        let fresh_one : IsAmong p.0 fresh = subst (IsAmong p.0) loads.in_order (key_there p pairs r.1.0) in
        (reached_closed (Listed sources) Leads).stepped p.0 n (way.fresh_sound p.0 fresh_one)
        (record { one = p.1; loaded = holds_among (λ (q : N × U). is_loaded q.0 q.1) pairs p loads.loaded r.1.0; names = r.1.1 })

    module _ (one : (n : N) (x y : U) → is_loaded n x → is_loaded n y → x ≡ y) where
      -- an edge from a fresh node leads to a node that its pair names
      leads_named : (n m : N) → IsAmong n fresh → Leads n m → IsAmong m (flat_map (λ (p : N × U). named p.1) pairs)
      leads_named n m h l =
          let entry = entry_of n pairs (subst (IsAmong n) (sym loads.in_order) h) in
          let here : is_loaded n entry.0 = holds_among (λ (q : N × U). is_loaded q.0 q.1) pairs (n, entry.0) loads.loaded entry.1 in
          names_all (λ (p : N × U). named p.1) pairs (n, entry.0) m entry.1 ((leads_by_one is_loaded one named n entry.0 here m).0 l)

      pub under_way_more : (names fresh' : List N) → AreLoaded is_loaded found' → IsStrictlySortedBy order (keys_of found')
          → AreOthers fresh (flat_map (λ p. named p.1) pairs) names → All is_node names → AreNew order (keys_of found') names fresh' → IsUnderWay found' fresh'
      under_way_more names fresh' loaded ascending others named_nodes new = record {
        loaded = loaded;
        nodes = holds_of_all is_node (keys_of found') found_node;
        ascending = ascending;
        fresh_ascending = new.ascending;
        fresh_nodes = holds_of_part is_node names fresh' named_nodes new.origin;
        apart = new.apart;
        sound = λ n h. elim (back n h) [ inl a ↦ way.sound n a | inr b ↦ way.fresh_sound n b ];
        fresh_sound = λ n h. names_reached n (named_by (λ (p : N × U). named p.1) pairs n (others.origin n (new.origin n h)));
        started = λ n h. inl (from_either n (way.started n h));
        done = λ n m h l. elim (back n h) [
          | inl b ↦ inl (from_either m (way.done n m b l))
          | inr b ↦ taken m (others.took m (leads_named n m b l))
        ];
      }
        where
          taken : (m : N) → IsAmong m fresh ⊎ IsAmong m names → IsAmong m (keys_of found') ⊎ IsAmong m fresh'
          taken m (inl a) = inl (from_fresh m a)
          taken m (inr a) = new.took m a

          found_node : (n : N) → IsAmong n (keys_of found') → is_node n
          found_node n h = elim (back n h) [ inl a ↦ holds_among is_node (keys_of found) n way.nodes a | inr b ↦ holds_among is_node fresh n way.fresh_nodes b ]

    module _ (total : IsTotalOrder order) (exact : (x y : N) → order x y ≡ Equal → x ≡ y) where
      -- after the round there are as many found nodes as there were found and fresh ones
      pub length-found : IsStrictlySortedBy order (keys_of found') → length found' ≡ length found + length fresh
      length-found ascending =
          let same = ap length (one_ascending_list order total (keys_of found') (together order total exact (keys_of found) fresh) ascending (together_ascends order total exact (keys_of found) fresh way.fresh_ascending)
          (λ n. (λ h. (together_joins order total exact (keys_of found) fresh n).1 (back n h), λ h. from_either n ((together_joins order total exact (keys_of found) fresh n).0 h)))) in
          let many = length-together order total exact (keys_of found) fresh way.ascending (λ n a b. way.apart n b a) in
          let before = length-keys_of found in
          let after = length-keys_of found' in
          omega arith

  module _ (found : List (N × U)) (fresh : List N) (way : IsUnderWay found fresh) where
    -- a round that leaves nothing fresh ends at the closure
    pub closure_at_end : length fresh ≡ 0 → IsClosure (Listed sources) Leads order (keys_of found)
    closure_at_end e = record { ascending = way.ascending; members = λ n. (way.sound n, reached_least (Listed sources) Leads (λ m. IsAmong m (keys_of found)) closed n) }
      where
        only_found : (n : N) → IsAmong n (keys_of found) ⊎ IsAmong n fresh → IsAmong n (keys_of found)
        only_found n (inl h) = h
        only_found n (inr h) = absurd (none fresh e h)
          where
            none : (ns : List N) → length ns ≡ 0 → ¬ IsAmong n ns
            none [] z a = a
            none (x ∷ xs) z a = absurd (omega arith)

        closed : IsClosed (Listed sources) Leads (λ m. IsAmong m (keys_of found))
        closed = record { started = λ n h. only_found n (way.started n h); stepped = λ n m h l. only_found m (way.done n m h l) }

    module _ (total : IsTotalOrder order) (exact : (x y : N) → order x y ≡ Equal → x ≡ y) where
      -- what is found or fresh is reached
      pub over_in_round : {limit : _} → limit < length found + length fresh → HasOver (Listed sources) Leads order limit
      over_in_round {limit} more = record {
        nodes = together order total exact (keys_of found) fresh;
        ascending = together_ascends order total exact (keys_of found) fresh way.fresh_ascending;
        reached = λ n h. elim ((together_joins order total exact (keys_of found) fresh n).0 h) [ inl a ↦ way.sound n a | inr b ↦ way.fresh_sound n b ];
        over = (let many = length-together order total exact (keys_of found) fresh way.ascending (λ n a b. way.apart n b a) in let long = length-keys_of found in omega arith);
      }
