-- Loads are put together, with what they name; and there is one load where at most one thing is loaded for each node.
use Rattle.std.proofs.Common.{◌++◌, ◌↔◌, ◌∷◌, ◌≡◌, ◌⊎◌}
use Rattle.name_closure.specs.Prelude.{[], All-append, All-cons, All-head, All-nil, All-tail, ap, inl, inr, IsAmong, IsAmong-append_cases, IsAmong-append_left, IsAmong-append_right, keys_of, List, map-append, refl, subst, ◌∙◌}
use Rattle.name_closure.specs.Loading.{AreLoaded, AreLoads, AreOthers, LeadsByLoad}

module _ {N U : Type 0} (is_loaded : N → U → Type 0) where
  pub loads_none : AreLoads is_loaded [] []
  loads_none = record { in_order = refl; loaded = All-nil (λ (p : N × U). is_loaded p.0 p.1) }

  -- a load of one node
  pub loads_one : (n : N) (one : U) → is_loaded n one → AreLoads is_loaded (n ∷ []) ((n, one) ∷ [])
  loads_one n one h = record {
    in_order = refl;
    loaded = All-cons (λ (p : N × U). is_loaded p.0 p.1) (n, one) [] h (All-nil (λ (p : N × U). is_loaded p.0 p.1));
  }

  -- loads, one after the other
  pub loads_append : (ms ns : List N) (xs ys : List (N × U)) → AreLoads is_loaded ms xs → AreLoads is_loaded ns ys
      → AreLoads is_loaded (ms ++ ns) (xs ++ ys)
  loads_append ms ns xs ys a b = record {
    in_order = map-append (λ (p : N × U). p.0) xs ys ∙ ap (λ v. v ++ keys_of ys) a.in_order ∙ ap (λ v. ms ++ v) b.in_order;
    loaded = All-append (λ (p : N × U). is_loaded p.0 p.1) xs ys a.loaded b.loaded;
  }

  module _ (one : (n : N) (x y : U) → is_loaded n x → is_loaded n y → x ≡ y) where
    -- a node leads to exactly the nodes that are named in what is loaded for it
    pub leads_by_one : (named : U → List N) (n : N) (x : U) → is_loaded n x → (m : N) → LeadsByLoad is_loaded named n m
        ↔ IsAmong m (named x)
    leads_by_one named n x h m =
        (λ l. subst (λ v. IsAmong m (named v)) (one n l.one x l.loaded h) l.names, λ a. record { one = x; loaded = h; names = a })

    -- the same nodes have one load
    pub one_load_of_nodes : (xs ys : List (N × U)) → keys_of xs ≡ keys_of ys → AreLoaded is_loaded xs → AreLoaded is_loaded ys → xs ≡ ys
    one_load_of_nodes [] [] e a b = refl
    one_load_of_nodes [] (y ∷ ys) e a b = cc (e)
    one_load_of_nodes (x ∷ xs) [] e a b = cc (e)
    one_load_of_nodes (x ∷ xs) (y ∷ ys) e a b =
        let P : N × U → Type 0 = (λ p. is_loaded p.0 p.1) in
        let node : x.0 ≡ y.0 = cc (e) in
        let here : x.1 ≡ y.1 = one y.0 x.1 y.1 (subst (λ n. is_loaded n x.1) node (All-head P x xs a)) (All-head P y ys b) in
        let rest : xs ≡ ys = one_load_of_nodes xs ys (cc (e)) (All-tail P x xs a) (All-tail P y ys b) in
        let pair : x ≡ y = ap (λ n. (n, x.1)) node ∙ ap (λ u. (y.0, u)) here in
        ap (λ p. p ∷ xs) pair ∙ ap (λ v. y ∷ v) rest

module _ {N : Type 0} (own : List N) where
  pub others_none : AreOthers own [] []
  others_none = record { origin = λ n h. h; took = λ n h. inr h }

  -- lists of others, one after the other
  pub others_append : (all some more others : List N) → AreOthers own all some → AreOthers own more others
      → AreOthers own (all ++ more) (some ++ others)
  others_append all some more others a b = record {
    origin = λ n h. elim (IsAmong-append_cases n some others h) [
      | inl c ↦ IsAmong-append_left n all more (a.origin n c)
      | inr c ↦ IsAmong-append_right n all more (b.origin n c)
    ];
    took = λ n h. elim (IsAmong-append_cases n all more h) [ inl c ↦ prefix n (a.took n c) | inr c ↦ back n (b.took n c) ];
  }
    where
      prefix : (n : N) → IsAmong n own ⊎ IsAmong n some → IsAmong n own ⊎ IsAmong n (some ++ others)
      prefix n (inl c) = inl c
      prefix n (inr c) = inr (IsAmong-append_left n some others c)

      back : (n : N) → IsAmong n own ⊎ IsAmong n others → IsAmong n own ⊎ IsAmong n (some ++ others)
      back n (inl c) = inl c
      back n (inr c) = inr (IsAmong-append_right n some others c)
