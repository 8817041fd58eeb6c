-- The order of stores, and their joins.
use Rattle.std.proofs.Common.{◌∷◌, ◌≡◌}
use Rattle.delta_gossip.proofs.Prelude.{[], All, All-cons, All-head, All-nil, All-tail, All-weaker, ap, EntryMap, Err, get-sum_of, IsBelow, IsLeastAbove, IsStoreBelow, join, join-least, join-left, join-nothing, join-right, join_all, join_assoc, join_comm, join_idem, List, Ok, OnErr, Replicated, Result, store_below_antisym, store_below_refl, store_below_trans, subst, sym, ◌∙◌}
use Rattle.std.specs.FinMap as finmap

pub on_err : {T E P : Type 0} (r : Result T E) → P → OnErr r P
on_err (Ok x) h = tt
on_err (Err e) h = h

-- joining a store twice is joining it once
pub join_again : (s t : EntryMap) → join t (join s t) ≡ join s t
join_again s t = join_comm t (join s t) ∙ join_assoc s t t ∙ ap (join s) (join_idem t)

-- the join with a greater store is that store
pub join_below : (s t : EntryMap) → IsStoreBelow s t → join s t ≡ t
join_below s t h = store_below_antisym (join s t) t (join-least s t t h (store_below_refl t)) (join-right s t)

pub nothing_first : (s : EntryMap) → join finmap.empty s ≡ s
nothing_first s = join_comm finmap.empty s ∙ join-nothing s

-- the join of all is above each

join_all_above : (ss : List EntryMap) → All (λ s. IsStoreBelow s (join_all ss)) ss
join_all_above [] = All-nil (λ s. IsStoreBelow s finmap.empty)
join_all_above (s ∷ ss) =
    All-cons (λ r. IsStoreBelow r (join s (join_all ss))) s ss (join-left s (join_all ss))
    (All-weaker (λ r. IsStoreBelow r (join_all ss)) (λ r. IsStoreBelow r (join s (join_all ss)))
    (λ r h. store_below_trans r (join_all ss) (join s (join_all ss)) h (join-right s (join_all ss))) ss (join_all_above ss))

-- and below every store that is

nothing_below : (t : EntryMap) → IsStoreBelow finmap.empty t
nothing_below t q = subst (λ y. IsBelow y (finmap.get t q)) (sym (get-sum_of [] q)) tt

join_all_below : (ss : List EntryMap) (t : EntryMap) → All (λ s. IsStoreBelow s t) ss → IsStoreBelow (join_all ss) t
join_all_below [] t h = nothing_below t
join_all_below (s ∷ ss) t h =
    join-least s (join_all ss) t (All-head (λ r. IsStoreBelow r t) s ss h) (join_all_below ss t (All-tail (λ r. IsStoreBelow r t) s ss h))

pub join_all_least : (ss : List EntryMap) → IsLeastAbove ss (join_all ss)
join_all_least ss = record { above = join_all_above ss; least = join_all_below ss }

-- if both lie between their old state and the join, their join is unchanged
pub join_between : (s t u v : EntryMap) → IsStoreBelow s u → IsStoreBelow t v → IsStoreBelow u (join s t) → IsStoreBelow v (join s t) → join u v ≡ join s t
join_between s t u v su tv u_within v_within =
    store_below_antisym (join u v) (join s t) (join-least u v (join s t) u_within v_within)
    (join-least s t (join u v) (store_below_trans s u (join u v) su (join-left u v)) (store_below_trans t v (join u v) tv (join-right u v)))

-- the second of two merges, after the first
pub joined_within : (a b a_new b_new : Replicated) (s t : EntryMap) → s ≡ b.store → a_new ≡ record a { store = join a.store s } → t ≡ a_new.store → IsStoreBelow b_new.store (join b.store t) → IsStoreBelow b_new.store (join a.store b.store)
joined_within a b a_new b_new s t given first borrowed within =
    subst (λ (u : EntryMap). IsStoreBelow b_new.store u)
    (ap (join b.store) (borrowed ∙ ap (λ (r : Replicated). r.store) first ∙ ap (join a.store) given) ∙ join_again a.store b.store) within

-- if memory runs out in the second merge, the call can be repeated
pub joined_again : (a b a_new b_new : Replicated) (s t : EntryMap) → s ≡ b.store → a_new ≡ record a { store = join a.store s } → t ≡ a_new.store → IsStoreBelow b.store b_new.store → IsStoreBelow b_new.store (join b.store t) →
    join a_new.store b_new.store ≡ join a.store b.store
joined_again a b a_new b_new s t given first borrowed kept within =
    let one : a_new.store ≡ join a.store b.store = ap (λ (r : Replicated). r.store) first ∙ ap (join a.store) given in
    join_between a.store b.store a_new.store b_new.store
    (subst (λ (u : EntryMap). IsStoreBelow a.store u) (sym one) (join-left a.store b.store)) kept
    (subst (λ (u : EntryMap). IsStoreBelow u (join a.store b.store)) (sym one) (store_below_refl (join a.store b.store)))
    (joined_within a b a_new b_new s t given first borrowed within)
