-- What is cached of a store is cached of the next one, where the places are listed at which the next one may show something else.
use Rattle.std.proofs.Common.{◌++◌, ◌+◌, ◌-◌, ◌<◌, ◌↔◌, ◌∷◌, ◌≡◌, ◌≢◌, ◌≤◌, ◌⊎◌}
use Rattle.fleet_answers.proofs.Prelude.{[], All, All-append, All-drop, All-push, All-take, All-weaker, ap, arith, below_antisym, Bool, Cached, cond, drop, drop-append-le, drop-drop, drop_all, Edit, Entry, entry_cmp, entry_cmp-IsAntisymmetric, entry_cmp_total, entry_of, EntryMap, eq_by_cmp, Equal, Err, false, get-with_edit, get_or, Greater, inl, inr, is_eq, IsAmong, IsAmong-append_left, IsAmong-append_right, IsBelow, IsCachedFor, IsSnapshotBefore, IsSnapshotOf, IsStoreBelow, join, join-left, larger, length, length-append, length-drop, Less, List, LoadMap, None, Ok, OnErr, OnOk, option_and_then, Option, Ordering, place_cmp, PlaceParts, refl, remove, Replicated, Result, shown, ShowTheSameBut, Some, store_below_refl, subst, suc, sym, take, tied, tied_itself, true, visible_at, with_edit, with_put, zero, ℕ, ◌∙◌}
use Rattle.std.specs.FinMap as finmap

-- ---- stores

-- an edit touches its place
pub but_put : (s : EntryMap) (e : Edit) → ShowTheSameBut (e.place ∷ []) s (with_edit s e)
but_put s e p = by (eq_by_cmp place_cmp p e.place) refl
  where
    by : (b : Bool) → eq_by_cmp place_cmp p e.place ≡ b → IsAmong p (e.place ∷ []) ⊎ (visible_at s p ≡ visible_at (with_edit s e) p)
    by true t = inl (inl (sym (tied p e.place t)))
    by false t =
        inr (sym (ap (option_and_then shown)
        (get-with_edit s e p ∙ ap (λ b. cond b (larger (Some (entry_of e)) (finmap.get s p)) (finmap.get s p)) t)))

-- and a refused one nothing
pub but_none : (places : List PlaceParts) (s : EntryMap) → ShowTheSameBut places s s
but_none places s p = inr refl

-- so a take of an edit touches its place at most
pub touched_by_edit : {V F : Type 0} (r : Result V F) (old new : Replicated) (e : Edit) (places : List PlaceParts) → places ≡ e.place ∷ []
    → OnOk r (new ≡ with_put old e) → OnErr r (new ≡ old) → ShowTheSameBut places old.store new.store
touched_by_edit (Ok v) old new e places is ok err =
    subst (λ (ps : List PlaceParts). ShowTheSameBut ps old.store new.store) (sym is)
    (subst (λ (s : EntryMap). ShowTheSameBut (e.place ∷ []) old.store s) (sym (ap (λ (r : Replicated). r.store) ok)) (but_put old.store e))
touched_by_edit (Err f) old new e places is ok err =
    subst (λ (s : EntryMap). ShowTheSameBut places old.store s) (sym (ap (λ (r : Replicated). r.store) err)) (but_none places old.store)

-- a take of a store leaves one between the old store and the join
pub between_joined : {V F : Type 0} (r : Result V F) (old new : Replicated) (other : EntryMap) → OnOk r (new ≡ record old { store = join old.store other })
    → OnErr r (IsStoreBelow old.store new.store) → OnErr r (IsStoreBelow new.store (join old.store other))
    → IsStoreBelow old.store new.store × IsStoreBelow new.store (join old.store other)
between_joined (Ok v) old new other ok kept within =
    let joined : join old.store other ≡ new.store = sym (ap (λ (r : Replicated). r.store) ok) in (
      subst (λ (s : EntryMap). IsStoreBelow old.store s) joined (join-left old.store other),
      subst (λ (s : EntryMap). IsStoreBelow s (join old.store other)) joined (store_below_refl (join old.store other)),
    )
between_joined (Err f) old new other ok kept within = (kept, within)

same_or_not : (x y : Option Entry) → (x ≡ y) ⊎ (x ≢ y)
same_or_not None None = inl refl
same_or_not None (Some y) = inr (λ e. cc (e))
same_or_not (Some x) None = inr (λ e. cc (e))
same_or_not (Some x) (Some y) = by (entry_cmp x y) refl
  where
    same_some : Some x ≡ Some y → x ≡ y
    same_some e = cc (e)

    itself : Some x ≡ Some y → true ≡ is_eq (entry_cmp x y)
    itself e = sym (ap is_eq (tied_itself entry_cmp_total x)) ∙ ap (λ z. is_eq (entry_cmp x z)) (same_some e)

    by : (r : Ordering) → entry_cmp x y ≡ r → (Some x ≡ Some y) ⊎ (Some x ≢ Some y)
    by Less h = inr (λ e. let wrong : true ≡ false = itself e ∙ ap is_eq h in cc (wrong))
    by Equal h = inl (ap Some (entry_cmp-IsAntisymmetric x y h))
    by Greater h = inr (λ e. let wrong : true ≡ false = itself e ∙ ap is_eq h in cc (wrong))

-- a store between one and a join touches the places with news
module _ (s t other : EntryMap) (kept : IsStoreBelow s t) (within : IsStoreBelow t (join s other)) where
  kept_there : (p : PlaceParts) → finmap.get (join s other) p ≡ finmap.get s p → visible_at s p ≡ visible_at t p
  kept_there p e =
      ap (option_and_then shown)
      (below_antisym (finmap.get s p) (finmap.get t p) (kept p) (subst (λ (y : Option Entry). IsBelow (finmap.get t p) y) e (within p)))

  pub but_news : (places : List PlaceParts) → ((p : PlaceParts) → IsAmong p places ↔ (finmap.get (join s other) p ≢ finmap.get s p))
      → ShowTheSameBut places s t
  but_news places exact p = by (same_or_not (finmap.get (join s other) p) (finmap.get s p))
    where
      by : (finmap.get (join s other) p ≡ finmap.get s p) ⊎ (finmap.get (join s other) p ≢ finmap.get s p) → IsAmong p places ⊎ (visible_at s p ≡ visible_at t p)
      by (inl e) = inr (kept_there p e)
      by (inr n) = inl ((exact p).1 n)

-- ---- snapshots

module _ (s t : EntryMap) (touched places : List PlaceParts) (but : ShowTheSameBut places s t) where
  snapshot_more : (load : LoadMap) (listed : List PlaceParts) → IsSnapshotBefore load s listed → IsSnapshotBefore load t (listed ++ places)
  snapshot_more load listed h = record { before = h.before; snapshot_is = h.snapshot_is; rest = λ p. by p (h.rest p) (but p) }
    where
      by : (p : PlaceParts) → IsAmong p listed ⊎ (visible_at h.before p ≡ visible_at s p) → IsAmong p places ⊎ (visible_at s p ≡ visible_at t p)
          → IsAmong p (listed ++ places) ⊎ (visible_at h.before p ≡ visible_at t p)
      by p (inl a) more = inl (IsAmong-append_left p listed places a)
      by p (inr e) (inl a) = inl (IsAmong-append_right p listed places a)
      by p (inr e) (inr f) = inr (e ∙ f)

  cached_more : (one : Cached) → IsCachedFor s touched one → IsCachedFor t (touched ++ places) one
  cached_more one h = record {
    within = let n = length-append touched places in let w = h.within in omega (arith, n, w);
    snapshot_is =
        subst (IsSnapshotBefore one.snapshot t) (sym (drop-append-le one.mark touched places h.within))
        (snapshot_more one.snapshot (drop one.mark touched) h.snapshot_is);
  }

  -- each cached snapshot, with more places listed
  pub all_more : (ones : List Cached) → All (IsCachedFor s touched) ones → All (IsCachedFor t (touched ++ places)) ones
  all_more = All-weaker (IsCachedFor s touched) (IsCachedFor t (touched ++ places)) cached_more

-- a snapshot of the store itself, marked with the end of the list
pub newest : (s : EntryMap) (touched : List PlaceParts) (load : LoadMap) (mark : ℕ) → mark ≡ length touched → IsSnapshotOf s load
    → IsCachedFor s touched (record { snapshot = load; mark = mark })
newest s touched load mark e h = record {
  within = omega (arith, e);
  snapshot_is =
      subst (IsSnapshotBefore load s) (sym (drop_all mark touched (omega (arith, e))))
      (record { before = s; snapshot_is = h; rest = λ p. inr refl });
}

-- all but one
pub all_but : {X : Type 0} (P : X → Type 0) (xs : List X) (i : ℕ) → All P xs → All P (remove xs i)
all_but P xs i all = All-append P (take i xs) (drop (suc i) xs) (All-take P i xs all) (All-drop P (suc i) xs all)

-- all and one more, if there is room for it
pub all_pushed : {X : Type 0} (P : X → Type 0) (ok : Bool) (old new : List X) (x : X) → new ≡ cond ok (old ++ x ∷ []) old → All P old → P x → All P new
all_pushed P true old new x e all p = subst (λ xs. All P xs) (sym e) (All-push P old x all p)
all_pushed P false old new x e all p = subst (λ xs. All P xs) (sym e) all

-- what is found at an index is found there whatever were found past the end
pub found_alike : {X : Type 0} (xs : List X) (i : ℕ) (d e : X) → i < length xs → get_or xs i d ≡ get_or xs i e
found_alike [] i d e h = absurd (omega arith)
found_alike (y ∷ ys) zero d e h = refl
found_alike (y ∷ ys) (suc i) d e h = found_alike ys i d e (omega arith)
