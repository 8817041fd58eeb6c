-- The two loops of a sweep.
use Rattle.std.proofs.Common.{◌++◌, ◌+◌, ◌<◌, ◌∷◌, ◌≡◌, ◌≤◌}
use Rattle.delta_gossip.proofs.Prelude.{[], All, ap, AreBetween, arith, drop, EntryMap, get_or, IsBelow, IsBetween, IsStoreBelow, join, join-least, join-left, join-nothing, join-right, join_all, join_assoc, length, List, map, map-append, place_cmp, refl, Replicated, set, store_below_antisym, store_below_refl, store_below_trans, subst, suc, sym, take, take-append-drop, take_more, with_store, zero, ℕ, ◌∙◌}
use Rattle.delta_gossip.proofs.Joins.{join_below, nothing_first}
use Rattle.std.specs.FinMap as finmap

abbrev pub stores_of : List Replicated → List EntryMap
stores_of rs = map (λ r. r.store) rs

join_all-append : (ss ts : List EntryMap) → join_all (ss ++ ts) ≡ join (join_all ss) (join_all ts)
join_all-append [] ts = sym (nothing_first (join_all ts))
join_all-append (s ∷ ss) ts = ap (join s) (join_all-append ss ts) ∙ sym (join_assoc s (join_all ss) (join_all ts))

-- each store is below the join of all
pub below_all : (rs : List Replicated) (s : EntryMap) → IsStoreBelow (join_all (stores_of rs)) s → All (λ r. IsStoreBelow r.store s) rs
below_all [] s h k d b = absurd (omega arith)
below_all (r ∷ rs) s h zero d b = store_below_trans r.store (join_all (stores_of (r ∷ rs))) s (join-left r.store (join_all (stores_of rs))) h
below_all (r ∷ rs) s h (suc k) d b =
    below_all rs s (store_below_trans (join_all (stores_of rs)) (join_all (stores_of (r ∷ rs))) s (join-right r.store (join_all (stores_of rs))) h) k d (omega arith)

-- the first replica's store, after i of the others were merged into it
abbrev pub gathered : Replicated → List Replicated → ℕ → EntryMap
gathered f rs i = join_all (stores_of (f ∷ take i rs))

pub gathered_none : (f : Replicated) (rs : List Replicated) → f ≡ with_store (gathered f rs 0) f
gathered_none f rs = ap (λ s. with_store s f) (sym (join-nothing f.store))

pub gathered_more : (f : Replicated) (rs : List Replicated) (i : ℕ) (d : Replicated) → i < length rs → join (gathered f rs i) (get_or rs i d).store ≡ gathered f rs (i + 1)
gathered_more f rs i d h =
    ap (join (gathered f rs i)) (sym (join-nothing (get_or rs i d).store)) ∙
    sym (join_all-append (stores_of (f ∷ take i rs)) ((get_or rs i d).store ∷ [])) ∙
    ap (λ ss. join_all (f.store ∷ ss)) (sym (map-append (λ (r : Replicated). r.store) (take i rs) (get_or rs i d ∷ []))) ∙
    ap (λ (ss : List Replicated). join_all (stores_of (f ∷ ss))) (sym (take_more rs i d h))

-- the same for the variables of the loop
pub gathered_step : (f : Replicated) (rs : List Replicated) (i : ℕ) (first r new : Replicated) (s : EntryMap) → i < length rs → r ≡ get_or rs i r → s ≡ r.store → first ≡ with_store (gathered f rs i) f →
    new ≡ record first { store = join first.store s } → new ≡ with_store (gathered f rs (i + 1)) f
gathered_step f rs i first r new s h is store so_far step =
    step ∙ ap (λ (g : Replicated). with_store (join g.store s) g) so_far ∙
    ap (λ t. with_store (join (gathered f rs i) t) f) (store ∙ ap (λ (g : Replicated). g.store) is) ∙
    ap (λ t. with_store t f) (gathered_more f rs i r h)

-- the join of the first i is below the join of all
pub gathered_within : (f : Replicated) (rs : List Replicated) (i : ℕ) → IsStoreBelow (gathered f rs i) (join_all (stores_of (f ∷ rs)))
gathered_within f rs i =
    subst (λ (s : EntryMap). IsStoreBelow (gathered f rs i) s)
    (sym (join_all-append (stores_of (f ∷ take i rs)) (stores_of (drop i rs))) ∙
    ap (λ ss. join_all (f.store ∷ ss)) (sym (map-append (λ (r : Replicated). r.store) (take i rs) (drop i rs))) ∙
    ap (λ (ss : List Replicated). join_all (stores_of (f ∷ ss))) (take-append-drop i rs))
    (join-left (gathered f rs i) (join_all (stores_of (drop i rs))))

-- the first replica, if memory runs out in the middle
pub gathered_between : (f : Replicated) (rs : List Replicated) (i : ℕ) (d new : Replicated) → i < length rs →
    new.writer ≡ f.writer → IsStoreBelow (gathered f rs i) new.store → IsStoreBelow new.store (join (gathered f rs i) (get_or rs i d).store) →
    IsBetween (join_all (stores_of (f ∷ rs))) f new
gathered_between f rs i d new h writer kept within = record {
  writer = writer;
  kept = store_below_trans f.store (gathered f rs i) new.store (join-left f.store (join_all (stores_of (take i rs)))) kept;
  within =
      store_below_trans new.store (gathered f rs (i + 1)) (join_all (stores_of (f ∷ rs)))
      (subst (λ (s : EntryMap). IsStoreBelow new.store s) (gathered_more f rs i d h) within) (gathered_within f rs (i + 1));
}

-- the same for the variables of the loop
pub gathered_refused : (f : Replicated) (rs : List Replicated) (i : ℕ) (first r new : Replicated) (s : EntryMap) → i < length rs → r ≡ get_or rs i r → s ≡ r.store → first ≡ with_store (gathered f rs i) f →
    new.writer ≡ first.writer → IsStoreBelow first.store new.store → IsStoreBelow new.store (join first.store s) → IsBetween (join_all (stores_of (f ∷ rs))) f new
gathered_refused f rs i first r new s h is store so_far writer kept within =
    gathered_between f rs i r new h (writer ∙ ap (λ (g : Replicated). g.writer) so_far)
    (subst (λ (g : Replicated). IsStoreBelow g.store new.store) so_far kept)
    (subst (λ (t : EntryMap). IsStoreBelow new.store (join (gathered f rs i) t)) (store ∙ ap (λ (g : Replicated). g.store) is)
    (subst (λ (g : Replicated). IsStoreBelow new.store (join g.store s)) so_far within))

-- the replicas, after the store was merged into i of them
abbrev pub spread_to : EntryMap → List Replicated → ℕ → List Replicated
spread_to s rs i = map (with_store s) (take i rs) ++ drop i rs

pub spread_more : (s : EntryMap) (rs : List Replicated) (i : ℕ) (d new : Replicated) → i < length rs → IsStoreBelow (get_or rs i d).store s →
    new ≡ record (get_or rs i d) { store = join (get_or rs i d).store s } → set (spread_to s rs i) i new ≡ spread_to s rs (i + 1)
spread_more s [] i d new h below is = absurd (omega arith)
spread_more s (r ∷ rs) zero d new h below is =
    ap (λ (n : Replicated). n ∷ rs) (is ∙ ap (λ t. with_store t r) (join_below r.store s below))
spread_more s (r ∷ rs) (suc i) d new h below is =
    let one : suc i + 1 ≡ suc (i + 1) = omega arith in
    ap (λ (ns : List Replicated). with_store s r ∷ ns) (spread_more s rs i d new (omega arith) below is) ∙ ap (spread_to s (r ∷ rs)) (sym one)

pub spread_all : (s : EntryMap) (rs : List Replicated) (i : ℕ) → length rs ≤ i → spread_to s rs i ≡ map (with_store s) rs
spread_all s [] zero h = refl
spread_all s [] (suc i) h = refl
spread_all s (r ∷ rs) zero h = absurd (omega arith)
spread_all s (r ∷ rs) (suc i) h = ap (λ (ns : List Replicated). with_store s r ∷ ns) (spread_all s rs i (omega arith))

pub spread_at : (s : EntryMap) (rs : List Replicated) (i : ℕ) (d : Replicated) → i < length rs → get_or (spread_to s rs i) i d ≡ get_or rs i d
spread_at s [] i d h = absurd (omega arith)
spread_at s (r ∷ rs) zero d h = refl
spread_at s (r ∷ rs) (suc i) d h = spread_at s rs i d (omega arith)

unchanged : (s : EntryMap) (rs : List Replicated) → All (λ r. IsStoreBelow r.store s) rs → AreBetween s rs rs
unchanged s [] below = tt
unchanged s (r ∷ rs) below = (
  record { writer = refl; kept = store_below_refl r.store; within = below 0 r (omega arith) },
  unchanged s rs (λ k d h. below (suc k) d (omega arith)),
)

-- the replicas, if memory runs out in the middle
pub spread_between : (s : EntryMap) (rs : List Replicated) (i : ℕ) (d new : Replicated) → i < length rs → All (λ r. IsStoreBelow r.store s) rs →
    IsBetween s (get_or rs i d) new → AreBetween s rs (set (spread_to s rs i) i new)
spread_between s [] i d new h below between = absurd (omega arith)
spread_between s (r ∷ rs) zero d new h below between = (between, unchanged s rs (λ k e b. below (suc k) e (omega arith)))
spread_between s (r ∷ rs) (suc i) d new h below between = (
  record { writer = refl; kept = below 0 r (omega arith); within = store_below_refl s },
  spread_between s rs i d new (omega arith) (λ k e b. below (suc k) e (omega arith)) between,
)

-- the same for the variables of the loop

pub spread_step : (s : EntryMap) (rs now : List Replicated) (i : ℕ) (d new : Replicated) (t : EntryMap) → i < length rs → All (λ r. IsStoreBelow r.store s) rs → now ≡ spread_to s rs i → t ≡ s →
    new ≡ record (get_or now i d) { store = join (get_or now i d).store t } → set now i new ≡ spread_to s rs (i + 1)
spread_step s rs now i d new t h below so_far same step =
    let there : get_or now i d ≡ get_or rs i d = ap (λ (ns : List Replicated). get_or ns i d) so_far ∙ spread_at s rs i d h in
    ap (λ (ns : List Replicated). set ns i new) so_far ∙
    spread_more s rs i d new h (below i d h) (step ∙ (λ j. record (there j) { store = join (there j).store (same j) }))

pub spread_refused : (s : EntryMap) (rs now : List Replicated) (i : ℕ) (d new : Replicated) (t : EntryMap) → i < length rs → All (λ r. IsStoreBelow r.store s) rs → now ≡ spread_to s rs i → t ≡ s →
    new.writer ≡ (get_or now i d).writer → IsStoreBelow (get_or now i d).store new.store → IsStoreBelow new.store (join (get_or now i d).store t) → AreBetween s rs (set now i new)
spread_refused s rs now i d new t h below so_far same writer kept within =
    let there : get_or now i d ≡ get_or rs i d = ap (λ (ns : List Replicated). get_or ns i d) so_far ∙ spread_at s rs i d h in
    subst (λ (ns : List Replicated). AreBetween s rs (set ns i new)) (sym so_far)
    (spread_between s rs i d new h below
    (record {
      writer = writer ∙ ap (λ (r : Replicated). r.writer) there;
      kept = subst (λ (r : Replicated). IsStoreBelow r.store new.store) there kept;
      within =
          subst (λ (u : EntryMap). IsStoreBelow new.store u)
          ((λ j. join (there j).store (same j)) ∙ join_below (get_or rs i d).store s (below i d h)) within;
    }))

-- Both loops.

-- memory runs out in the first loop
pub swept_first : (rs : List Replicated) (f : Replicated) (rest : List Replicated) (new : Replicated) → rs ≡ f ∷ rest → IsBetween (join_all (stores_of (f ∷ rest))) f new → AreBetween (join_all (stores_of rs)) rs (new ∷ rest)
swept_first rs f rest new is between =
    subst (λ (qs : List Replicated). AreBetween (join_all (stores_of qs)) qs (new ∷ rest)) (sym is)
    (between, unchanged (join_all (stores_of (f ∷ rest))) rest (below_all rest (join_all (stores_of (f ∷ rest))) (join-right f.store (join_all (stores_of rest)))))

-- the precondition of the second loop
pub swept_below : (f : Replicated) (rest : List Replicated) (new : Replicated) → new ≡ with_store (join_all (stores_of (f ∷ rest))) f → All (λ r. IsStoreBelow r.store new.store) rest
swept_below f rest new is =
    below_all rest new.store
    (subst (λ (g : Replicated). IsStoreBelow (join_all (stores_of rest)) g.store) (sym is) (join-right f.store (join_all (stores_of rest))))

-- memory runs out in the second loop
pub swept_second : (rs : List Replicated) (f : Replicated) (rest : List Replicated) (new : Replicated) (rest_new : List Replicated) → rs ≡ f ∷ rest → new ≡ with_store (join_all (stores_of (f ∷ rest))) f → AreBetween new.store rest rest_new → AreBetween (join_all (stores_of rs)) rs (new ∷ rest_new)
swept_second rs f rest new rest_new is done between =
    subst (λ (qs : List Replicated). AreBetween (join_all (stores_of qs)) qs (new ∷ rest_new)) (sym is) (
      subst (λ (g : Replicated). IsBetween (join_all (stores_of (f ∷ rest))) f g) (sym done) (record {
        writer = refl;
        kept = join-left f.store (join_all (stores_of rest));
        within = store_below_refl (join_all (stores_of (f ∷ rest)));
      }),
      subst (λ (g : Replicated). AreBetween g.store rest rest_new) done between,
    )

-- if all lie between, the join of all is unchanged

kept_all : (all : EntryMap) (rs ns : List Replicated) → AreBetween all rs ns → IsStoreBelow (join_all (stores_of rs)) (join_all (stores_of ns))
kept_all all [] [] h = store_below_refl (join_all [])
kept_all all [] (n ∷ ns) h = absurd h
kept_all all (r ∷ rs) [] h = absurd h
kept_all all (r ∷ rs) (n ∷ ns) h =
    join-least r.store (join_all (stores_of rs)) (join n.store (join_all (stores_of ns)))
    (store_below_trans r.store n.store (join n.store (join_all (stores_of ns))) h.0.kept (join-left n.store (join_all (stores_of ns))))
    (store_below_trans (join_all (stores_of rs)) (join_all (stores_of ns)) (join n.store (join_all (stores_of ns))) (kept_all all rs ns h.1) (join-right n.store (join_all (stores_of ns))))

within_all : (all : EntryMap) (rs ns : List Replicated) → AreBetween all rs ns → IsStoreBelow (join_all (stores_of ns)) all
within_all all [] [] h = λ q. subst (λ y. IsBelow y (finmap.get all q)) (sym (finmap.get-empty place_cmp q)) tt
within_all all [] (n ∷ ns) h = absurd h
within_all all (r ∷ rs) [] h = absurd h
within_all all (r ∷ rs) (n ∷ ns) h = join-least n.store (join_all (stores_of ns)) all h.0.within (within_all all rs ns h.1)

pub swept_again : (rs ns : List Replicated) → AreBetween (join_all (stores_of rs)) rs ns → join_all (stores_of ns) ≡ join_all (stores_of rs)
swept_again rs ns h =
    store_below_antisym (join_all (stores_of ns)) (join_all (stores_of rs)) (within_all (join_all (stores_of rs)) rs ns h) (kept_all (join_all (stores_of rs)) rs ns h)
