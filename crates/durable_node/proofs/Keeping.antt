-- What a call leaves of a node.
use Rattle.std.proofs.Common.{◌≡◌, ◌⊎◌, inl, inr, ◌<◌, ◌^◌, ◌++◌, ◌∷◌, [], ap, append-nil, arith, List, map, refl, subst, sym, ◌∙◌, ℕ, Bool, true, false, cond, filter, get_or, IfOk, IsOk, length, Ok, Err, Result, take, ◌+◌}
use Rattle.std.specs.Prelude.{IsPermutation}
use Rattle.std.proofs.lemmas.List.{take_more}
use Rattle.std.proofs.lemmas.List.Sorted.{IsPermutation-map}
use Rattle.edit_sums.specs.declared.entries.Edit.{Edit}
use Rattle.edit_sums.specs.Sums.{edits_of, EntryMap, high_among, high_of, join, sum_of, with_edit}
use Rattle.edit_sums.specs.CounterLaws.{high_of-sum_of}
use Rattle.edit_sums.specs.SumLaws.{join-nothing, join_assoc, join_comm, sum_of-append, sum_of-edits_of, sum_of-push, with_edit-of_join}
use Rattle.replica_store.specs.Replicas.{Replicated, with_put}
use Rattle.edit_log.specs.declared.logs.LogRow.{LogRow}
use Rattle.edit_log.specs.Logs.{edits_in, stamped}
use Rattle.durable_node.specs.Nodes.{IsKept, Node}
use Rattle.durable_node.specs.News.{news_of}
use Rattle.durable_node.specs.NewsLaws.{join_news}
use Rattle.durable_node.specs.RowLaws.{added_sum, sum_moved}
use Rattle.durable_node.proofs.Orders.{IsPermutation-filter}
use Rattle.durable_node.specs.Histories.{logged_at, logged_of}
use Rattle.durable_node.specs.declared.histories.Logged.{Logged}
use Rattle.load_places.specs.Places.{place_cmp, PlaceParts}
use Rattle.std.specs.Ordering.{eq_by_cmp}
use Rattle.std.specs.declared.alloc.AllocError.{AllocError}

pub high_low : (xs ys : List Edit) (n : ℕ) → high_among xs < n → high_among ys < n → high_among (xs ++ ys) < n
high_low [] ys n xl yl = yl
high_low (x ∷ xs) ys n xl yl = let rest = high_low xs ys n (omega (arith, xl)) yl in omega (arith, xl, rest)

module _ {L : Type 0} (is_honest is_running : L → Type 0) (held : L → List LogRow) where
  -- the greatest counter is that of the log and of what is unsaved
  pub kept_high : (n : Node L) → IsKept is_honest is_running held n → n.is_spent ≡ false → is_honest n.log → high_of n.replica.store ≡ high_among (edits_in (held n.log) ++ n.unsaved)
  kept_high n kept whole honest =
      ap high_of (kept.sums whole honest ∙ sym (sum_of-append (edits_in (held n.log)) n.unsaved)) ∙ high_of-sum_of (edits_in (held n.log) ++ n.unsaved)

  -- one edit more, here and in what is unsaved
  pub kept_put : (n : Node L) (e : Edit) → e.version.counter < 2 ^ 63 → IsKept is_honest is_running held n
      → IsKept is_honest is_running held (record { log = n.log; replica = with_put n.replica e; unsaved = n.unsaved ++ e ∷ []; is_spent = n.is_spent })
  kept_put n e low kept = record {
    running = kept.running;
    sums = λ whole honest. ap (λ (s : EntryMap). with_edit s e) (kept.sums whole honest) ∙ with_edit-of_join (sum_of (edits_in (held n.log))) (sum_of n.unsaved) e
        ∙ ap (join (sum_of (edits_in (held n.log)))) (sym (sum_of-push n.unsaved e));
    counters = high_low n.unsaved (e ∷ []) (2 ^ 63) kept.counters (omega (arith, low));
  }

  -- the news of another store more
  pub kept_take : (n : Node L) (other : EntryMap) → high_among (news_of n.replica.store other) < 2 ^ 63 → IsKept is_honest is_running held n
      → IsKept is_honest is_running held (record { log = n.log; replica = record n.replica { store = join n.replica.store other }; unsaved = n.unsaved ++ news_of n.replica.store other; is_spent = n.is_spent })
  kept_take n other low kept =
      let news = news_of n.replica.store other in record {
        running = kept.running;
        sums = λ whole honest. sym (join_news n.replica.store other) ∙ ap (λ (s : EntryMap). join s (sum_of news)) (kept.sums whole honest)
            ∙ join_assoc (sum_of (edits_in (held n.log))) (sum_of n.unsaved) (sum_of news) ∙ ap (join (sum_of (edits_in (held n.log)))) (sym (sum_of-append n.unsaved news));
        counters = high_low n.unsaved news (2 ^ 63) kept.counters low;
      }

  -- what a commit wrote, and nothing unsaved
  commit_sum : (n : Node L) (time : ℕ) (new : L) → IsKept is_honest is_running held n → n.is_spent ≡ false → (is_honest new → is_honest n.log)
      → (is_honest new → IsPermutation (held n.log ++ stamped time n.unsaved) (held new)) → is_honest new → sum_of (edits_in (held new)) ≡ n.replica.store
  commit_sum n time new kept whole was moved honest = added_sum time (held n.log) (held new) n.unsaved (moved honest) ∙ sym (kept.sums whole (was honest))

  pub kept_commit : (n : Node L) (time : ℕ) (new : L) → IsKept is_honest is_running held n → n.is_spent ≡ false → (is_honest new → is_honest n.log)
      → (is_honest new → IsPermutation (held n.log ++ stamped time n.unsaved) (held new)) → is_running new
      → IsKept is_honest is_running held (record { log = new; replica = n.replica; unsaved = []; is_spent = n.is_spent }) × (is_honest new → sum_of (edits_in (held new)) ≡ n.replica.store)
  kept_commit n time new kept whole was moved running =
      let sums = commit_sum n time new kept whole was moved in (
        record {
          running = λ _. running;
          sums = λ _ honest. sym (sums honest) ∙ sym (join-nothing (sum_of (edits_in (held new))));
          counters = omega (arith, kept.counters);
        },
        sums,
      )

  -- what a crash leaves of a commit comes to what it would have come to before, or to the store
  pub kept_found : (n : Node L) (time : ℕ) (new : L) (before : List LogRow → Type 0) → IsKept is_honest is_running held n → n.is_spent ≡ false → (is_honest new → is_honest n.log) → is_honest new
      → (left : List LogRow) → before left ⊎ IsPermutation (held n.log ++ stamped time n.unsaved) left → before left ⊎ (sum_of (edits_in left) ≡ n.replica.store)
  kept_found n time new before kept whole was honest left (inl was_left) = inl was_left
  kept_found n time new before kept whole was honest left (inr moved) = inr (added_sum time (held n.log) left n.unsaved moved ∙ sym (kept.sums whole (was honest)))

  -- what the log came to is what the node holds, where all is saved
  pub kept_alone : (n : Node L) → IsKept is_honest is_running held n → n.is_spent ≡ false → is_honest n.log → n.unsaved ≡ [] → (left : List LogRow) (before : Type 0)
      → before ⊎ (sum_of (edits_in left) ≡ sum_of (edits_in (held n.log))) → before ⊎ (sum_of (edits_in left) ≡ n.replica.store)
  kept_alone n kept whole honest none left before (inl was_left) = inl was_left
  kept_alone n kept whole honest none left before (inr same) =
      inr (same ∙ sym (join-nothing (sum_of (edits_in (held n.log)))) ∙ ap (λ (es : List Edit). join (sum_of (edits_in (held n.log))) (sum_of es)) (sym none) ∙ sym (kept.sums whole honest))

  -- a node that was opened
  pub kept_open : (new : L) (rows : List LogRow) (replica : Replicated) (unsaved : List Edit) → unsaved ≡ [] → is_running new → (is_honest new → held new ≡ rows) → (is_honest new → replica.store ≡ sum_of (edits_in rows))
      → IsKept is_honest is_running held (record { log = new; replica = replica; unsaved = unsaved; is_spent = false })
  kept_open new rows replica unsaved none running same sums = record {
    running = λ _. running;
    sums = λ _ honest. sums honest ∙ ap (λ (rs : List LogRow). sum_of (edits_in rs)) (sym (same honest)) ∙ sym (join-nothing (sum_of (edits_in (held new)))) ∙ ap (λ (es : List Edit). join (sum_of (edits_in (held new))) (sum_of es)) (sym none);
    counters = subst (λ (es : List Edit). high_among es < 2 ^ 63) (sym none) (omega arith);
  }

-- rows that a crash left with no edit more come to the same
pub left_alone : (rows left : List LogRow) (before : Type 0) → before ⊎ IsPermutation (rows ++ []) left → before ⊎ (sum_of (edits_in left) ≡ sum_of (edits_in rows))
left_alone rows left before (inl was_left) = inl was_left
left_alone rows left before (inr moved) = inr (sym (sum_moved rows left (subst (λ l. IsPermutation l left) (append-nil rows) moved)))

-- the history of a place doesn't depend on the order of the rows
pub logged_moved : (place : PlaceParts) (rows others : List LogRow) → IsPermutation rows others → IsPermutation (logged_at place rows) (logged_at place others)
logged_moved place rows others moved = IsPermutation-map logged_of _ _ (IsPermutation-filter (λ r. eq_by_cmp place_cmp r.edit.place place) rows others moved)

-- what a log without rows comes to once a store's entries are added
pub compacted_sum : (time : ℕ) (old new : List LogRow) (es : List Edit) (s : EntryMap) → IsPermutation (old ++ stamped time es) new → old ≡ [] → es ≡ edits_of s → sum_of (edits_in new) ≡ s
compacted_sum time old new es s moved none is =
    added_sum time old new es moved ∙ ap (λ (rs : List LogRow). join (sum_of (edits_in rs)) (sum_of es)) none ∙ join_comm (sum_of []) (sum_of es) ∙ join-nothing (sum_of es) ∙ ap sum_of is ∙ sum_of-edits_of s

-- an edit that was noted
pub noted_is : (made : Result Edit AllocError) (new old : List Edit) (e : Edit) → IsOk made → IfOk made (λ x. new ≡ old ++ x ∷ []) → IfOk made (λ x. x ≡ e) → new ≡ old ++ e ∷ []
noted_is (Ok x) new old e ok is same = is ∙ ap (λ y. old ++ y ∷ []) same
noted_is (Err fault) new old e ok is same = cc (ok)

-- the history so far, with one row more
pub logged_more : (place : PlaceParts) (rows : List LogRow) (i : ℕ) (r : LogRow) → i < length rows → r ≡ get_or rows i r
    → logged_at place (take (i + 1) rows) ≡ cond (eq_by_cmp place_cmp r.edit.place place) (logged_at place (take i rows) ++ logged_of r ∷ []) (logged_at place (take i rows))
logged_more place rows i r low is =
    ap (logged_at place) (take_more rows i r low ∙ ap (λ x. take i rows ++ x ∷ []) (sym is)) ∙ grows (take i rows)
  where
    grows : (xs : List LogRow) → logged_at place (xs ++ r ∷ []) ≡ cond (eq_by_cmp place_cmp r.edit.place place) (logged_at place xs ++ logged_of r ∷ []) (logged_at place xs)
    grows [] = elim (eq_by_cmp place_cmp r.edit.place place) as (λ b. map logged_of (cond b (r ∷ []) []) ≡ cond b (logged_of r ∷ []) []) [ true ↦ refl | false ↦ refl ]
    grows (x ∷ xs) =
        elim (eq_by_cmp place_cmp x.edit.place place) as (λ b. map logged_of (cond b (x ∷ filter (λ y. eq_by_cmp place_cmp y.edit.place place) (xs ++ r ∷ [])) (filter (λ y. eq_by_cmp place_cmp y.edit.place place) (xs ++ r ∷ [])))
        ≡ cond (eq_by_cmp place_cmp r.edit.place place) (map logged_of (cond b (x ∷ filter (λ y. eq_by_cmp place_cmp y.edit.place place) xs) (filter (λ y. eq_by_cmp place_cmp y.edit.place place) xs)) ++ logged_of r ∷ [])
        (map logged_of (cond b (x ∷ filter (λ y. eq_by_cmp place_cmp y.edit.place place) xs) (filter (λ y. eq_by_cmp place_cmp y.edit.place place) xs)))) [
          | true ↦ ap (λ l. logged_of x ∷ l) (grows xs) ∙ inside (eq_by_cmp place_cmp r.edit.place place) (logged_of x) (logged_at place xs ++ logged_of r ∷ []) (logged_at place xs)
          | false ↦ grows xs
        ]
      where
        inside : (b : Bool) (y : Logged) (ys zs : List Logged) → y ∷ cond b ys zs ≡ cond b (y ∷ ys) (y ∷ zs)
        inside true y ys zs = refl
        inside false y ys zs = refl
