-- From states to states.
use Rattle.std.proofs.Common.{◌≡◌, ◌⊎◌, inl, inr, ℕ, List, [], ◌∷◌, ◌++◌, true, false, cond, None, Ok, Err, Result, OnOk, OnErr, IfErr, IsTrue, refl, sym, ap, subst, subst₂, ◌∙◌, append-nil, append_assoc, map, Some, suc, zero, take, get_or, length, ◌<◌, ◌≤◌, ◌+◌, arith, IfOk, ⊎_elim}
use Rattle.std.specs.List.{AllByRecursion}
use Rattle.std.proofs.lemmas.List.{take_more, map-append}
use Rattle.edit_sums.specs.Sums.{high_among}
use Rattle.std.specs.Prelude.{IsPermutation}
use Rattle.std.proofs.lemmas.Bool.{cases_Bool}
use Rattle.std.proofs.lemmas.List.Sorted.{IsPermutation-trans, IsPermutation-append_left, IsPermutation-refl}
use Rattle.sqlite.specs.Order.{Row}
use Rattle.sqlite.specs.Tree.{Trees}
use Rattle.sqlite.specs.Schema.{Schema}
use Rattle.sqlite.specs.Effect.{Database}
use Rattle.sqlite.specs.declared.error.Error.{Error}
use Rattle.sqlite.specs.Store.{Ghosts}
use Rattle.sqlite.specs.Held.{Held, state}
use Rattle.sqlite.specs.State.{State, HasCleanDisk, Executes, ExecutesIn, IsNotRun, IsUnchanged, IsRolledBack, ExecutesInside, KeepsCommit, Opens, shows_rows, Survives, Writes}
use Rattle.sqlite.specs.Steps.{FailsToCommit}
use Rattle.sqlite.proofs.Callers.{one_permutation, runs_as, statement_of}
use Rattle.sqlite.specs.Command.TheVariants.{CreateTable}
use Rattle.edit_sums.specs.declared.entries.Edit.{Edit}
use Rattle.edit_log.specs.declared.logs.LogHead.{LogHead}
use Rattle.edit_log.specs.declared.logs.LogFault.{LogFault}
use Rattle.edit_log.specs.declared.logs.LogPeer.{LogPeer}
use Rattle.edit_log.specs.declared.logs.LogRow.{LogRow}
use Rattle.edit_log.specs.Logs.{LeavesAllOrNone, stamped}
use Rattle.sqlite_log.specs.CellLaws.{all_spelled, rows_in-append, rows_in-permutation, rows_read}
use Rattle.sqlite_log.proofs.Creating.{does_make_edits, does_make_meta, does_make_peers}
use Rattle.std.proofs.lemmas.Simd.{map-map}
use Rattle.sqlite_trees.proofs.ListLemmas.{all-append}
use Rattle.sqlite.specs.Listing.{understood}
use Rattle.sqlite_log.specs.Cells.{Cells, cells_in, cells_of, cells_shown, head_in, IsEdit, peer_in, row_in, rows_in}
use Rattle.sqlite_log.specs.States.{Adds, Grows, heads_in, heads_of, held_in, HasSchema, IsInside, IsLog, log_in, log_of, MayLeave, Meets, peers_in, peers_of, Stands, StandsAs}
use Rattle.sqlite_log.specs.Tables.{edit_schema, log_schema, meta_schema, no_schema}
use Rattle.sqlite_log.proofs.Statements.{edit_is, edit_plain, edit_text, head_is, head_params, head_plain, head_text, insert_edit, insert_head, insert_is, insert_met, insert_plain, insert_text, met_is, met_plain, met_text, meta_is, meta_plain, meta_text, params_of, peer_is, peer_params, peer_plain, peer_text}
use Rattle.sqlite_log.proofs.Inserting.{does_add, does_head, does_meet}

-- a statement that is not run changes nothing, or the transaction is undone
executes_err : (sql : List ℕ) (params : Row) (old new : State) (e : Error) → Executes sql params old new (Err e) → IsUnchanged old new ⊎ IsRolledBack old new
unfolding ExecutesIn IsNotRun
executes_err sql params old new e (inl (inl h)) = inl h.1
executes_err sql params old new e (inl (inr h)) = inr h.3
executes_err sql params old new e (inr h) = elim (cases_Bool (shows_rows false h.0)) [
  | inl shows ↦ inl (rw shows at h.2).1
  | inr runs ↦ elim (rw runs at h.2) [ inl kept ↦ inl kept.1 | inr failed ↦ inr failed.3 ]
]

pub same_log : (old new : State) → IsLog old → IsUnchanged old new → IsLog new × (new.committed.trees ≡ old.committed.trees)
same_log old new log h = (
  record { is_open = h.0.is_open; has = ap (λ (d : Database). d.schema) h.0.now_is ∙ log.has; alone = h.0.mode ∙ log.alone; settled = h.0.now_is ∙ log.settled ∙ sym h.0.committed_is },
  ap (λ (d : Database). d.trees) h.0.committed_is,
)

-- a transaction that was begun and ended by a failure
rolled : (old mid new : State) → IsLog old → (IsTrue mid.is_open → IsTrue old.is_open) → (IsTrue mid.is_open → mid.committed ≡ old.committed) → IsRolledBack mid new → IsTrue new.is_open
    → IsLog new × (new.committed.trees ≡ old.committed.trees)
rolled old mid new log was same h is =
    let back = h.undone is in
    let first = same (h.was_open is) in
    (record { is_open = is; has = ap (λ (d : Database). d.schema) (back.0 ∙ first ∙ sym log.settled) ∙ log.has; alone = h.autocommit; settled = back.0 ∙ sym back.1 }, ap (λ (d : Database). d.trees) (back.1 ∙ first))

-- a write outside a transaction is committed
pub committed : (old new : State) → old.in_transaction ≡ false → new.committed ≡ cond old.in_transaction old.committed new.now → new.committed ≡ new.now
committed old new alone h = subst (λ b. new.committed ≡ cond b old.committed new.now) alone h

-- ---- inside a transaction

abbrev InsideThen : State → State → Cells → Type 0
InsideThen old new c = IsInside new × Grows old.now.trees new.now.trees (c ∷ [])

pub adds_inside : (old new : State) (c : Cells) (r : Result ℕ Error) → IsInside old → ExecutesInside 0 insert_text (params_of c) old new r → OnOk r (InsideThen old new c)
adds_inside old new c (Err _) log h = tt
adds_inside old new c (Ok count) log h =
    let w : Writes old new None insert_edit (statement_of insert_text (understood log_schema insert_text)) (params_of c) count = runs_as insert_text (params_of c) old new log_schema log.schema insert_edit insert_is insert_plain count h.0 in
    let did = does_add old new.now c (statement_of insert_text (understood log_schema insert_text)) w.tally log.schema w.changed in
    (record { schema = did.0; inside = h.1.mode }, did.1)

pub meets_inside : (old new : State) (p : LogPeer) (r : Result ℕ Error) → IsInside old → ExecutesInside 0 met_text (peer_params p) old new r → OnOk r (IsInside new × Meets old.now.trees new.now.trees (p ∷ []))
meets_inside old new p (Err _) log h = tt
meets_inside old new p (Ok count) log h =
    let w : Writes old new None insert_met (statement_of met_text (understood log_schema met_text)) (peer_params p) count = runs_as met_text (peer_params p) old new log_schema log.schema insert_met met_is met_plain count h.0 in
    let did = does_meet old new.now p (statement_of met_text (understood log_schema met_text)) w.tally log.schema w.changed in
    (record { schema = did.0; inside = h.1.mode }, did.1)

kept_unchanged : (old new : State) → IsUnchanged old new ⊎ IsRolledBack old new → KeepsCommit old new
kept_unchanged old new (inl h) = record { was_open = λ _. h.0.was_open; committed = λ _. h.0.committed_is }
kept_unchanged old new (inr h) = record { was_open = h.was_open; committed = λ is. (h.undone is).1 }

pub inside_keeps : (sql : List ℕ) (params : Row) (old new : State) (r : Result ℕ Error) → ExecutesInside 0 sql params old new r → KeepsCommit old new
inside_keeps sql params old new (Ok count) h = record { was_open = λ _. h.1.was_open; committed = λ _. h.1.committed_is }
inside_keeps sql params old new (Err e) (inl h) = kept_unchanged old new h.1
inside_keeps sql params old new (Err e) (inr h) = kept_unchanged old new (inl h.2)

pub keeps_then : (a b c : State) → KeepsCommit a b → KeepsCommit b c → KeepsCommit a c
keeps_then a b c one two = record {
  was_open = λ is. one.was_open (two.was_open is);
  committed = λ is. two.committed is ∙ one.committed (two.was_open is);
}

-- ---- the end of a transaction

pub on_any_err : {A E : Type 0} (r : Result A E) (P : Type 0) → P → OnErr r P
on_any_err (Ok x) P p = tt
on_any_err (Err e) P p = p

-- a transaction that was begun and dropped
pub dropped : (old mid new : State) → (HasCleanDisk new → IsLog old) → (HasCleanDisk new → KeepsCommit old mid) → (HasCleanDisk new → IsRolledBack mid new) → StandsAs old new
dropped old mid new log keeps back clean is = rolled old mid new (log clean) (keeps clean).was_open (keeps clean).committed (back clean) is

-- a commit that failed
pub uncommitted : (old mid new : State) (r : Result (Unit {0}) Error) → (HasCleanDisk new → IsLog old) → (HasCleanDisk new → IsInside mid) → (HasCleanDisk new → KeepsCommit old mid)
    → (HasCleanDisk new → IfErr r (FailsToCommit mid new)) → OnErr r (StandsAs old new)
uncommitted old mid new (Ok _) log inside keeps h = tt
uncommitted old mid new (Err e) log inside keeps h = λ clean. elim (h clean) [
  | inl failed ↦ rolled old mid new (log clean) (keeps clean).was_open (keeps clean).committed failed.3
  | inr late ↦ absurd (let a = (inside clean).inside in let b = late.1 in cc)
]

-- a transaction that has begun has changed nothing
pub keeps_begun : {S : Type 0} (g : Ghosts S) (old : Held S) (new : State) → KeepsCommit (state g (record old { in_transaction = true })) new → KeepsCommit (state g old) new
keeps_begun g old new h = record { was_open = h.was_open; committed = h.committed }

-- ---- rows, one after another

pub grows_not : (a : Trees) → Grows a a []
grows_not a = record { rows = same_rows (log_in a); heads = refl; peers = refl }
  where
    same_rows : (xs : List Cells) → Adds xs xs []
    same_rows xs = subst (λ l. IsPermutation l xs) (sym (append-nil xs)) (IsPermutation-refl xs)

pub grows_more : (a b c : Trees) (xs ys : List Cells) → Grows a b xs → Grows b c ys → Grows a c (xs ++ ys)
grows_more a b c xs ys one two = record {
  rows = subst (λ l. IsPermutation l (log_in c)) (append_assoc (log_in a) xs ys) (IsPermutation-trans _ _ _ (IsPermutation-append_left ys _ _ one.rows) two.rows);
  heads = two.heads ∙ one.heads;
  peers = two.peers ∙ one.peers;
}

pub meets_more : (a b c : Trees) (xs ys : List LogPeer) → Meets a b xs → Meets b c ys → Meets a c (xs ++ ys)
meets_more a b c xs ys one two = record {
  peers = subst (λ l. IsPermutation l (peers_in c)) (append_assoc (peers_in a) xs ys) (IsPermutation-trans _ _ _ (IsPermutation-append_left ys _ _ one.peers) two.peers);
  heads = two.heads ∙ one.heads;
  rows = two.rows ∙ one.rows;
}

-- ---- statements that are committed alone

pub makes_edits : (old new : State) (r : Result ℕ Error) → HasSchema no_schema old → Executes edit_text [] old new r → OnOk r (HasSchema edit_schema new × (log_of new ≡ []))
makes_edits old new (Err _) blank h = tt
makes_edits old new (Ok count) blank h =
    let w = runs_as edit_text [] old new no_schema blank.has CreateTable edit_is.0 edit_plain count h in
    let did = does_make_edits old new.now _ w.tally edit_is.1 blank.has w.changed in
    let now = committed old new blank.alone w.shown.committed_is in
    (record { is_open = w.shown.is_open; has = did.0; alone = w.shown.mode ∙ blank.alone; settled = sym now }, ap (λ (d : Database). log_in d.trees) now ∙ ap (map cells_in) did.1)

pub makes_meta : (old new : State) (r : Result ℕ Error) → HasSchema edit_schema old → Executes meta_text [] old new r → OnOk r (HasSchema meta_schema new × (heads_of new ≡ []) × (log_of new ≡ log_of old))
makes_meta old new (Err _) edits h = tt
makes_meta old new (Ok count) edits h =
    let w = runs_as meta_text [] old new edit_schema edits.has CreateTable meta_is.0 meta_plain count h in
    let did = does_make_meta old new.now _ w.tally meta_is.1 edits.has w.changed in
    let now = committed old new edits.alone w.shown.committed_is in (
      record { is_open = w.shown.is_open; has = did.0; alone = w.shown.mode ∙ edits.alone; settled = sym now },
      ap (λ (d : Database). heads_in d.trees) now ∙ ap (map head_in) did.1,
      ap (λ (d : Database). log_in d.trees) now ∙ ap (map cells_in) did.2 ∙ ap (λ (d : Database). log_in d.trees) edits.settled,
    )

pub makes_peers : (old new : State) (r : Result ℕ Error) → HasSchema meta_schema old → Executes peer_text [] old new r
    → OnOk r (IsLog new × (peers_of new ≡ []) × (heads_of new ≡ heads_of old) × (log_of new ≡ log_of old))
makes_peers old new (Err _) both h = tt
makes_peers old new (Ok count) both h =
    let w = runs_as peer_text [] old new meta_schema both.has CreateTable peer_is.0 peer_plain count h in
    let did = does_make_peers old new.now _ w.tally peer_is.1 both.has w.changed in
    let now = committed old new both.alone w.shown.committed_is in (
      record { is_open = w.shown.is_open; has = did.0; alone = w.shown.mode ∙ both.alone; settled = sym now },
      ap (λ (d : Database). peers_in d.trees) now ∙ ap (map peer_in) did.1,
      ap (λ (d : Database). heads_in d.trees) now ∙ ap (map head_in) did.2 ∙ ap (λ (d : Database). heads_in d.trees) both.settled,
      ap (λ (d : Database). log_in d.trees) now ∙ ap (map cells_in) did.3 ∙ ap (λ (d : Database). log_in d.trees) both.settled,
    )

pub adds_head : (old new : State) (head : LogHead) (r : Result ℕ Error) → IsLog old → heads_of old ≡ [] → Executes head_text (head_params head) old new r
    → OnOk r (IsLog new × (heads_of new ≡ head ∷ []) × (log_of new ≡ log_of old) × (peers_of new ≡ peers_of old))
adds_head old new head (Err _) log none h = tt
adds_head old new head (Ok count) log none h =
    let w = runs_as head_text (head_params head) old new log_schema log.has insert_head head_is head_plain count h in
    let did = does_head old new.now head (statement_of head_text (understood log_schema head_text)) w.tally log.has w.changed in
    let now = committed old new log.alone w.shown.committed_is in
    let before : heads_in old.now.trees ≡ [] = ap (λ (d : Database). heads_in d.trees) log.settled ∙ none in
    let one : heads_in new.now.trees ≡ head ∷ [] = one_permutation head (heads_in new.now.trees) (subst (λ l. IsPermutation (l ++ head ∷ []) (heads_in new.now.trees)) before did.2) in (
      record { is_open = w.shown.is_open; has = did.0; alone = w.shown.mode ∙ log.alone; settled = sym now },
      ap (λ (d : Database). heads_in d.trees) now ∙ one,
      ap (λ (d : Database). log_in d.trees) now ∙ did.1 ∙ ap (λ (d : Database). log_in d.trees) log.settled,
      ap (λ (d : Database). peers_in d.trees) now ∙ did.3 ∙ ap (λ (d : Database). peers_in d.trees) log.settled,
    )

-- ---- what a log then holds

pub grows_held : (old new : Trees) (time : ℕ) (es : List Edit) → AllByRecursion IsEdit es → Grows old new (map (cells_of time) es) → IsPermutation (held_in old ++ stamped time es) (held_in new)
grows_held old new time es fits grows =
    subst (λ rows. IsPermutation rows (held_in new))
    (rows_in-append (log_in old) (map (cells_of time) es) ∙ ap (λ (rows : List LogRow). held_in old ++ rows) (all_spelled time es fits))
    (rows_in-permutation (log_in old ++ map (cells_of time) es) (log_in new) grows.rows)

-- what a crash leaves of a log, in a call that adds edits
pub left_held : (old new : State) (time : ℕ) (es : List Edit) → AllByRecursion IsEdit es → Survives old new (λ trees. Grows old.committed.trees trees (map (cells_of time) es)) → HasCleanDisk new
    → LeavesAllOrNone (held_in old.committed.trees) (stamped time es) (MayLeave old) (MayLeave new)
left_held old new time es fits survives clean left may = ⊎_elim
    (λ before. inl (may.0, before, may.2))
    (λ grows. inr (subst (IsPermutation (held_in old.committed.trees ++ stamped time es)) (sym may.2) (grows_held old.committed.trees may.0 time es fits grows)))
    (survives.crash clean may.0 may.1)

-- what a crash leaves of a log's rows, in a call that notes peers
pub left_meeting : (old new : State) (met : List LogPeer) → Survives old new (λ trees. Meets old.committed.trees trees met) → HasCleanDisk new
    → LeavesAllOrNone (held_in old.committed.trees) [] (MayLeave old) (MayLeave new)
left_meeting old new met survives clean left may = ⊎_elim
    (λ before. inl (may.0, before, may.2))
    (λ meets. inr (subst₂ IsPermutation (sym (append-nil (held_in old.committed.trees))) (sym (may.2 ∙ ap rows_in meets.rows)) (IsPermutation-refl (held_in old.committed.trees))))
    (survives.crash clean may.0 may.1)

pub shown_held : (s : State) (shown : List Row) (rows : List LogRow) → IsPermutation (log_of s) (map cells_shown shown) → map (λ r. row_in (cells_shown r)) shown ≡ map Some rows
    → IsPermutation (held_in s.committed.trees) rows
shown_held s shown rows moved read =
    subst (IsPermutation (held_in s.committed.trees)) (rows_read (map cells_shown shown) rows (map-map row_in cells_shown shown ∙ read)) (rows_in-permutation _ _ moved)

-- ---- edits, one after another

pub counter_low : (es : List Edit) (i : ℕ) (e : Edit) (n : ℕ) → i < length es → e ≡ get_or es i e → high_among es < n → e.version.counter < n
counter_low [] i e n low is high = absurd (omega (arith, low))
counter_low (x ∷ xs) zero e n low is high = let same : e.version.counter ≡ x.version.counter = ap (λ (y : Edit). y.version.counter) is in omega (arith, same, high)
counter_low (x ∷ xs) (suc i) e n low is high = counter_low xs i e n (omega (arith, low)) is (omega (arith, high))

pub taken_more : {X : Type 0} (f : Edit → X) (es : List Edit) (i : ℕ) (e : Edit) → i < length es → e ≡ get_or es i e → map f (take i es) ++ f e ∷ [] ≡ map f (take (i + 1) es)
taken_more f es i e low is = sym (ap (map f) (take_more es i e low) ∙ map-append f (take i es) (get_or es i e ∷ []) ∙ ap (λ y. map f (take i es) ++ f y ∷ []) (sym is))

pub all_more : (P : Edit → Type 0) (es : List Edit) (i : ℕ) (e : Edit) → i < length es → e ≡ get_or es i e → AllByRecursion P (take i es) → P e → AllByRecursion P (take (i + 1) es)
all_more P es i e low is all one = subst (AllByRecursion P) (sym (take_more es i e low)) (all-append P (take i es) (get_or es i e ∷ []) all (subst P is one, tt))

-- ---- results

pub if_ok_then : {A E : Type 0} (r : Result A E) (P Q : A → Type 0) → ((x : A) → P x → Q x) → IfOk r P → IfOk r Q
if_ok_then (Ok x) P Q f h = f x h
if_ok_then (Err e) P Q f h = tt

pub on_ok_then : {A E : Type 0} (r : Result A E) (P : A → Type 0) (Q : Type 0) → ((x : A) → P x → Q) → IfOk r P → OnOk r Q
on_ok_then (Ok x) P Q f h = f x h
on_ok_then (Err e) P Q f h = tt

pub on_ok_both : {A E : Type 0} (r : Result A E) (P Q : Type 0) → (P → Q) → OnOk r P → OnOk r Q
on_ok_both (Ok x) P Q f h = f h
on_ok_both (Err e) P Q f h = tt

pub one_element : {X : Type 0} (xs : List X) (x : X) → 1 ≤ length xs → length xs < 2 → x ≡ get_or xs 0 x → xs ≡ x ∷ []
one_element [] x low high is = absurd (omega (arith, low))
one_element (y ∷ []) x low high is = ap (λ z. z ∷ []) (sym is)
one_element (y ∷ z ∷ more) x low high is = absurd (omega (arith, high))

-- a connection that was opened with this schema
pub opened_with : (schema : Schema) (s : State) → Opens s → s.now.schema ≡ schema → HasSchema schema s
opened_with schema s o h = record { is_open = o.is_open; has = h; alone = o.autocommit; settled = o.clean }

-- a head that was read
pub if_ok_stands : (old new : State) (r : Result LogHead LogFault) → (HasCleanDisk new → IsLog old) → (HasCleanDisk new → OnOk r (IsUnchanged old new))
    → (HasCleanDisk new → IfOk r (λ head. heads_of old ≡ head ∷ [])) → IfOk r (λ head. Stands head new)
if_ok_stands old new (Ok head) log same heads = λ clean. let stands = same_log old new (log clean) (same clean) in (stands.0, ap heads_in stands.1 ∙ heads clean)
if_ok_stands old new (Err e) log same heads = tt
