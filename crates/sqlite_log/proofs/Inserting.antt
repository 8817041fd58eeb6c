-- What an insert does.
use Rattle.std.proofs.Common.{◌≡◌, ◌⊎◌, inl, inr, ℤ, pos, List, [], ◌∷◌, ◌++◌, ◌||◌, ◌&&◌, not, map, Bool, true, false, cond, None, Ok, Err, Result, refl, ap, subst, ◌∙◌, Ordering, Less, Equal, Greater, arith}
use Rattle.std.specs.Ordering.{is_eq}
use Rattle.std.specs.Prelude.{IsPermutation, ℕ}
use Rattle.std.proofs.lemmas.List.Sorted.{IsPermutation-cons, IsPermutation-refl, IsPermutation-trans, IsPermutation-to_front, IsPermutation-append_comm}
use Rattle.sqlite.specs.declared.types.Value.{Value}
use Rattle.sqlite.specs.declared.types.Value.TheVariants.{Null, Int}
use Rattle.sqlite.specs.Order.{Row, value_cmp}
use Rattle.sqlite.specs.Ops.{unary}
use Rattle.sqlite.specs.Kind.TheVariants.{Integer}
use Rattle.sqlite.specs.Edit.{Edit, edit_of, edited, left_by, is_taken, are_fresh, next_rowid}
use Rattle.sqlite.specs.Cast.{cast}
use Rattle.sqlite.specs.Rowids.TheVariants.{Chosen}
use Rattle.sqlite.specs.Does.{Tally, Does}
use Rattle.sqlite.specs.Rows.{Written}
use Rattle.sqlite.specs.Tree.{Trees, put_row, rowid}
use Rattle.sqlite.specs.Effect.{Database}
use Rattle.sqlite.specs.State.{State, mode_of}
use Rattle.sqlite.proofs.Callers.{one_step}
use Rattle.edit_log.specs.declared.logs.LogHead.{LogHead}
use Rattle.edit_log.specs.declared.logs.LogPeer.{LogPeer}
use Rattle.sqlite_log.specs.Cells.{Cells, cells_in, head_in, head_row, peer_in, peer_row, row_of}
use Rattle.sqlite_log.specs.States.{Grows, heads_in, log_in, Meets, peers_in}
use Rattle.sqlite_log.specs.Tables.{edit_table, log_schema, meta_table, peer_table}
use Rattle.sqlite_log.proofs.Statements.{head_params, insert_edit, insert_head, insert_met, params_of, peer_params}

either : (b : Bool) (x : Value) → cond b x x ≡ x
either true x = refl
either false x = refl

cast_null : cast Integer Null ≡ Null
unfolding unary
cast_null = either _ Null

cast_int : (n : ℤ) → cast Integer (Int n) ≡ Int n
unfolding unary
cast_int n = either _ (Int n)

-- a part that gave a value did not stop on the way
pub went : {B E R : Type 0} {b : B} {Stops : E → Type 0} → ((stop : E) × Stops stop × (Ok b ≡ Err stop)) ⊎ R → R
went (inl stopped) = absurd (let e = stopped.2 in cc)
went (inr on) = on

pub same_value : {B E : Type 0} {a b : B} → ◌≡◌ {A = Result B E} (Ok a) (Ok b) → a ≡ b
same_value e = cc

either_false : (a b : Bool) → (a || b) ≡ false → (a ≡ false) × (b ≡ false)
either_false true b h = cc
either_false false b h = (refl, h)

both_true : (a b : Bool) → (a && b) ≡ true → a ≡ true
both_true true b h = refl
both_true false b h = cc

was_not : (b : Bool) → not b ≡ true → b ≡ false
was_not true h = cc
was_not false h = refl

-- a row with a number that is not taken is one row more
module _ {X : Type 0} (read : Row → X) where
  put_beside : (new r : Row) (rs : List Row) → is_eq (value_cmp (rowid r) (rowid new)) ≡ false → IsPermutation (read new ∷ map read rs) (map read (put_row new rs))
      → (o : Ordering) → value_cmp (rowid r) (rowid new) ≡ o → IsPermutation (read new ∷ map read (r ∷ rs)) (map read (put_row new (r ∷ rs)))
  put_beside new r rs other rest Less is = rw is (IsPermutation-trans _ _ _ (swap (read new) (read r) (map read rs)) (IsPermutation-cons (read r) _ _ rest))
    where
      swap : (x y : X) (zs : List X) → IsPermutation (x ∷ y ∷ zs) (y ∷ x ∷ zs)
      swap x y zs = IsPermutation-trans _ _ _ (IsPermutation-append_comm (x ∷ []) (y ∷ zs)) (IsPermutation-cons y _ _ (IsPermutation-to_front zs x))
  put_beside new r rs other rest Equal is = absurd (let e = rw is at other in cc)
  put_beside new r rs other rest Greater is = rw is (IsPermutation-refl (read new ∷ map read (r ∷ rs)))

  put_row_adds : (new : Row) (rows : List Row) → is_taken rows new ≡ false → IsPermutation (read new ∷ map read rows) (map read (put_row new rows))
  put_row_adds new [] h = IsPermutation-refl (read new ∷ [])
  put_row_adds new (r ∷ rs) h =
      let parts = either_false _ _ h in
      put_beside new r rs parts.0 (put_row_adds new rs parts.1) (value_cmp (rowid r) (rowid new)) refl

  pub put_row_more : (new : Row) (rows : List Row) → is_taken rows new ≡ false → IsPermutation (map read rows ++ read new ∷ []) (map read (put_row new rows))
  put_row_more new rows h = IsPermutation-trans _ _ _ (IsPermutation-append_comm (map read rows) (read new ∷ [])) (put_row_adds new rows h)

-- what the insert of an edit does to any log
pub does_add : (old : State) (db : Database) (c : Cells) (text : List ℕ) (tally : Tally) → old.now.schema ≡ log_schema → Does old.step_limit (mode_of old) (params_of c) old.now text None insert_edit (Ok (tally, db))
    → (db.schema ≡ log_schema) × Grows old.now.trees db.trees (c ∷ [])
does_add old after c text tally has h =
    let params = params_of c in
    let db = old.now.trees in
    let done = went (subst (λ s. Does old.step_limit (mode_of old) params (record old.now { schema = s }) text None insert_edit (Ok (tally, after))) has h) in
    let now = ap (λ (p : Tally × Database). p.1) (same_value (went (went done.2).2).2) in
    let given = went done.1 in
    let written = went (went given.2).2 in
    let counted = went written.2 in
    let trees : done.0.trees ≡ written.0 = ap (λ (it : Written). it.trees) (same_value counted.2) ∙ same_value counted.1 in
    let step = one_step log_schema _ db written.0 (edit_of db edit_table [] Chosen 0 given.0) refl written.1 in
    let row = row_of (next_rowid (db 0)) c in
    let it : Edit = record { table = edit_table; gone = []; news = row ∷ [] } in
    let is : edit_of db edit_table [] Chosen 0 given.0 ≡ it = ap (λ all. edit_of db edit_table [] Chosen 0 all) given.1.1 ∙ rw (cast_null, cast_int (pos c.counter), cast_int (pos c.writer), cast_int (pos c.kind), cast_int (pos c.time)) refl in
    let fresh = subst (λ (x : Edit). are_fresh (left_by db x) x.news ≡ true) is step.fresh in
    let last : after.trees 0 ≡ put_row row (db 0) = ap (λ (d : Database). d.trees 0) now ∙ ap (λ (t : Trees). t 0) trees ∙ step.rows ∙ ap (edited db) is in
    let other : after.trees 1 ≡ db 1 = ap (λ (d : Database). d.trees 1) now ∙ ap (λ (t : Trees). t 1) trees ∙ step.tables.1.0 (λ e. omega (arith, e)) in
    let third : after.trees 2 ≡ db 2 = ap (λ (d : Database). d.trees 2) now ∙ ap (λ (t : Trees). t 2) trees ∙ step.tables.1.1.0 (λ e. omega (arith, e)) in
    (ap (λ (d : Database). d.schema) now, record { rows = rw last (put_row_more cells_in row (db 0) (was_not _ (both_true _ _ fresh))); heads = ap (map head_in) other; peers = ap (map peer_in) third })

-- what the insert of a head does
pub does_head : (old : State) (db : Database) (h : LogHead) (text : List ℕ) (tally : Tally) → old.now.schema ≡ log_schema → Does old.step_limit (mode_of old) (head_params h) old.now text None insert_head (Ok (tally, db))
    → (db.schema ≡ log_schema) × (log_in db.trees ≡ log_in old.now.trees) × IsPermutation (heads_in old.now.trees ++ h ∷ []) (heads_in db.trees) × (peers_in db.trees ≡ peers_in old.now.trees)
does_head old after h text tally has did =
    let params = head_params h in
    let db = old.now.trees in
    let done = went (subst (λ s. Does old.step_limit (mode_of old) params (record old.now { schema = s }) text None insert_head (Ok (tally, after))) has did) in
    let now = ap (λ (p : Tally × Database). p.1) (same_value (went (went done.2).2).2) in
    let given = went done.1 in
    let written = went (went given.2).2 in
    let counted = went written.2 in
    let trees : done.0.trees ≡ written.0 = ap (λ (it : Written). it.trees) (same_value counted.2) ∙ same_value counted.1 in
    let step = one_step log_schema _ db written.0 (edit_of db meta_table [] Chosen 0 given.0) refl written.1 in
    let row = head_row (next_rowid (db 1)) h in
    let it : Edit = record { table = meta_table; gone = []; news = row ∷ [] } in
    let is : edit_of db meta_table [] Chosen 0 given.0 ≡ it = ap (λ all. edit_of db meta_table [] Chosen 0 all) given.1.1 ∙ rw (cast_null, cast_int (pos h.format), cast_int (pos h.writer)) refl in
    let fresh = subst (λ (x : Edit). are_fresh (left_by db x) x.news ≡ true) is step.fresh in
    let last : after.trees 1 ≡ put_row row (db 1) = ap (λ (d : Database). d.trees 1) now ∙ ap (λ (t : Trees). t 1) trees ∙ step.rows ∙ ap (edited db) is in
    let other : after.trees 0 ≡ db 0 = ap (λ (d : Database). d.trees 0) now ∙ ap (λ (t : Trees). t 0) trees ∙ step.tables.0 (λ e. omega (arith, e)) in
    let third : after.trees 2 ≡ db 2 = ap (λ (d : Database). d.trees 2) now ∙ ap (λ (t : Trees). t 2) trees ∙ step.tables.1.1.0 (λ e. omega (arith, e)) in
    (ap (λ (d : Database). d.schema) now, ap (map cells_in) other, rw last (put_row_more head_in row (db 1) (was_not _ (both_true _ _ fresh))), ap (map peer_in) third)

-- what the insert of a peer does
pub does_meet : (old : State) (db : Database) (p : LogPeer) (text : List ℕ) (tally : Tally) → old.now.schema ≡ log_schema → Does old.step_limit (mode_of old) (peer_params p) old.now text None insert_met (Ok (tally, db))
    → (db.schema ≡ log_schema) × Meets old.now.trees db.trees (p ∷ [])
does_meet old after p text tally has did =
    let params = peer_params p in
    let db = old.now.trees in
    let done = went (subst (λ s. Does old.step_limit (mode_of old) params (record old.now { schema = s }) text None insert_met (Ok (tally, after))) has did) in
    let now = ap (λ (q : Tally × Database). q.1) (same_value (went (went done.2).2).2) in
    let given = went done.1 in
    let written = went (went given.2).2 in
    let counted = went written.2 in
    let trees : done.0.trees ≡ written.0 = ap (λ (it : Written). it.trees) (same_value counted.2) ∙ same_value counted.1 in
    let step = one_step log_schema _ db written.0 (edit_of db peer_table [] Chosen 0 given.0) refl written.1 in
    let row = peer_row (next_rowid (db 2)) p in
    let it : Edit = record { table = peer_table; gone = []; news = row ∷ [] } in
    let is : edit_of db peer_table [] Chosen 0 given.0 ≡ it = ap (λ all. edit_of db peer_table [] Chosen 0 all) given.1.1 ∙ rw (cast_null, cast_int (pos p.writer), cast_int (pos p.seen)) refl in
    let fresh = subst (λ (x : Edit). are_fresh (left_by db x) x.news ≡ true) is step.fresh in
    let last : after.trees 2 ≡ put_row row (db 2) = ap (λ (d : Database). d.trees 2) now ∙ ap (λ (t : Trees). t 2) trees ∙ step.rows ∙ ap (edited db) is in
    let first : after.trees 0 ≡ db 0 = ap (λ (d : Database). d.trees 0) now ∙ ap (λ (t : Trees). t 0) trees ∙ step.tables.0 (λ e. omega (arith, e)) in
    let other : after.trees 1 ≡ db 1 = ap (λ (d : Database). d.trees 1) now ∙ ap (λ (t : Trees). t 1) trees ∙ step.tables.1.0 (λ e. omega (arith, e)) in
    (ap (λ (d : Database). d.schema) now, record { peers = rw last (put_row_more peer_in row (db 2) (was_not _ (both_true _ _ fresh))); heads = ap (map head_in) other; rows = ap (map cells_in) first })
