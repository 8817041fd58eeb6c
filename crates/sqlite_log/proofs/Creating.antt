-- What the statements that make the tables do.
use Rattle.std.proofs.Common.{◌≡◌, ℕ, List, [], false, None, Ok, sym, ap, subst, ◌∙◌}
use Rattle.sqlite.specs.Command.TheVariants.{CreateTable}
use Rattle.sqlite.specs.Compile.{table_defined_by}
use Rattle.sqlite.specs.Change.{created, KeepsRows, next_tree}
use Rattle.sqlite.specs.Does.{Tally, Does, lacks_sequence}
use Rattle.sqlite.specs.Effect.{Database}
use Rattle.sqlite.specs.State.{State, mode_of}
use Rattle.sqlite_log.specs.Tables.{edit_schema, edit_table, log_schema, meta_schema, meta_table, no_schema, peer_table}
use Rattle.sqlite_log.proofs.Statements.{edit_is, edit_text, meta_is, meta_text, peer_is, peer_text}
use Rattle.sqlite_log.proofs.Inserting.{same_value, went}

pub does_make_edits : (old : State) (db : Database) (text : List ℕ) (tally : Tally) → text ≡ edit_text → old.now.schema ≡ no_schema → Does old.step_limit (mode_of old) [] old.now text None CreateTable (Ok (tally, db))
    → (db.schema ≡ edit_schema) × (db.trees 0 ≡ [])
does_make_edits old after text tally known has h =
    let all = went h in
    let first = went all.1 in
    let made = first.1 in
    let both : Ok made.table ≡ Ok edit_table = sym made.defined ∙ ap table_defined_by known ∙ edit_is.2 in
    let same : made.table ≡ edit_table = cc in
    let schema : first.0.schema ≡ edit_schema = made.is ∙ ap (λ s. created s made.table) has ∙ ap (created no_schema) same in
    let plain : lacks_sequence first.0.schema ≡ false = ap lacks_sequence schema in
    let now : after ≡ first.0 = ap (λ (p : Tally × Database). p.1) (same_value all.2) ∙ same_value (rw plain at first.2) in
    (ap (λ (d : Database). d.schema) now ∙ schema, ap (λ (d : Database). d.trees 0) now ∙ subst (λ s. first.0.trees (next_tree s) ≡ []) has made.empty)

pub does_make_meta : (old : State) (db : Database) (text : List ℕ) (tally : Tally) → text ≡ meta_text → old.now.schema ≡ edit_schema → Does old.step_limit (mode_of old) [] old.now text None CreateTable (Ok (tally, db))
    → (db.schema ≡ meta_schema) × (db.trees 1 ≡ []) × (db.trees 0 ≡ old.now.trees 0)
does_make_meta old after text tally known has h =
    let all = went h in
    let first = went all.1 in
    let made = first.1 in
    let both : Ok made.table ≡ Ok (record meta_table { tree = 0 }) = sym made.defined ∙ ap table_defined_by known ∙ meta_is.2 in
    let same : made.table ≡ record meta_table { tree = 0 } = cc in
    let schema : first.0.schema ≡ meta_schema = made.is ∙ ap (λ s. created s made.table) has ∙ ap (created edit_schema) same in
    let plain : lacks_sequence first.0.schema ≡ false = ap lacks_sequence schema in
    let now : after ≡ first.0 = ap (λ (p : Tally × Database). p.1) (same_value all.2) ∙ same_value (rw plain at first.2) in (
      ap (λ (d : Database). d.schema) now ∙ schema,
      ap (λ (d : Database). d.trees 1) now ∙ subst (λ s. first.0.trees (next_tree s) ≡ []) has made.empty,
      ap (λ (d : Database). d.trees 0) now ∙ (subst (λ s. KeepsRows s.tables old.now.trees first.0.trees) has made.others).0,
    )

pub does_make_peers : (old : State) (db : Database) (text : List ℕ) (tally : Tally) → text ≡ peer_text → old.now.schema ≡ meta_schema → Does old.step_limit (mode_of old) [] old.now text None CreateTable (Ok (tally, db))
    → (db.schema ≡ log_schema) × (db.trees 2 ≡ []) × (db.trees 1 ≡ old.now.trees 1) × (db.trees 0 ≡ old.now.trees 0)
does_make_peers old after text tally known has h =
    let all = went h in
    let first = went all.1 in
    let made = first.1 in
    let both : Ok made.table ≡ Ok (record peer_table { tree = 0 }) = sym made.defined ∙ ap table_defined_by known ∙ peer_is.2 in
    let same : made.table ≡ record peer_table { tree = 0 } = cc in
    let schema : first.0.schema ≡ log_schema = made.is ∙ ap (λ s. created s made.table) has ∙ ap (created meta_schema) same in
    let plain : lacks_sequence first.0.schema ≡ false = ap lacks_sequence schema in
    let now : after ≡ first.0 = ap (λ (p : Tally × Database). p.1) (same_value all.2) ∙ same_value (rw plain at first.2) in
    let kept = subst (λ s. KeepsRows s.tables old.now.trees first.0.trees) has made.others in (
      ap (λ (d : Database). d.schema) now ∙ schema,
      ap (λ (d : Database). d.trees 2) now ∙ subst (λ s. first.0.trees (next_tree s) ≡ []) has made.empty,
      ap (λ (d : Database). d.trees 1) now ∙ kept.1.0,
      ap (λ (d : Database). d.trees 0) now ∙ kept.0,
    )
