-- The statements, and what they are understood as.
use Rattle.std.proofs.Common.{◌≡◌, ℕ, pos, negsuc, List, [], ◌∷◌, codes, false, None, Ok, refl, sym, ap, subst₂, subst, ◌∙◌, append-nil}
use Rattle.sqlite.specs.declared.types.Value.TheVariants.{Null, Int, Text, Blob}
use Rattle.sqlite.specs.Order.{Row}
use Rattle.sqlite.specs.Term.{Term, lit, col}
use Rattle.sqlite.specs.Schema.{Schema}
use Rattle.sqlite.specs.Source.TheVariants.{Values}
use Rattle.sqlite.specs.Command.{Command}
use Rattle.sqlite.specs.Command.TheVariants.{Insert, CreateTable, Select}
use Rattle.sqlite.specs.Compile.{table_defined_by}
use Rattle.sqlite.specs.Query.{Query, inner, end}
use Rattle.sqlite_tied.specs.Compute.{everything}
use Rattle.sqlite.specs.Listing.{understood, reads_listing}
use Rattle.sqlite.specs.Tree.{Trees}
use Rattle.sqlite.specs.State.{State, CommitsBy, MayCommit}
use Rattle.sqlite.proofs.Callers.{IsPlain, command_of, statement_of}
use Rattle.edit_log.specs.declared.logs.LogHead.{LogHead}
use Rattle.edit_log.specs.declared.logs.LogPeer.{LogPeer}
use Rattle.sqlite_log.specs.Cells.{Cells}
use Rattle.sqlite_log.specs.Tables.{edit_schema, edit_table, log_schema, meta_schema, meta_table, no_schema, peer_table}

abbrev pub edit_text : List ℕ
edit_text = codes "CREATE TABLE edit (id INTEGER PRIMARY KEY, place TEXT NOT NULL, counter INTEGER NOT NULL, writer INTEGER NOT NULL, kind INTEGER NOT NULL, content BLOB NOT NULL, time INTEGER NOT NULL) STRICT"

abbrev pub meta_text : List ℕ
meta_text = codes "CREATE TABLE meta (id INTEGER PRIMARY KEY, format INTEGER NOT NULL, writer INTEGER NOT NULL, mark BLOB NOT NULL) STRICT"

abbrev pub peer_text : List ℕ
peer_text = codes "CREATE TABLE peer (id INTEGER PRIMARY KEY, mark BLOB NOT NULL, writer INTEGER NOT NULL, seen INTEGER NOT NULL) STRICT"

abbrev pub insert_text : List ℕ
insert_text = codes "INSERT INTO edit (place, counter, writer, kind, content, time) VALUES (?1, ?2, ?3, ?4, ?5, ?6)"

abbrev pub head_text : List ℕ
head_text = codes "INSERT INTO meta (format, writer, mark) VALUES (?1, ?2, ?3)"

abbrev pub met_text : List ℕ
met_text = codes "INSERT INTO peer (mark, writer, seen) VALUES (?1, ?2, ?3)"

abbrev pub edit_terms : List Term
edit_terms = lit Null ∷ lit Null ∷ col 0 0 ∷ col 0 1 ∷ col 0 2 ∷ col 0 3 ∷ col 0 4 ∷ col 0 5 ∷ []

abbrev pub head_terms : List Term
head_terms = lit Null ∷ lit Null ∷ col 0 0 ∷ col 0 1 ∷ col 0 2 ∷ []

abbrev pub peer_terms : List Term
peer_terms = lit Null ∷ lit Null ∷ col 0 0 ∷ col 0 1 ∷ col 0 2 ∷ []

abbrev pub insert_edit : Command
insert_edit = Insert 0 (Values edit_terms 8)

abbrev pub insert_head : Command
insert_head = Insert 1 (Values head_terms 5)

abbrev pub insert_met : Command
insert_met = Insert 2 (Values peer_terms 5)

abbrev pub params_of : Cells → Row
params_of c = Text c.place ∷ Int (pos c.counter) ∷ Int (pos c.writer) ∷ Int (pos c.kind) ∷ Blob c.content ∷ Int (pos c.time) ∷ []

abbrev pub head_params : LogHead → Row
head_params h = Int (pos h.format) ∷ Int (pos h.writer) ∷ Blob h.mark ∷ []

abbrev pub peer_params : LogPeer → Row
peer_params p = Blob p.mark ∷ Int (pos p.writer) ∷ Int (pos p.seen) ∷ []

pub edit_is : (command_of (understood no_schema edit_text) ≡ CreateTable) × (statement_of edit_text (understood no_schema edit_text) ≡ edit_text) × (table_defined_by edit_text ≡ Ok edit_table)
unfolding understood everything
edit_is = (refl, refl, refl)

pub edit_plain : IsPlain (understood no_schema edit_text)
unfolding understood everything
edit_plain = (refl, refl)

pub meta_is : (command_of (understood edit_schema meta_text) ≡ CreateTable) × (statement_of meta_text (understood edit_schema meta_text) ≡ meta_text) × (table_defined_by meta_text ≡ Ok (record meta_table { tree = 0 }))
unfolding understood everything
meta_is = (refl, refl, refl)

pub meta_plain : IsPlain (understood edit_schema meta_text)
unfolding understood everything
meta_plain = (refl, refl)

pub peer_is : (command_of (understood meta_schema peer_text) ≡ CreateTable) × (statement_of peer_text (understood meta_schema peer_text) ≡ peer_text) × (table_defined_by peer_text ≡ Ok (record peer_table { tree = 0 }))
unfolding understood everything
peer_is = (refl, refl, refl)

pub peer_plain : IsPlain (understood meta_schema peer_text)
unfolding understood everything
peer_plain = (refl, refl)

pub insert_is : command_of (understood log_schema insert_text) ≡ insert_edit
unfolding understood everything
insert_is = refl

pub insert_plain : IsPlain (understood log_schema insert_text)
unfolding understood everything
insert_plain = (refl, refl)

pub head_is : command_of (understood log_schema head_text) ≡ insert_head
unfolding understood everything
head_is = refl

pub head_plain : IsPlain (understood log_schema head_text)
unfolding understood everything
head_plain = (refl, refl)

pub met_is : command_of (understood log_schema met_text) ≡ insert_met
unfolding understood everything
met_is = refl

pub met_plain : IsPlain (understood log_schema met_text)
unfolding understood everything
met_plain = (refl, refl)

-- ---- queries

abbrev pub edits_text : List ℕ
edits_text = codes "SELECT place, counter, writer, kind, content, time FROM edit"

abbrev pub heads_text : List ℕ
heads_text = codes "SELECT format, writer, mark FROM meta"

abbrev pub peers_text : List ℕ
peers_text = codes "SELECT mark, writer, seen FROM peer"

-- the rows of a tree, of each these columns
abbrev pub all_of_tree : ℕ → List Term → Query
all_of_tree tree terms = record {
  from = inner tree end;
  filter = [];
  group = None;
  project = terms;
  distinct = false;
  collations = [];
  order = [];
  limit = lit (Int (negsuc 0));
  offset = lit (Int (pos 0));
}

abbrev pub edits_query : Query
edits_query = all_of_tree 0 (col 1 2 ∷ col 1 3 ∷ col 1 4 ∷ col 1 5 ∷ col 1 6 ∷ col 1 7 ∷ [])

abbrev pub heads_query : Query
heads_query = all_of_tree 1 (col 1 2 ∷ col 1 3 ∷ col 1 4 ∷ [])

abbrev pub peers_query : Query
peers_query = all_of_tree 2 (col 1 2 ∷ col 1 3 ∷ col 1 4 ∷ [])

abbrev pub edits_command : Command
edits_command = Select (record { lets = []; body = edits_query }) (codes "place" ∷ codes "counter" ∷ codes "writer" ∷ codes "kind" ∷ codes "content" ∷ codes "time" ∷ [])

abbrev pub heads_command : Command
heads_command = Select (record { lets = []; body = heads_query }) (codes "format" ∷ codes "writer" ∷ codes "mark" ∷ [])

abbrev pub peers_command : Command
peers_command = Select (record { lets = []; body = peers_query }) (codes "mark" ∷ codes "writer" ∷ codes "seen" ∷ [])

pub edits_is : (command_of (understood log_schema edits_text) ≡ edits_command) × (reads_listing log_schema edits_text ≡ false)
unfolding understood everything
edits_is = (refl, refl)

pub edits_plain : IsPlain (understood log_schema edits_text)
unfolding understood everything
edits_plain = (refl, refl)

pub heads_is : (command_of (understood log_schema heads_text) ≡ heads_command) × (reads_listing log_schema heads_text ≡ false)
unfolding understood everything
heads_is = (refl, refl)

pub heads_plain : IsPlain (understood log_schema heads_text)
unfolding understood everything
heads_plain = (refl, refl)

pub peers_is : (command_of (understood log_schema peers_text) ≡ peers_command) × (reads_listing log_schema peers_text ≡ false)
unfolding understood everything
peers_is = (refl, refl)

pub peers_plain : IsPlain (understood log_schema peers_text)
unfolding understood everything
peers_plain = (refl, refl)

-- ---- what a statement that is written out may commit

module _ (sql : List ℕ) (params : Row) (old : State) (schema : Schema) (has : old.now.schema ≡ schema) (command : Command) (is : command_of (understood schema sql) ≡ command)
    (plain : IsPlain (understood schema sql)) where
  pub commits_as : (db : Trees) → CommitsBy sql params old db → MayCommit old None command (statement_of sql (understood schema sql)) params db
  unfolding CommitsBy
  commits_as db h =
      let known = sym h.1.is ∙ ap (λ s. understood s sql) has in
      let bare = subst IsPlain (sym known) plain in
      subst₂ (λ k t. MayCommit old None k t params db) (ap command_of known ∙ is) (ap (statement_of sql) known) (rw (bare.0, bare.1, append-nil params) at h.2)
