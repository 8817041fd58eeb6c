-- The tables of a log.
-- Source: this project's own.
use Rattle.std.specs.Prelude.{true, false, List, [], ◌∷◌, codes, Some}
use Rattle.sqlite.specs.Collation.TheVariants.{Binary}
use Rattle.sqlite.specs.declared.types.Value.TheVariants.{Null}
use Rattle.sqlite.specs.Kind.{Kind}
use Rattle.sqlite.specs.Kind.TheVariants.{Integer, Text, Blob}
use Rattle.sqlite.specs.Table.{Table}
use Rattle.sqlite_schema.specs.declared.schema.Column.{Column}
use Rattle.sqlite.specs.Schema.{Schema}
use Rattle.std.specs.Prelude.{ℕ}

abbrev pub no_schema : Schema
no_schema = record { tables = []; indexes = []; views = [] }

-- the number of a row, which the database gives
abbrev pub id_column : Column
id_column = record { name = codes "id"; kind = Integer; is_strict = true; not_null = false; default = Null; collation = Binary }

-- a column that is never empty
abbrev pub full_column : List ℕ → Kind → Column
full_column name kind = record { name = name; kind = kind; is_strict = true; not_null = true; default = Null; collation = Binary }

-- a table of rows with numbers, and no other rule
abbrev pub plain_table : List ℕ → ℕ → List Column → Table
plain_table name tree columns = record {
  name = name;
  tree = tree;
  columns = columns;
  key = Some 0;
  primary = 0 ∷ [];
  uniques = [];
  orders = [];
  checks = [];
  references = [];
  computed = [];
  stamps = record { places = []; terms = []; formats = [] };
  is_counted = false;
}

abbrev pub edit_columns : List Column
edit_columns =
    id_column ∷ full_column (codes "place") Text ∷ full_column (codes "counter") Integer ∷ full_column (codes "writer") Integer
    ∷ full_column (codes "kind") Integer ∷ full_column (codes "content") Blob ∷ full_column (codes "time") Integer ∷ []

abbrev pub meta_columns : List Column
meta_columns = id_column ∷ full_column (codes "format") Integer ∷ full_column (codes "writer") Integer ∷ full_column (codes "mark") Blob ∷ []

abbrev pub peer_columns : List Column
peer_columns = id_column ∷ full_column (codes "mark") Blob ∷ full_column (codes "writer") Integer ∷ full_column (codes "seen") Integer ∷ []

abbrev pub edit_table : Table
edit_table = plain_table (codes "edit") 0 edit_columns

abbrev pub meta_table : Table
meta_table = plain_table (codes "meta") 1 meta_columns

abbrev pub peer_table : Table
peer_table = plain_table (codes "peer") 2 peer_columns

-- a log that is being made: it has no table for its head yet
abbrev pub edit_schema : Schema
edit_schema = record { tables = edit_table ∷ []; indexes = []; views = [] }

-- and now none for its peers
abbrev pub meta_schema : Schema
meta_schema = record { tables = edit_table ∷ meta_table ∷ []; indexes = []; views = [] }

abbrev pub log_schema : Schema
log_schema = record { tables = edit_table ∷ meta_table ∷ peer_table ∷ []; indexes = []; views = [] }
