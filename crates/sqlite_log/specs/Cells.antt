-- Edits as rows of a table.
-- Source: this project's own.
use Rattle.std.specs.Prelude.{◌==◌, ℕ, ℤ, pos, if◌then◌else◌, List, [], ◌∷◌, Option, Some, None, Result, Ok, Err, IsTrue, flat_map}
use Rattle.std.specs.Option.{option_to_list}
use Rattle.sqlite.specs.declared.types.Value.{Value}
use Rattle.sqlite.specs.declared.types.Value.TheVariants.{Null, Int, Text as Words, Blob as Bytes}
use Rattle.sqlite.specs.Order.{Row, column, bytes}
use Rattle.load_path.specs.Paths.{IsPath}
use Rattle.load_places.specs.Places.{PlaceParts}
use Rattle.load_places.specs.Texts.{IsScope, place_of, place_text}
use Rattle.edit_sums.specs.Contents.{bytes_of, file_of, link_of, sort_of}
use Rattle.edit_sums.specs.Limits.{is_file, is_target}
use Rattle.edit_sums.specs.declared.contents.Content.{Content}
use Rattle.edit_sums.specs.declared.contents.Content.TheVariants.{Gone, Link, File}
use Rattle.edit_sums.specs.declared.entries.Edit.{Edit}
use Rattle.edit_log.specs.declared.logs.LogRow.{LogRow}
use Rattle.edit_log.specs.declared.logs.LogHead.{LogHead}
use Rattle.edit_log.specs.declared.logs.LogPeer.{LogPeer}
use Rattle.sqlite_log.specs.declared.reading.EditCells.{EditCells}

-- the cells of a row of the table of edits, without its number
pub record Cells : Type 0 where
  pub place : List ℕ
  pub counter : ℕ
  pub writer : ℕ
  pub kind : ℕ
  pub content : List ℕ
  pub time : ℕ

-- the cells that spell an edit
abbrev pub cells_of : ℕ → Edit → Cells
cells_of time e = record { place = place_text e.place; counter = e.version.counter; writer = e.version.writer; kind = sort_of e.content; content = bytes_of e.content; time = time }

-- ---- what cells spell

abbrev pub ok_of : {A E : Type 0} → Result A E → Option A
ok_of (Ok x) = Some x
ok_of (Err e) = None

abbrev pub gone_of : List ℕ → Option Content
gone_of [] = Some Gone
gone_of (b ∷ bs) = None

-- a removal has no bytes; a link its target, a file its own; another kind is none
abbrev pub content_in : ℕ → List ℕ → Option Content
content_in kind bytes = if kind == 0 then gone_of bytes else (if kind == 1 then ok_of (link_of bytes) else (if kind == 2 then ok_of (file_of bytes) else None))

abbrev pub row_with : Cells → Option PlaceParts → Option Content → Option LogRow
row_with c None content = None
row_with c (Some place) None = None
row_with c (Some place) (Some content) = Some (record { edit = record { place = place; version = record { counter = c.counter; writer = c.writer }; content = content }; time = c.time })

-- the row of the log that the cells spell, if they spell one
abbrev pub row_in : Cells → Option LogRow
row_in c = row_with c (ok_of (place_of c.place)) (content_in c.kind c.content)

-- the rows that are spelled
abbrev pub rows_in : List Cells → List LogRow
rows_in = flat_map (λ c. option_to_list (row_in c))

-- ---- in a database

-- the row of an edit under its number
abbrev pub row_of : ℤ → Cells → Row
row_of id c = Int id ∷ Null ∷ Words c.place ∷ Int (pos c.counter) ∷ Int (pos c.writer) ∷ Int (pos c.kind) ∷ Bytes c.content ∷ Int (pos c.time) ∷ []

abbrev pub count_in : Value → ℕ
count_in (Int (pos n)) = n
count_in _ = 0

abbrev pub cells_in : Row → Cells
cells_in values = record {
  place = bytes (column values 2);
  counter = count_in (column values 3);
  writer = count_in (column values 4);
  kind = count_in (column values 5);
  content = bytes (column values 6);
  time = count_in (column values 7);
}

-- what a query shows of an edit
abbrev pub cells_shown : Row → Cells
cells_shown values = record {
  place = bytes (column values 0);
  counter = count_in (column values 1);
  writer = count_in (column values 2);
  kind = count_in (column values 3);
  content = bytes (column values 4);
  time = count_in (column values 5);
}

-- the row of a head
abbrev pub head_row : ℤ → LogHead → Row
head_row id h = Int id ∷ Null ∷ Int (pos h.format) ∷ Int (pos h.writer) ∷ Bytes h.mark ∷ []

abbrev pub head_in : Row → LogHead
head_in values = record { format = count_in (column values 2); writer = count_in (column values 3); mark = bytes (column values 4) }

abbrev pub head_shown : Row → LogHead
head_shown values = record { format = count_in (column values 0); writer = count_in (column values 1); mark = bytes (column values 2) }

-- the row of a peer
abbrev pub peer_row : ℤ → LogPeer → Row
peer_row id p = Int id ∷ Null ∷ Bytes p.mark ∷ Int (pos p.writer) ∷ Int (pos p.seen) ∷ []

abbrev pub peer_in : Row → LogPeer
peer_in values = record { mark = bytes (column values 2); writer = count_in (column values 3); seen = count_in (column values 4) }

abbrev pub peer_shown : Row → LogPeer
peer_shown values = record { mark = bytes (column values 0); writer = count_in (column values 1); seen = count_in (column values 2) }

-- ---- edits that can be spelled

abbrev pub IsContent : Content → Type 0
IsContent Gone = Unit {0}
IsContent (Link target) = IsTrue (is_target target)
IsContent (File bytes) = IsTrue (is_file bytes)

pub record IsEdit (e : Edit) : Type 0 where
  pub scope : IsScope e.place.scope
  pub path : IsPath e.place.path
  pub content : IsContent e.content

-- the cells as they are read
abbrev pub cells_read : EditCells → Cells
cells_read c = record { place = c.place.now; counter = c.counter; writer = c.writer; kind = c.kind; content = c.content.items; time = c.time }
