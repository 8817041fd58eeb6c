-- How answers are written.
-- Source: this project's own.
use Rattle.std.proofs.Common.{◌++◌}
use Rattle.script_answers.specs.Prelude.{[], Arguments, Bad, BadByte, BadLink, BadText, codes, Component, Conflict, Content, Cycle, decimal, Depth, Directory, EmptyPrefix, Entry, EntryMap, Err, File, FileTooLarge, flat_map, Gone, HostName, Kind, Length, length, LineRefusal, LineTooLong, Link, List, ManualStart, Masked, Name, NodeTaken, NotFound, Nothing, NotVisible, Ok, Outcome, place_text, PlaceParts, Requisite, Seats, Template, TooManyUnits, UnknownCommand, UnknownNode, UnknownPiece, Version, VersionsSpent, Workers, WriterTaken, ℕ}
use Rattle.std.specs.FinMap as finmap

-- the counter, a dot, the writer
abbrev pub version_text : Version → List ℕ
version_text v = decimal v.counter ++ codes "." ++ decimal v.writer

abbrev pub ok_line : Version → List ℕ
ok_line v = codes "ok " ++ version_text v ++ codes "\n"

abbrev pub changed_line : ℕ → List ℕ
changed_line n = codes "changed " ++ decimal n ++ codes "\n"

abbrev pub entries_line : ℕ → List ℕ
entries_line n = codes "entries " ++ decimal n ++ codes "\n"

abbrev pub crowd_line : ℕ → ℕ → List ℕ
crowd_line takes paths = codes "takes " ++ decimal takes ++ codes " paths " ++ decimal paths ++ codes "\n"

abbrev pub content_text : Content → List ℕ
content_text Gone = codes "gone"
content_text (Link target) = codes "link " ++ target
content_text (File bytes) = codes "file " ++ decimal (length bytes)

-- the place, the version, the content
abbrev pub entry_line : PlaceParts × Entry → List ℕ
entry_line p = place_text p.0 ++ codes " " ++ version_text p.1.version ++ codes " " ++ content_text p.1.content ++ codes "\n"

-- all entries of a store, in the order of their places
abbrev pub files_text : EntryMap → List ℕ
files_text s = flat_map entry_line (finmap.entries s) ++ codes "end\n"

-- the code and the name of a refusal
abbrev pub refusal_name : LineRefusal → List ℕ
refusal_name UnknownCommand = codes "X1 UnknownCommand"
refusal_name Arguments = codes "X2 Arguments"
refusal_name UnknownNode = codes "X3 UnknownNode"
refusal_name BadText = codes "X4 BadText"
refusal_name UnknownPiece = codes "X5 UnknownPiece"
refusal_name NodeTaken = codes "X6 NodeTaken"
refusal_name WriterTaken = codes "X7 WriterTaken"
refusal_name LineTooLong = codes "X8 LineTooLong"
refusal_name HostName = codes "H1 HostName"
refusal_name Directory = codes "F1 Directory"
refusal_name Depth = codes "F2 Depth"
refusal_name Component = codes "F3 Component"
refusal_name FileTooLarge = codes "C1 FileTooLarge"
refusal_name BadLink = codes "C2 BadLink"
refusal_name VersionsSpent = codes "E1 VersionsSpent"
refusal_name Nothing = codes "E2 Nothing"
refusal_name NotVisible = codes "E3 NotVisible"
refusal_name Length = codes "N1 Length"
refusal_name Kind = codes "N2 Kind"
refusal_name EmptyPrefix = codes "N3 EmptyPrefix"
refusal_name (BadByte place) = codes "N4 BadByte"
refusal_name (NotFound unit) = codes "P2 NotFound"
refusal_name (Masked unit) = codes "P3 Masked"
refusal_name (Bad unit) = codes "P4 Bad"
refusal_name Template = codes "P1 Template"
refusal_name Workers = codes "L1 Workers"
refusal_name TooManyUnits = codes "L2 TooManyUnits"
refusal_name ManualStart = codes "P5 ManualStart"
refusal_name (Requisite unit needs) = codes "P6 Requisite"
refusal_name (Conflict unit conflicting_unit) = codes "P7 Conflict"
refusal_name (Cycle units) = codes "P8 Cycle"
refusal_name Seats = codes "A1 Seats"

-- a name after a space
abbrev pub spaced_name : Name → List ℕ
spaced_name name = codes " " ++ name

-- names, each after a space
abbrev pub spaced_names : List Name → List ℕ
spaced_names names = flat_map spaced_name names

-- the values of a refusal, each after a space
abbrev pub refusal_values : LineRefusal → List ℕ
refusal_values (BadByte place) = codes " " ++ decimal place
refusal_values (NotFound unit) = spaced_name unit
refusal_values (Masked unit) = spaced_name unit
refusal_values (Bad unit) = spaced_name unit
refusal_values (Requisite unit needs) = spaced_name unit ++ spaced_name needs
refusal_values (Conflict unit conflicting_unit) = spaced_name unit ++ spaced_name conflicting_unit
refusal_values (Cycle units) = spaced_names units
refusal_values other = []

abbrev pub error_line : LineRefusal → List ℕ
error_line refusal = codes "error: " ++ refusal_name refusal ++ refusal_values refusal ++ codes "\n"

-- how an outcome is written
abbrev pub outcome_text : Outcome → List ℕ
outcome_text (Ok words) = words
outcome_text (Err refusal) = error_line refusal
