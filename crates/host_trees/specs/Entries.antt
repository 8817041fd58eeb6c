-- Entries by file name and content: definitions for private clauses.
-- Source: this project's own.
use Rattle.std.proofs.Common.{◌↔◌}
use Rattle.host_trees.specs.{Prelude.{Content, Entry, Folder, HostViewMap, List, Name, PathParts, ℕ}, Reads.{HasDropInOf, HasLinkOf}}

-- The file name and the content of an entry.
abbrev pub said : PathParts × Entry → List ℕ × Content
said e = (e.0.name, e.1.content)

-- In two views a unit with these folders has the same drop-ins, or the same links of one sort.
abbrev pub SameDropIns : HostViewMap → HostViewMap → List Name → Type 0
SameDropIns v w fs = (file : List ℕ) (c : Content) → HasDropInOf v fs file c ↔ HasDropInOf w fs file c

abbrev pub SameLinks : HostViewMap → HostViewMap → List Name → Folder → Type 0
SameLinks v w fs folder = (file : List ℕ) (c : Content) → HasLinkOf v fs folder file c ↔ HasLinkOf w fs folder file c
