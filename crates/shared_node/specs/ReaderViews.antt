-- The invariant of the published copies: their history, and what each seat knows of it.
-- Source: this project's own.
use Rattle.std.proofs.Common.{◌≡◌}
use Rattle.logbook.specs.Pages.{Book}
use lib.ListN.{get_elem?}
use mathlib.Core.{List.{IsPrefix}, Option.{some}}
use Rattle.shared_node.specs.{declared.reader_view.ReaderView.{ReaderView}, Prelude.{[], false, fold, HistoryEvent, List, None, Option, Some, true, ℕ}}

abbrev pub nothing : ReaderView
nothing = record { known = false; number = 0; log_name = 0; cells_name = 0; seen = [] }

-- what a seat knows that has seen this history of this log
abbrev pub reader_view_of : Book → List HistoryEvent → ReaderView
reader_view_of b h = record { known = true; number = b.number; log_name = b.log_name; cells_name = b.cells_name; seen = h }

abbrev pub book_of : ReaderView → Book
book_of v = record { number = v.number; log_name = v.log_name; cells_name = v.cells_name }

-- a seat that knows anything knows the log, and has seen a prefix of the history
abbrev pub Fits : Book → List HistoryEvent → ReaderView → Type 0
Fits b h v = v.known ≡ true → (book_of v ≡ b) × IsPrefix v.seen h

abbrev pub Knows : Book → List HistoryEvent → List ReaderView → Type 0
Knows b h views = (seat : ℕ) (v : ReaderView) → get_elem? views seat ≡ some v → Fits b h v

-- a step publishes this history: it extends what was seen
abbrev pub Shows : ReaderView → Book → List HistoryEvent → ReaderView → Type 0
Shows v b h w = Fits b h v × (w ≡ reader_view_of b h)

-- what the last of these copies has seen, or s if there are none
abbrev pub latest : {P S : Type 0} → (P → S) → S → List P → S
latest seen s published_copies = fold (λ _ p. seen p) s published_copies

-- the same, if one more copy may be waiting
abbrev pub newest : {P S : Type 0} → (P → S) → S → List P → Option P → S
newest seen s published_copies None = latest seen s published_copies
newest seen s published_copies (Some p) = seen p
