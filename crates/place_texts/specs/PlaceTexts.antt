-- What is visible at a place, and how it is written.
-- Source: files as `systemctl cat` shows them (systemctl(1)); the texts of links and of refusals are this project's own.
use Rattle.std.proofs.Common.{if◌then◌else◌, ◌++◌, ◌≡◌}
use Rattle.place_texts.specs.Prelude.{[], codes, Component, Content, Depth, Directory, ends_with, EntryMap, Err, File, Gone, HostName, Link, List, MatchOption, MatchResult, nat_eq, NotVisible, Ok, Outcome, place_of, place_text, PlaceFault, PlaceParts, visible_at, ℕ}
use Rattle.load_places.specs.declared.places.PlaceFault.TheVariants as place

-- a line feed, unless the last byte is one
abbrev pub line_end : List ℕ → List ℕ
line_end bytes = if ends_with nat_eq bytes (codes "\n") then [] else codes "\n"

-- a file: its place after `# `, and its bytes, with a line feed added if the last byte is none
abbrev pub file_lines : PlaceParts → List ℕ → List ℕ
file_lines place bytes = codes "# " ++ place_text place ++ codes "\n" ++ bytes ++ line_end bytes

-- what stands at a place: a file as `cat` writes it, or the place and the target of a link; nothing of a removal
abbrev pub shown_lines : PlaceParts → Content → List ℕ
shown_lines p Gone = []
shown_lines p (Link target) = place_text p ++ codes " link " ++ target ++ codes "\n"
shown_lines p (File bytes) = file_lines p bytes

-- the whole answer for what is visible at a place
abbrev pub shown_text : PlaceParts → Content → List ℕ
shown_text p content = shown_lines p content ++ codes "end\n"

-- a text that writes no place is refused for the first thing wrong with it
abbrev pub RefusesPlace : PlaceFault → Outcome → Type 0
RefusesPlace place.HostName outcome = outcome ≡ Err HostName
RefusesPlace place.Directory outcome = outcome ≡ Err Directory
RefusesPlace place.Depth outcome = outcome ≡ Err Depth
RefusesPlace place.Component outcome = outcome ≡ Err Component
RefusesPlace place.Memory outcome = ⊥

-- what is visible at a place is written; a place at which nothing is visible is refused
abbrev pub RendersVisible : EntryMap → PlaceParts → Outcome → Type 0
RendersVisible s p outcome = MatchOption (visible_at s p) (outcome ≡ Err NotVisible) (λ content. outcome ≡ Ok (shown_text p content))

-- the same for the place that a text writes, or why it writes none
abbrev pub RendersText : List ℕ → EntryMap → Outcome → Type 0
RendersText text s outcome = MatchResult (place_of text) (λ p. RendersVisible s p outcome) (λ fault. RefusesPlace fault outcome)
