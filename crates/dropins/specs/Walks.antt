-- What is taken for a file name, found by walking through levels and folders: definitions for private clauses.
-- Source: this project's own.
use Rattle.std.proofs.Common.{if◌then◌else◌, ◌++◌, ◌∷◌, ◌≡◌}
use Rattle.dropins.specs.Prelude.{[], bytes_eq, Entry, first_level, first_said, HostViewMap, List, None, Option, option_and_then, option_map, option_or, PathParts, shown, Some, view, ℕ}
use Rattle.dropins.specs.{declared.precedence.{Search.{Search}, Take.{Take, TheVariants.{Nothing, Placed}}}, Taken.{as_found, Candidate, Candidate.{At, Mask}, candidate_at}}
use Rattle.std.specs.FinMap as finmap

abbrev pub path : ℕ → List ℕ → List ℕ → PathParts
path r d f = record { rank = r; folder = d; name = f }

-- The entry of a candidate that gives its path, or nothing for a mask.
abbrev pub borrowed : PathParts × Entry → Candidate → Take
borrowed p Mask = Nothing
borrowed p (At q) = Placed p

-- What is taken if an entry comes first.
abbrev pub take_of : Search → PathParts × Entry → Option Take
take_of x p = option_map (borrowed p) (option_and_then (as_found x p.0) (shown p.1))

-- The same if its file name is this one.
abbrev pub said_for : Search → List ℕ → PathParts × Entry → Option Take
said_for x f p = if bytes_eq p.0.name f then take_of x p else None

-- The same for the entry at a path.
abbrev pub take_at : HostViewMap → Search → PathParts → Option Take
take_at s x q = option_and_then (λ e. take_of x (q, e)) (finmap.get (view s) q)

-- What a list of candidates gives for a file name: the first candidate with this file name.
abbrev pub first_for : List (List ℕ × Take) → List ℕ → Option Take
first_for cs f = first_said (λ c. if bytes_eq c.0 f then Some c.1 else None) cs

-- For each file name, `more` is given after what was given before.
abbrev pub Adds : List (List ℕ × Take) → List (List ℕ × Take) → (List ℕ → Option Take) → Type 0
Adds old new more = (f : List ℕ) → first_for new f ≡ option_or (first_for old f) (more f)

-- What is taken for a file name at a level, in the first folder that has something.
abbrev pub took_in : HostViewMap → Search → List (List ℕ) → List ℕ → ℕ → Option Take
took_in s x ds f r = first_said (λ d. take_at s x (path r d f)) ds

-- What is taken for a file name.
abbrev pub took : HostViewMap → Search → List (List ℕ) → List ℕ → Option Take
took s x ds f = first_level (took_in s x ds f)

-- What is taken for a file name in the folders of names, or else in those of types.
abbrev pub took_over : HostViewMap → Search → List (List ℕ) → List (List ℕ) → List ℕ → Option Take
took_over s x ds ts f = option_or (took s x ds f) (took s x ts f)

-- The candidate for a file name at a level, in the first folder that has one.
abbrev pub taken_in : HostViewMap → Search → List (List ℕ) → List ℕ → ℕ → Option Candidate
taken_in s x ds f r = first_said (λ d. candidate_at s x (path r d f)) ds

-- The candidate that is found first for a file name.
abbrev pub taken : HostViewMap → Search → List (List ℕ) → List ℕ → Option Candidate
taken s x ds f = first_level (taken_in s x ds f)

abbrev pub given : Take → List (PathParts × Entry)
given Nothing = []
given (Placed p) = p ∷ []

-- The entries that are taken, without masks.
abbrev pub unmasked : List (List ℕ × Take) → List (PathParts × Entry)
unmasked [] = []
unmasked (t ∷ ts) = given t.1 ++ unmasked ts
