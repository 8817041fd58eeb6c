-- The tree of a host and the units that read otherwise from it: how they are written.
-- Source: this project's own.
use Rattle.std.proofs.Common.{◌++◌, ◌∷◌, ◌≡◌, ◌⊎◌}
use Rattle.script_answers.specs.Prelude.{[], codes, Content, EntryMap, flat_map, Fleet, IsCrossed, IsTree, LinkedUnit, List, Name, PathParts, ReadsItsTree, Viewer, within, ℕ}
use Rattle.place_texts.specs.PlaceTexts.{shown_lines}

-- the files and links of a tree, each as what stands at the fleet's place of its path
abbrev pub standing_lines : PathParts × Content → List ℕ
standing_lines e = shown_lines (within Fleet e.0) e.1

abbrev pub tree_lines : List (PathParts × Content) → List ℕ
tree_lines tree = flat_map standing_lines tree

-- a line for each unit that is crossed
abbrev pub crossed_line : Name → List ℕ
crossed_line name = codes "crossed " ++ name ++ codes "\n"

abbrev pub crossed_lines : List Name → List ℕ
crossed_lines names = flat_map crossed_line names

-- Of these units of a host's load, these are crossed, in the same order: each unit in turn is one of them and crossed, or
-- reads its tree.
abbrev pub AreCrossed : EntryMap → Viewer → List LinkedUnit → List Name → Type 0
AreCrossed s viewer [] crossed = crossed ≡ []
AreCrossed s viewer (one ∷ more) crossed =
    (IsCrossed s viewer one.unit.names × (others : List Name) × (crossed ≡ one.unit.name ∷ others) × AreCrossed s viewer more others)
    ⊎ (ReadsItsTree s viewer one.unit.names × AreCrossed s viewer more crossed)

-- The text is the tree of the host, and a line for each of these units that is crossed.
pub record IsTreeText (s : EntryMap) (viewer : Viewer) (all : List LinkedUnit) (text : List ℕ) : Type 0 where
  pub tree : List (PathParts × Content)
  pub tree_is : IsTree s viewer.host tree
  pub crossed : List Name
  pub crossed_are : AreCrossed s viewer all crossed
  pub text_is : text ≡ tree_lines tree ++ crossed_lines crossed ++ codes "end\n"

-- Lines for just the crossed ones of these units follow what there was.
pub record AppendsCrossed (s : EntryMap) (viewer : Viewer) (all : List LinkedUnit) (old new : List ℕ) : Type 0 where
  pub crossed : List Name
  pub crossed_are : AreCrossed s viewer all crossed
  pub appended : new ≡ old ++ crossed_lines crossed
