-- A tree has one text.
use Rattle.std.proofs.Common.{◌++◌, ◌∷◌, ◌≡◌, ◌⊎◌}
use Rattle.script_answers.specs.Prelude.{[], ap, codes, EntryMap, inl, inr, IsCrossed, LinkedUnit, List, Name, one_tree, ReadsItsTree, sym, Viewer, ℕ, ◌∙◌}
use Rattle.script_answers.specs.TreeTexts.{AreCrossed, crossed_lines, IsTreeText, tree_lines}

-- what is said of the crossed ones where there is a first unit
abbrev FirstOrNot : EntryMap → Viewer → LinkedUnit → List LinkedUnit → List Name → Type 0
FirstOrNot s viewer one more names =
    (IsCrossed s viewer one.unit.names × (others : List Name) × (names ≡ one.unit.name ∷ others) × AreCrossed s viewer more others)
    ⊎ (ReadsItsTree s viewer one.unit.names × AreCrossed s viewer more names)

-- of some units one list is crossed
pub crossed_once : (s : EntryMap) (viewer : Viewer) (all : List LinkedUnit) (a b : List Name)
    → AreCrossed s viewer all a → AreCrossed s viewer all b → a ≡ b
crossed_once s viewer [] a b p q = p ∙ sym q
crossed_once s viewer (one ∷ more) a b p q = by p q (crossed_once s viewer more)
  where
    by : FirstOrNot s viewer one more a → FirstOrNot s viewer one more b
        → ((c d : List Name) → AreCrossed s viewer more c → AreCrossed s viewer more d → c ≡ d) → a ≡ b
    by (inl c) (inl d) once = c.2 ∙ ap (λ names. one.unit.name ∷ names) (once c.1 d.1 c.3 d.3) ∙ sym d.2
    by (inl c) (inr d) once = absurd (c.0 d.0)
    by (inr c) (inl d) once = absurd (d.0 c.0)
    by (inr c) (inr d) once = once a b c.1 d.1

pub tree_text_once : (s : EntryMap) (viewer : Viewer) (all : List LinkedUnit) (a b : List ℕ) → IsTreeText s viewer all a
    → IsTreeText s viewer all b → a ≡ b
tree_text_once s viewer all a b p q =
    p.text_is
    ∙ (λ i. tree_lines (one_tree s viewer.host p.tree q.tree p.tree_is q.tree_is i) ++ crossed_lines (crossed_once s viewer all p.crossed q.crossed p.crossed_are q.crossed_are i) ++ codes "end\n")
    ∙ sym q.text_is
