-- Units and answers that are the same but for the places that they tell.
-- Source: this project's own.
use Rattle.std.proofs.Common.{◌∷◌, ◌≡◌, ◌⊎◌}
use Rattle.tree_answers.specs.Prelude.{[], Answer, content_at, file_name, Fleet, HostViewMap, inl, inr, LinkedUnit, List, LoadedUnit, map, Status, UnitNote, within, ℕ}
use Rattle.section_reader.specs.declared.assignments.Note.{Note}
use Rattle.setting_rules.specs.declared.notes.SettingNote.{SettingNote}
use Rattle.unit_loads.specs.declared.units.Status.TheVariants as status
use Rattle.unit_loads.specs.declared.units.UnitNote.TheVariants as note
use Rattle.fleet_answers.specs.declared.questions.Answer.TheVariants as answer

-- The same status, with the fragment at the fleet's place of the same path.
abbrev pub status_at_fleet : Status → Status
status_at_fleet (status.Loaded p) = status.Loaded (within Fleet p.path)
status_at_fleet status.BuiltIn = status.BuiltIn
status_at_fleet status.NotFound = status.NotFound
status_at_fleet status.Masked = status.Masked
status_at_fleet (status.Bad cause) = status.Bad cause

-- What a note says, with just the file name of its place.
abbrev pub said : UnitNote → (List ℕ × Note) ⊎ SettingNote
said (note.File p n) = inl (file_name p, n)
said (note.Setting n) = inr n

-- The unit `u` of the view `v` and the unit `t` of the view `w` are the same but for places. Their drop-ins have the same
-- file names and contents in the same order; so have their notes on files.
pub record AreSameUnits (v w : HostViewMap) (u t : LoadedUnit) : Type 0 where
  pub name_is : t.name ≡ u.name
  pub names_are : t.names ≡ u.names
  pub status_is : t.status ≡ status_at_fleet u.status
  pub files_are : map file_name t.dropins ≡ map file_name u.dropins
  pub contents_are : map (content_at w) t.dropins ≡ map (content_at v) u.dropins
  pub values_are : t.values ≡ u.values
  pub deps_are : t.deps ≡ u.deps
  pub notes_are : map said t.notes ≡ map said u.notes
  pub manual_is : t.manual ≡ u.manual
  pub defaults_are : t.has_defaults ≡ u.has_defaults
  pub mounts_are : t.mounts ≡ u.mounts

module _ (v w : HostViewMap) where
  -- The same units, with the same edges.
  pub record AreSameLinked (u t : LinkedUnit) : Type 0 where
    pub unit_is : AreSameUnits v w u.unit t.unit
    pub edges_are : t.edges ≡ u.edges

  -- The same units in the same order.
  abbrev pub AreAllSame : List LinkedUnit → List LinkedUnit → Type 0
  AreAllSame [] [] = Unit {0}
  AreAllSame [] (t ∷ ts) = ⊥
  AreAllSame (u ∷ us) [] = ⊥
  AreAllSame (u ∷ us) (t ∷ ts) = AreSameLinked u t × AreAllSame us ts

  -- The same answer, with the same units.
  abbrev pub AreSameAnswers : Answer → Answer → Type 0
  AreSameAnswers (answer.Unit u) b = (t : LinkedUnit) × AreSameLinked u t × (b ≡ answer.Unit t)
  AreSameAnswers (answer.Units us) b = (ts : List LinkedUnit) × AreAllSame us ts × (b ≡ answer.Units ts)
  AreSameAnswers a b = b ≡ a
