-- Laws of trees read alone: they give the units and the answers that their stores give for their hosts.
use Rattle.std.proofs.Common.{◌≡◌}
use Rattle.tree_answers.specs.{Alike.{AreSameAnswers, AreSameUnits}, AnswerLaws.{answer_there, trees_are_alike}, Prelude.{Answer, asked, EntryMap, of_fleet, viewer_asked, host_view_of, IsAmong, IsAnswer, IsInUniverse, IsName, IsUnit, List, LoadedUnit, Name, Question, ReadsAlike, ReadsItsTree, ShowsTree, trees_have_the_same_fragments, trees_name_alike, trees_resolve_alike, trees_show_the_same_names, Viewer, without_host}, UnitLaws.{unit_in_tree}}

-- A unit that isn't crossed is the same in the tree.
abbrev pub TreesHaveTheSameUnits : Type 0
TreesHaveTheSameUnits =
    (s t : EntryMap) (viewer : Viewer) → ShowsTree t s viewer.host → (name : Name) → IsName name → (unit : LoadedUnit)
    → IsUnit (host_view_of s viewer) name unit → ReadsAlike (host_view_of s viewer) (host_view_of t (of_fleet viewer.profile)) unit.names
    → (other : LoadedUnit) × IsUnit (host_view_of t (of_fleet viewer.profile)) name other
    × AreSameUnits (host_view_of s viewer) (host_view_of t (of_fleet viewer.profile)) unit other

-- Of the units that are loaded for a host with these names asked for, none is crossed.
abbrev pub NoneIsCrossed : EntryMap → Viewer → List Name → Type 0
NoneIsCrossed s viewer names =
    (name : Name) (unit : LoadedUnit) → IsInUniverse (host_view_of s viewer) names name → IsUnit (host_view_of s viewer) name unit
    → ReadsItsTree s viewer unit.names

-- If none is crossed, each question has the same answer from the tree, asked without a host.
abbrev pub TreesAnswerAlike : Type 0
TreesAnswerAlike =
    (s t : EntryMap) (viewer : Viewer) → ShowsTree t s viewer.host → (extra : List Name) (question : Question) → viewer_asked question ≡ viewer
    → ((n : Name) → IsAmong n (asked extra question) → IsName n) → NoneIsCrossed s viewer (asked extra question)
    → (a : Answer) → IsAnswer s extra question a
    → (b : Answer) × IsAnswer t extra (without_host question) b
    × AreSameAnswers (host_view_of s viewer) (host_view_of t (of_fleet viewer.profile)) a b

pub trees_have_the_same_units : TreesHaveTheSameUnits
trees_have_the_same_units = unit_in_tree trees_resolve_alike trees_name_alike trees_have_the_same_fragments

pub trees_answer_alike : TreesAnswerAlike
trees_answer_alike s t viewer shows extra question is good none a h =
    let alike =
    trees_are_alike trees_resolve_alike trees_name_alike trees_show_the_same_names trees_have_the_same_fragments s t viewer shows in
    answer_there s t viewer alike extra question is good (λ n u r unit. none n u r unit t shows) a h
