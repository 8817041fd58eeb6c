-- What is true of every script.
use Rattle.std.proofs.Common.{◌+◌, ◌≡◌, ◌≤◌}
use Rattle.fleet_script.specs.{Does.{Does}, Prelude.{begun, blank, Command, edits_of, EntryMap, Err, has_writer, high_of, is_used, IsCountedTo, IsHonest, length, lines_of, List, puts, ScriptWorld, take, VersionsSpent, ℕ}, Scripts.{Answers, AnswersCommand, AnswersPrefix, Run}}

-- a prefix of the answers to a script's first lines is a prefix of the answers to the whole script, if that has answers
abbrev pub PrefixesAreOfTheWhole : Type 0
PrefixesAreOfTheWhole = (script written answers : List ℕ) → AnswersPrefix script written → Answers script answers
    → (n : ℕ) × (written ≡ take n answers)

-- after some lines no counter that was put or that a node holds is greater than the number of these lines
abbrev pub CountersAreLines : Type 0
CountersAreLines = (lines : List (List ℕ)) (written : List ℕ) (world : ScriptWorld) → Run blank lines written world
    → IsCountedTo (length lines) world

-- no command of a script within the limit finds the greatest counter held
abbrev pub VersionsAreNeverSpent : Type 0
VersionsAreNeverSpent = (script : List ℕ) (k : ℕ) (written : List ℕ) (world : ScriptWorld) (command : Command) (new : ScriptWorld)
    → length script ≤ 16777216 → Run blank (take k (lines_of script)) written world → Does world command (Err VersionsSpent) new → ⊥

-- so no line is answered with that refusal, whatever it contains
abbrev pub NoLineIsRefusedForVersions : Type 0
NoLineIsRefusedForVersions = (script : List ℕ) (k : ℕ) (written : List ℕ) (world : ScriptWorld) (line answer : List ℕ) (new : ScriptWorld)
    → length script ≤ 16777216 → Run blank (take k (lines_of script)) written world
    → (answered : AnswersCommand world line answer new) → answered.0 ≡ Err VersionsSpent → ⊥

-- in a script without a store at its begin a writer number is used exactly where a node has it
abbrev pub NodesHaveTheNumbers : Type 0
NodesHaveTheNumbers = (lines : List (List ℕ)) (written : List ℕ) (world : ScriptWorld) → Run blank lines written world
    → (writer : ℕ) → is_used world writer ≡ has_writer world.nodes writer

-- after some lines of a script whose world begins with a store, each version belongs to one edit if it did in the store, and
-- no counter is greater than the store's greatest and the number of these lines
abbrev pub StaysHonest : Type 0
StaysHonest = (name : List ℕ) (writer : ℕ) (s : EntryMap) (lines : List (List ℕ)) (written : List ℕ) (world : ScriptWorld) → Run (begun name writer s) lines written world
    → IsHonest (edits_of s) → IsHonest (puts world)

abbrev pub CountsOn : Type 0
CountsOn = (name : List ℕ) (writer : ℕ) (s : EntryMap) (lines : List (List ℕ)) (written : List ℕ) (world : ScriptWorld) → Run (begun name writer s) lines written world
    → IsCountedTo (high_of s + length lines) world
