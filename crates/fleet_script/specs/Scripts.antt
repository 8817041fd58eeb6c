-- The meaning of scripts.
-- Source: this project's own.
use Rattle.std.proofs.Common.{◌++◌, ◌∷◌, ◌≡◌}
use Rattle.fleet_script.specs.Prelude.{[], blank, command_of, error_line, is_passed_over, length, lines_of, LineTooLong, List, MatchBool, MatchResult, nat_lt, Outcome, outcome_text, ScriptWorld, take, ℕ}
use Rattle.fleet_script.specs.Does.{Does, Refuses}

-- this is the answer to the line, and the world stays as it was
pub record Says (words : List ℕ) (old : ScriptWorld) (answer : List ℕ) (new : ScriptWorld) : Type 0 where
  pub answer_is : answer ≡ words
  pub world_is : new ≡ old

-- the answer to a command is its outcome, written out
abbrev pub AnswersCommand : ScriptWorld → List ℕ → List ℕ → ScriptWorld → Type 0
AnswersCommand old line answer new = (outcome : Outcome) × (answer ≡ outcome_text outcome)
    × MatchResult (command_of line) (λ command. Does old command outcome new) (λ refusal. Refuses old refusal outcome new)

-- a line that is too long is refused, whatever it contains; a line that is skipped has no answer
abbrev pub AnswersLine : ScriptWorld → List ℕ → List ℕ → ScriptWorld → Type 0
AnswersLine old line answer new =
    MatchBool (nat_lt 300000 (length line)) (Says (error_line LineTooLong) old answer new)
    (MatchBool (is_passed_over line) (Says [] old answer new) (AnswersCommand old line answer new))

-- the lines, one after another, have these answers
abbrev pub Run : ScriptWorld → List (List ℕ) → List ℕ → ScriptWorld → Type 0
Run old [] written new = (written ≡ []) × (new ≡ old)
Run old (line ∷ lines) written new =
    (answer : List ℕ) × (later : List ℕ) × (mid : ScriptWorld) × (written ≡ answer ++ later)
    × AnswersLine old line answer mid × Run mid lines later new

-- these are the answers to the script
abbrev pub Answers : List ℕ → List ℕ → Type 0
Answers script written = (end : ScriptWorld) × Run blank (lines_of script) written end

-- these bytes are a prefix of the answers to the script's first lines
abbrev pub AnswersPrefix : List ℕ → List ℕ → Type 0
AnswersPrefix script written = (k : ℕ) × (n : ℕ) × (answers : List ℕ) × (end : ScriptWorld) × Run blank (take k (lines_of script)) answers end × (written ≡ take n answers)
