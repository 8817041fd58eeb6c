-- One line at a time: from the outcome of its command to its answer.
use Rattle.std.proofs.Common.{◌≡◌, ◌≤◌}
use Rattle.fleet_script.proofs.Prelude.{AnswersLine, arith, Command, command_of, Continues, Does, false, Goes, is_passed_over, Keeps, length, LineRefusal, List, MatchResult, nat_lt, nat_tests, Ok, Outcome, outcome_text, Refuses, Result, ScriptWorld, subst, ℕ}
use Rattle.fleet_script.proofs.Goes.{match_false, Rendered, weaker}

-- the outcome of a line's command, whatever the command is
abbrev pub IsDone : List ℕ → ScriptWorld → Outcome → ScriptWorld → Type 0
IsDone line old outcome new = MatchResult (command_of line) (λ command. Does old command outcome new) (λ refusal. Refuses old refusal outcome new)

pub executed : (shell now : Keeps) (line : List ℕ) (command : Command) (r : Rendered) → Ok command ≡ command_of line
    → Goes shell now (λ old outcome new. Does old command outcome new) r → Goes shell now (λ old outcome new. IsDone line old outcome new) r
executed shell now line command r is = weaker shell now r _ _ (λ old h outcome new d. subst (λ (m : Result Command LineRefusal). MatchResult m (λ command. Does old command outcome new) (λ refusal. Refuses old refusal outcome new)) is d)

short : (line : List ℕ) → length line ≤ 300000 → nat_lt 300000 (length line) ≡ false
short line lt = grind (arith, nat_tests)

pub answered_line : (shell now : Keeps) (line answer : List ℕ) (outcome : Outcome) → length line ≤ 300000 → is_passed_over line ≡ false → answer ≡ outcome_text outcome
    → Continues shell now (λ old new. IsDone line old outcome new)
    → Continues shell now (λ old new. AnswersLine old line answer new)
answered_line shell now line answer outcome lt counts is go world h =
    let next = go world h in
    (next.0, next.1, match_false _ _ _ (short line lt) (match_false _ _ _ counts (outcome, is, next.2)))
