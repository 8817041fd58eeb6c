-- The exit status of the program.
-- Source: this project's own.
use Rattle.fleet_shell.specs.Prelude.{Err, Memory, Ok, Read, Result, ShellFault, Write, ℕ}

-- 0 for a script that was answered to its end, 1 if a read or a write failed, 2 if memory ran out
abbrev pub status_of : Result (Unit {0}) ShellFault → ℕ
status_of (Ok u) = 0
status_of (Err Read) = 1
status_of (Err Write) = 1
status_of (Err Memory) = 2
