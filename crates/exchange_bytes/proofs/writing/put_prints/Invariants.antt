use Rattle.std.proofs.Common.{◌++◌, None}
use Rattle.std.specs.Option.{option_copied}
use Rattle.exchange_bytes.specs.Spelling.{print, prints, print_tells, IsPrint, IsBound}
use Rattle.exchange_bytes.proofs.Loops.{AreWritten}
use Rattle.exchange_bytes.proofs.writing.put_prints.Given as goal

-- what was written so far and what the rest is written as
abbrev pub invariant-loop-it : goal.invariant-loop-it
invariant-loop-it l = IsBound (option_copied l.last) × AreWritten print print_tells IsPrint (l.fn.out.items ++ prints l.list) l.out.items (option_copied l.last) None l.list l.it-index
