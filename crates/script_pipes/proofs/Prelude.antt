-- What the proofs use of std, of the crates below and of the definitions.
pub use Rattle.script_pipes.specs.{Failures.{count_with, FailedSince}, FailuresLaws.{count_with-le, count_with-le_succ, FailedSince-before, FailedSince-count_with}, KnownBytes.{AppendsPrefix}, KnownBytesLaws.{Appends-append, AppendsPrefix-keeps, Consumes-append, Consumes-keeps}}
pub use Rattle.std.{proofs.{Common.{ap, append_assoc, arith, drop, Err, inl, inr, length, length-append, List, Ok, OnErr, Option, Result, subst, sym, take, true, ℕ, ⊎_elim, ◌∙◌}, lemmas.List.{take-append-drop, take_rest}}, specs.Io.KnownBytes.{Appends, Consumes, Keeps}}
