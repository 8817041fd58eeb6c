-- What the definitions use of std and of the crates below.
pub use Rattle.std.{proofs.{Common.{[], ap, append-nil, append_assoc, arith, Bool, Err, false, length, List, nat_lt, None, Ok, Option, refl, Result, Some, subst, sym, take, true, ℕ, ⊎_elim, ◌∙◌}, lemmas.{Bool.{cases_lt, Decides.{nat_tests}}, List.{take_at}}, Math.Seq.{take-append-add}}, specs.{Io.KnownBytes.{Appends, Consumes, Keeps}, Prelude.{⊤}}}
