-- Prefixes of what is written.
use Rattle.std.proofs.Common.{◌≡◌, arith, length, List, Option, subst, sym, ℕ}
use Rattle.std.proofs.lemmas.List.{take_all}
use Rattle.std.specs.Io.KnownBytes.{Appends}
use Rattle.script_pipes.specs.KnownBytes.{AppendsPrefix}

-- the whole is a prefix of itself
pub all_is_prefix : (old new : Option (List ℕ)) (bytes : List ℕ) → Appends old new bytes → AppendsPrefix old new bytes
all_is_prefix old new bytes all = (length bytes, subst (λ v. Appends old new v) (sym (take_all (length bytes) bytes (omega arith))) all)
