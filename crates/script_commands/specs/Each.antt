-- Parsing a list of texts, one by one.
-- Source: this project's own.
use Rattle.std.proofs.Common.{◌++◌, ◌∷◌}
use Rattle.script_commands.specs.Prelude.{[], Err, List, Ok, Result, ℕ}

module _ {A E : Type 0} where
  -- a parsed value before the values parsed from the rest
  abbrev pub values_then : List A → Result (List A) E → Result (List A) E
  values_then values (Ok more) = Ok (values ++ more)
  values_then values (Err fault) = Err fault

  abbrev value_then : Result A E → Result (List A) E → Result (List A) E
  value_then (Err fault) rest = Err fault
  value_then (Ok value) rest = values_then (value ∷ []) rest

  -- the values parsed from each text, or the fault of the first text that can't be parsed
  abbrev pub each_read : (List ℕ → Result A E) → List (List ℕ) → Result (List A) E
  each_read read [] = Ok []
  each_read read (text ∷ texts) = value_then (read text) (each_read read texts)
