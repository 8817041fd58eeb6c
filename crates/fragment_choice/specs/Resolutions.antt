-- The chain of a unit's aliases, and its end.
-- Source (aliases): systemd.unit(5), "Description"; that eight are followed is this project's own.
use Rattle.std.proofs.Common.{◌≡◌, ◌≤◌}
use Rattle.fragment_choice.specs.Prelude.{HostViewMap, Name, suc, zero, ℕ}
use Rattle.fragment_choice.specs.{Choices.{choice}, declared.{choices.{Cause.TheVariants.{Loop}, Choice.{Choice, TheVariants.{Alias, Bad, Fragment, Masked, NotFound}}}, resolutions.Resolution.{Resolution}}}

-- `n` is an alias of `m`.
abbrev pub Leads : HostViewMap → Name → Name → Type 0
Leads s n m = choice s n ≡ Alias m

-- A chain of this many aliases leads from `n` to `u`.
pub data Chain (s : HostViewMap) : ℕ → Name → Name → Type 0 where
  here : (n : Name) → Chain s 0 n n
  step : (n m u : Name) (k : ℕ) → Leads s n m → Chain s k m u → Chain s (suc k) n u

-- The choice is no alias.
abbrev pub IsEnd : Choice → Type 0
IsEnd NotFound = Unit {0}
IsEnd Masked = Unit {0}
IsEnd (Fragment p) = Unit {0}
IsEnd (Alias m) = ⊥
IsEnd (Bad cause) = Unit {0}

-- What `n` resolves to: the end of a chain of at most 8 aliases, or `n` itself with `Loop` if more than 8 follow.
pub data Resolves (s : HostViewMap) (n : Name) : Resolution → Type 0 where
  ends_at : (k : ℕ) (u : Name) → k ≤ 8 → Chain s k n u → IsEnd (choice s u) → Resolves s n (record { main = u; choice = choice s u })
  goes_on : (u : Name) → Chain s 9 n u → Resolves s n (record { main = n; choice = Bad Loop })

-- What a name with this choice resolves to; for an alias, what `more` gives.
abbrev pub ended_or : (Name → Resolution) → Name → Choice → Resolution
ended_or more n NotFound = record { main = n; choice = NotFound }
ended_or more n Masked = record { main = n; choice = Masked }
ended_or more n (Fragment p) = record { main = n; choice = Fragment p }
ended_or more n (Alias m) = more m
ended_or more n (Bad cause) = record { main = n; choice = Bad cause }

-- The same by following aliases: at most this many names are looked up, from `m` on. The result is `n` with `Loop` if
-- the last of them is still an alias.
unfoldable pub follow : HostViewMap → ℕ → Name → Name → Resolution
follow s zero n m = record { main = n; choice = Bad Loop }
follow s (suc k) n m = ended_or (follow s k n) m (choice s m)

-- Nine names are looked up: `n`, and after it at most 8 aliases.
abbrev pub resolution : HostViewMap → Name → Resolution
resolution s n = follow s 9 n n

abbrev pub main : HostViewMap → Name → Name
main s n = (resolution s n).main
