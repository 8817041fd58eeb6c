-- Where what is loaded for a name is held: definitions for private clauses.
-- Source: this project's own.
use Rattle.parallel_load.specs.{declared.{kept.LoadHeld.{LoadHeld}, loaded.NameLoad.{NameLoad, TheVariants.{Alias as OfAlias, Unit as OfUnit}}}, Loads.{with_lists}, Prelude.{Name, None, Option, Some}}
use Rattle.parallel_load.specs.declared.kept.LoadHeld.TheVariants as held

-- the value that is held
abbrev pub load_held : LoadHeld → NameLoad
load_held (held.Fresh unit) = OfUnit unit.value
load_held (held.Alias of) = OfAlias of
load_held (held.Unit unit lists) = with_lists (OfUnit unit) lists

-- the main name, for an alias
abbrev pub alias_in : NameLoad → Option Name
alias_in (OfUnit unit) = None
alias_in (OfAlias of) = Some of
