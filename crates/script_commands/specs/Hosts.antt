-- The node and the host in one word, NODE or NODE@HOST, and how the host is parsed.
-- Source: this project's own.
use Rattle.std.proofs.Common.{if◌then◌else◌, ◌++◌, ◌==◌, ◌∷◌, ◌≡◌, ◌⊎◌}
use Rattle.script_commands.specs.Prelude.{after_first, before_first, Bool, Err, host_of, HostFault, List, list_any, None, Ok, Option, Result, Some, ℕ}
use Rattle.script_commands.specs.{declared.commands.Fault.{Fault, TheVariants.{Memory}}, Faults.{fault_of_host}}

abbrev pub is_at : ℕ → Bool
is_at b = b == 64

-- the node: the part before the first at sign, or the whole word if it has none
abbrev pub node_in : List ℕ → List ℕ
node_in word = before_first is_at word

-- the host, not parsed: the part after the first at sign, if any; it may be empty, and may have more at signs
abbrev pub host_in : List ℕ → Option (List ℕ)
host_in word = if list_any is_at word then Some (after_first is_at word) else None

-- a node written alone or with a host
abbrev pub node_word : List ℕ → Option (List ℕ) → List ℕ
node_word node None = node
node_word node (Some host) = node ++ 64 ∷ host

abbrev pub as_asked : Result (List ℕ) HostFault → Result (Option (List ℕ)) HostFault
as_asked (Ok host) = Ok (Some host)
as_asked (Err fault) = Err fault

-- the host that is asked for, if any, or the fault of bytes that aren't a host
abbrev pub host_asked : Option (List ℕ) → Result (Option (List ℕ)) HostFault
host_asked None = Ok None
host_asked (Some name) = as_asked (host_of name)

-- the fault of bytes that aren't a host, or `Memory` for a valid host
abbrev pub IsHostFault : Result (Option (List ℕ)) HostFault → Fault → Type 0
IsHostFault asked fault = ((host : List ℕ) × (asked ≡ Ok (Some host)) × (fault ≡ Memory)) ⊎ ((f : HostFault) × (asked ≡ Err f) × (fault ≡ fault_of_host f))
