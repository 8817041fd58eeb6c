-- Answers for the host that a word names, or without one.
-- Source: this project's own.
use Rattle.std.proofs.Common.{◌≡◌}
use Rattle.script_answers.specs.Prelude.{EntryMap, Err, Files, host_asked, HostFault, HostName, List, MatchResult, Option, Outcome, Profile, Viewer, ℕ}
use Rattle.load_places.specs.declared.hosts.HostFault.TheVariants as host

-- Who asks about units in a script: this host, or none, by this profile.
abbrev pub by_profile : Profile → Option (List ℕ) → Viewer
by_profile profile host = record { host = host; profile = profile }

-- Who asks for the files of a unit: what is seen is the same by each profile.
abbrev pub by_files : Option (List ℕ) → Viewer
by_files host = by_profile Files host

-- bytes that name no host are refused
abbrev pub RefusesHost : HostFault → Outcome → Type 0
RefusesHost host.HostName outcome = outcome ≡ Err HostName
RefusesHost host.Memory outcome = ⊥

-- the answer for each host is given for the one that is named, or the refusal that these bytes name none
abbrev pub ForHost : Option (List ℕ) → (Option (List ℕ) → EntryMap → Outcome → Type 0) → EntryMap → Outcome → Type 0
ForHost asked Renders s outcome = MatchResult (host_asked asked) (λ host. Renders host s outcome) (λ fault. RefusesHost fault outcome)
