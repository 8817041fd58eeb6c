-- What has one answer for each host has one for the host that is named, and so for answers that are never that counters
-- are spent.
use Rattle.std.proofs.Common.{◌≡◌}
use Rattle.script_answers.specs.{Hosts.{ForHost, RefusesHost}, Prelude.{ap, EntryMap, Err, false, host_asked, HostFault, is_spent, List, MatchResult, Ok, Option, Outcome, Result, sym, ℕ, ◌∙◌}}
use Rattle.load_places.specs.declared.hosts.HostFault.TheVariants as host

host_refused_once : (a b : Outcome) (fault : HostFault) → RefusesHost fault a → RefusesHost fault b → a ≡ b
host_refused_once a b host.HostName p q = p ∙ sym q
host_refused_once a b host.Memory p q = absurd p

host_unspent : (outcome : Outcome) (fault : HostFault) → RefusesHost fault outcome → is_spent outcome ≡ false
host_unspent outcome host.HostName p = ap is_spent p
host_unspent outcome host.Memory p = absurd p

module _ (Renders : Option (List ℕ) → EntryMap → Outcome → Type 0) (asked : Option (List ℕ)) (s : EntryMap) where
  pub for_host_once : ((host : Option (List ℕ)) (a b : Outcome) → Renders host s a → Renders host s b → a ≡ b)
      → (a b : Outcome) → ForHost asked Renders s a → ForHost asked Renders s b → a ≡ b
  for_host_once once a b = by (host_asked asked)
    where
      by : (r : Result (Option (List ℕ)) HostFault)
          → MatchResult r (λ host. Renders host s a) (λ fault. RefusesHost fault a)
          → MatchResult r (λ host. Renders host s b) (λ fault. RefusesHost fault b) → a ≡ b
      by (Ok host) p q = once host a b p q
      by (Err fault) p q = host_refused_once a b fault p q

  pub for_host_unspent : ((host : Option (List ℕ)) (outcome : Outcome) → Renders host s outcome
      → is_spent outcome ≡ false) → (outcome : Outcome) → ForHost asked Renders s outcome → is_spent outcome ≡ false
  for_host_unspent unspent outcome = by (host_asked asked)
    where
      by : (r : Result (Option (List ℕ)) HostFault)
          → MatchResult r (λ host. Renders host s outcome) (λ fault. RefusesHost fault outcome)
          → is_spent outcome ≡ false
      by (Ok host) p = unspent host outcome p
      by (Err fault) p = host_unspent outcome fault p
