-- What a replica is: a store, and the number under which its node writes.
-- Source: Lamport 1978, for a counter that is one above all that were seen; the rest is this project's own.
use Rattle.std.proofs.Common.{◌+◌}
use Rattle.replica_store.specs.Prelude.{code_by, Coded, coded_entry, coded_place, coded_ℕ, coded×, Edit, EntryMap, high_of, refl, Version, with_edit, ℕ}
use Rattle.std.specs.FinMap as finmap

pub record Replicated : Type 0 where
  pub store : EntryMap
  pub writer : ℕ

abbrev pub coded_replicated : Coded Replicated
coded_replicated = code_by (EntryMap × ℕ) (coded× (finmap.code coded_place coded_entry) coded_ℕ) (λ r. (r.store, r.writer)) (λ p. record { store = p.0; writer = p.1 }) (λ _. refl)

-- The version of its next edit: its counter is one above all counters that the replica holds.
abbrev pub next_version : Replicated → Version
next_version r = record { counter = high_of r.store + 1; writer = r.writer }

-- The replica with one more edit.
abbrev pub with_put : Replicated → Edit → Replicated
with_put r e = record r { store = with_edit r.store e }
