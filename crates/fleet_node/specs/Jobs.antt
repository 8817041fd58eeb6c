-- Which job the words ask for over an open file.
-- Source: this project's own.
use Rattle.std.specs.Prelude.{◌≡◌, List, None, Ok, Option, option_map, Some, ℕ}
use Rattle.load_places.specs.Hosts.{host_of}
use Rattle.load_places.specs.Texts.{place_of}
use Rattle.fleet_node.specs.declared.requests.Asked.{Asked}
use Rattle.fleet_node.specs.declared.requests.Asked.TheVariants as asked
use Rattle.fleet_node.specs.declared.works.Job.{Job}
use Rattle.fleet_node.specs.declared.works.Job.TheVariants as job
use Rattle.node_commands.specs.declared.works.Work.{Work}
use Rattle.node_commands.specs.declared.works.Work.TheVariants as work

-- the host of a tree: none where none is named
abbrev pub IsHostOf : Option (List ℕ) → Option (List ℕ) → Type 0
IsHostOf None None = Unit {0}
IsHostOf (Some name) (Some host) = host_of name ≡ Ok host
IsHostOf other made = ⊥

-- this is asked for over an open file, and this is the job
abbrev pub IsJobFor : Asked → Job → Type 0
IsJobFor asked.Run job.Script = Unit {0}
IsJobFor asked.Digest (job.Work work.Digest) = Unit {0}
IsJobFor asked.Store (job.Work work.Store) = Unit {0}
IsJobFor asked.Id (job.Work work.Id) = Unit {0}
IsJobFor asked.Delta (job.Work (work.Delta digest)) = Unit {0}
IsJobFor asked.Take (job.Work (work.Take piece)) = Unit {0}
IsJobFor (asked.Exchange calls) (job.Exchange begins) = begins ≡ calls
IsJobFor (asked.History place) (job.Work (work.History named)) = place_of place.now ≡ Ok named
IsJobFor asked.Log (job.Work work.Log) = Unit {0}
IsJobFor asked.Peers (job.Work work.Peers) = Unit {0}
IsJobFor (asked.Content place counter writer) (job.Work (work.Content named version)) =
    (place_of place.now ≡ Ok named) × (version ≡ record { counter = counter; writer = writer })
IsJobFor (asked.Tree folder host) (job.Tree into viewer) = (into ≡ folder) × IsHostOf (option_map (λ h. h.now) host) viewer
IsJobFor other job = ⊥
