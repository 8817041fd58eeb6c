-- The history of a place, and of all.
-- Source: this project's own.
use Rattle.std.specs.Prelude.{filter, List, map}
use Rattle.std.specs.Ordering.{eq_by_cmp}
use Rattle.load_places.specs.Places.{place_cmp, PlaceParts}
use Rattle.edit_log.specs.declared.logs.LogRow.{LogRow}
use Rattle.durable_node.specs.declared.{histories.Logged.{Logged}, logs.LoggedAt.{LoggedAt}}

abbrev pub logged_of : LogRow → Logged
logged_of r = record { version = r.edit.version; content = r.edit.content; time = r.time }

-- the rows of a place, without the place
abbrev pub logged_at : PlaceParts → List LogRow → List Logged
logged_at place rows = map logged_of (filter (λ r. eq_by_cmp place_cmp r.edit.place place) rows)

abbrev pub logged_with : LogRow → LoggedAt
logged_with r = record { place = r.edit.place; logged = logged_of r }

-- all rows, each with its place
abbrev pub logged_all : List LogRow → List LoggedAt
logged_all rows = map logged_with rows
