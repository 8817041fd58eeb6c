use Rattle.std.proofs.Common.{◌≡◌}
use Rattle.path_maps.proofs.Prelude.{ap, Entry, filter, IfOk-weaker, is_in, is_within, List, map, PathMap, PathParts, placed, places_of_folder, ◌∙◌}
use Rattle.std.specs.FinMap as finmap
use Rattle.path_maps.proofs.stores.Store.folder.Goals as goal

pub returns : goal.returns
returns c =
    let scope = c.args.scope.now in
    let rank = c.args.rank in
    let folder = c.args.folder.now in
    let view = c.entries_in-entries.ensures.entries ∙ ap (λ (v : PathMap). filter (λ p. is_in rank folder p.0) (finmap.entries v)) c.held_in.ensures.view in
    record {
      places = IfOk-weaker c.places_in.result (λ places. places.items ≡ map (λ p. p.0) (placed scope c.entries_in-entries.result)) (λ places. places.items ≡ filter (is_within scope rank folder) (finmap.keys c.args.self.now))
          (λ places e. e ∙ ap (λ (es : List (PathParts × Entry)). map (λ p. p.0) (placed scope es)) view ∙ places_of_folder scope rank folder c.args.self.now)
          c.places_in.ensures.places;
    }
