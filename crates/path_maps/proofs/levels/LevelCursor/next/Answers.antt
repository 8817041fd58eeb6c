use Rattle.std.proofs.Common.{◌++◌}
use Rattle.path_maps.proofs.{Prelude.{ap, flat_map, IsReadable, subst, sym, ◌∙◌}, Readings.{read_later, readable_rest}}
use Rattle.path_maps.proofs.levels.LevelCursor.next.Goals as goal

pub invariant_of-self-2 : goal.invariant_of-self-2
invariant_of-self-2 g c =
    readable_rest g.R.Reading.before (g.R.Reading.can c.self.inside.reading) (g.R.Reading.can c.read.new.self) c.read.ensures.can _
    (subst (IsReadable g.R.Reading.before (g.R.Reading.can c.self.inside.reading)) c.in_ok-item.ensures.first c.self.invariant).1.1

pub returns : goal.returns
returns g c =
    let readable = subst (IsReadable g.R.Reading.before (g.R.Reading.can c.self.inside.reading)) c.in_ok-item.ensures.first c.self.invariant in
    let rest = read_later g.R.Reading.before c.in_ok-item.item (g.R.Reading.part c.self.inside.reading) (g.R.Reading.part c.read.new.self) c.read.ensures.later (g.S.Cursor.left c.next.new.self) readable.1.0 in
    record {
      first = sym c.self.view_is ∙ ap (flat_map (g.R.Reading.part c.self.inside.reading)) c.in_ok-item.ensures.first ∙ (λ i. c.read.ensures.part i ++ rest i);
    }
