use Rattle.chunked_pairs.proofs.{Passes.{key_at}, Prelude.{ap, find_at, find_gap, Some, sym, ◌∙◌}}
use Rattle.chunked_pairs.proofs.searches.find_by.Goals as goal

pub returns-in-Ok : goal.returns-in-Ok
returns-in-Ok g c =
    let k = g.S.Sought.key c.args.sought.now in
    let pair = c.index-pairs-at.result in
    record {
      found = (
        sym (g.met.K.Key.exact k pair.0 (rw (sym c.index-pairs-at.is) at (key_at g.K.Ord.cmp k c.args.pairs.now c.in-Ok.at pair c.in-Ok.ensures.found))),
        find_at g.K.Ord.cmp k c.args.pairs.now c.in-Ok.at pair c.in-Ok.ensures.found ∙ ap (λ e. Some e.1) (sym c.index-pairs-at.is),
      );
    }

pub returns-in-Err : goal.returns-in-Err
returns-in-Err g c = record {
  found = find_gap g.K.Ord.cmp (g.S.Sought.key c.args.sought.now) g.met.K.Ord.total c.args.pairs.now c.in-Err.field-0 c.requires.sorted c.in-Err.ensures.absent;
}
