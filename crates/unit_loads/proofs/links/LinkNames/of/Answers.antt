use Rattle.unit_loads.proofs.Prelude.{AreLinksFrom, List, Name, Requires, subst, sym, Wants}
use Rattle.unit_loads.proofs.links.LinkNames.of.Goals as goal

pub returns : goal.returns
returns c =
    let s = c.args.view.now in
    let folders = c.args.folders.now in
    record {
      links = record {
        wanted_are = subst (λ (l : List Name). AreLinksFrom s folders Wants l) (sym c.from_vec.ensures.elements) (record { ascending = c.in_ok-wanted.ensures.ascending; exact = c.in_ok-wanted.ensures.exact });
        required_are = subst (λ (l : List Name). AreLinksFrom s folders Requires l) (sym c.from_vec-2.ensures.elements) (record { ascending = c.in_ok-required.ensures.ascending; exact = c.in_ok-required.ensures.exact });
      };
    }
