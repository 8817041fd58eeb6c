use Rattle.unit_loads.proofs.{Borrowed.{AreHeld, drop_ins_borrowed, link_names_from}, EvaluatesTo.{has_settings}, Prelude.{Entry, EvaluatesTo, HasSettings, IfOk-weaker, List, PathParts, subst, unit_of_parts}}
use Rattle.std.specs.Option.{option_copied}
use Rattle.unit_loads.specs.declared.units.Status.{Status}
use Rattle.unit_loads.proofs.found.UnitParts.of.Goals as goal

pub returns : goal.returns
returns c =
    let s = c.args.view.now in
    let name = c.args.name.now in
    let names = c.args.names.now in
    let fragment = option_copied c.args.fragment in
    let folders = c.in_ok-folders.folders in
    let listed = c.in_ok-folders.ensures.folders in
    let borrowed : List (PathParts × Entry) = c.in_ok-dropins.dropins.items in
    let links = c.in_ok-links.links in
    let held : AreHeld s borrowed = λ p h. ((c.in_ok-dropins.ensures.exact p).0 h).1 in
    let taken = drop_ins_borrowed s names folders listed borrowed c.in_ok-dropins.ensures.ascending c.in_ok-dropins.ensures.exact in
    let linked = link_names_from s names folders listed links c.in_ok-links.ensures.links in
    let same = c.deref.ensures.value in
    record {
      settings =
          IfOk-weaker c.of_files.result (EvaluatesTo s fragment c.deref.result.now name links) (λ found. (status : Status) → HasSettings s fragment (unit_of_parts name names status found))
          (λ found it status. has_settings s fragment borrowed name links found held (subst (λ (ps : List (PathParts × Entry)). EvaluatesTo s fragment ps name links found) same it) names status taken linked)
          c.of_files.ensures.found;
    }
