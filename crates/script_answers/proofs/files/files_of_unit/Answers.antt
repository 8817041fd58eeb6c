use Rattle.std.proofs.Common.{◌↔◌, ◌≡◌}
use Rattle.script_answers.proofs.Prelude.{ap, AreNames, borrowed_are_drop_ins, borrowed_text, Contains, entry_place, host_view_of, HostViewMap, IfOk-weaker, IsCat, IsDropInAtOf, IsFileAt, List, map, Name, subst, sym, ◌∙◌}
use Rattle.script_answers.proofs.Borrowed.{drop_ins_borrowed, text_borrowed}
use Rattle.script_answers.proofs.files.files_of_unit.Goals as goal

pub files_text-requires-clause-file : goal.files_text-requires-clause-file
files_text-requires-clause-file c = subst (λ (v : HostViewMap). IsFileAt v c.args.fragment.now) (sym c.host_view-view.ensures.view) c.requires.file

pub files_text-requires-clause-files : goal.files_text-requires-clause-files
files_text-requires-clause-files c =
    drop_ins_borrowed c.host_view-view.result c.deref.result.now c.in_ok-folders.folders c.in_ok-dropins.dropins.items c.deref-2.result.now c.in_ok-folders.ensures.folders c.in_ok-dropins.ensures.exact c.deref-2.ensures.value

pub returns : goal.returns
returns c =
    let s = c.host_view-view.result in
    let view = c.host_view-view.ensures.view in
    let folders = c.in_ok-folders.folders in
    let ps = c.in_ok-dropins.dropins.items in
    let borrowed = borrowed_are_drop_ins s folders ps c.in_ok-dropins.ensures.exact in
    record {
      files = IfOk-weaker c.files_text.result (λ text. text.items ≡ borrowed_text s c.args.fragment.now c.deref-2.result.now) (λ text. IsCat (host_view_of c.args.store.now c.args.viewer.now) c.args.unit.now c.args.fragment.now text.items)
          (λ text e. subst (λ (v : HostViewMap). IsCat v c.args.unit.now c.args.fragment.now text.items) view (record {
            names = c.deref.result.now;
            names_are = subst (λ (v : HostViewMap). AreNames v c.args.unit.now c.deref.result.now) (sym view) (subst (AreNames (host_view_of c.args.store.now c.args.viewer.now) c.args.unit.now) (sym c.deref.ensures.value) c.in_ok-names.ensures.names);
            dropins = map (entry_place s) ps;
            ascending = borrowed.1 c.in_ok-dropins.ensures.ascending;
            exact = λ p. subst (λ (fs : List Name). Contains (map (entry_place s) ps) p ↔ IsDropInAtOf s fs p) c.in_ok-folders.ensures.folders (borrowed.0 p);
            text_is = e ∙ ap (borrowed_text s c.args.fragment.now) c.deref-2.ensures.value ∙ text_borrowed s folders c.args.fragment.now ps c.in_ok-dropins.ensures.exact;
          }))
          c.files_text.ensures.lines;
    }
