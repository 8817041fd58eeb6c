use Rattle.script_answers.proofs.Prelude.{ap, fragments_are_files, host_view_of, main, mains_are_their_own, Resolution, sym, ◌∙◌}
use Rattle.script_answers.proofs.files.render_files_for.Goals as goal

-- the main name that was found is its own main name, and its fragment is a file
pub files_of_unit-requires-clause-main : goal.files_of_unit-requires-clause-main
files_of_unit-requires-clause-main c =
    let s = host_view_of c.args.store.now c.args.viewer.now in
    let e = ap (λ (r : Resolution). r.main) c.in_ok-main.ensures.resolution in
    ap (main s) e ∙ (mains_are_their_own s c.in-Ok.name).0 ∙ sym e

pub files_of_unit-requires-clause-file : goal.files_of_unit-requires-clause-file
files_of_unit-requires-clause-file c = fragments_are_files (host_view_of c.args.store.now c.args.viewer.now) c.in-Ok.name c.in-Fragment.place (sym (ap (λ (r : Resolution). r.choice) c.in_ok-main.ensures.resolution) ∙ c.in-Fragment.is)
