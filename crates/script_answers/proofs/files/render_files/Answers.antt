use Rattle.script_answers.proofs.{Prelude.{by_files, host_view_of, RendersFilesOf}, Rendered.{for_host}}
use Rattle.script_answers.proofs.files.render_files.Goals as goal

pub returns : goal.returns
returns c =
    let store = c.args.store.now in
    let unit = c.args.unit.now in
    record { rendered = for_host c.args.host (λ host s. RendersFilesOf unit (host_view_of s (by_files host))) store c.in_ok-host.host c.in_ok-host.ensures.read c.render_files_for.result c.render_files_for.ensures.rendered }
