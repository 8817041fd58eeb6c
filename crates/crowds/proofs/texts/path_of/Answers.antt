use Rattle.crowds.proofs.{Made.{path_is}, Paths.{crowd_text_is_path}, Prelude.{crowd_path, ◌∙◌}}
use Rattle.crowds.proofs.texts.path_of.Goals as goal

pub returns-in-Ok : goal.returns-in-Ok
returns-in-Ok c = record {
  path =
      path_is c.in-Ok.path (crowd_path c.args.worker) c.as_bytes.result.now c.in-Ok.ensures.parsed
      (crowd_text_is_path c.args.worker c.as_bytes.result.now c.ranges.worker.fits (c.as_bytes.ensures.value ∙ c.in_ok-text.ensures.ok));
}
