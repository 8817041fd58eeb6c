use Rattle.crowds.proofs.{Made.{file_is}, Prelude.{ap, append_assoc, File, ◌∙◌}}
use Rattle.crowds.proofs.texts.file_of.Goals as goal

pub returns-in-Ok : goal.returns-in-Ok
returns-in-Ok c = record {
  file =
      file_is c.in-Ok.content c.into_bytes.result.items c.in-Ok.ensures.made
      ∙ ap File (ap (λ v. v.items) c.into_bytes.ensures.value ∙ c.in_ok-text.ensures.ok ∙ simp append_assoc);
}
