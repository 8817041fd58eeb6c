use Rattle.std.proofs.Common.{◌∷◌}
use Rattle.load_path.proofs.{CutLemmas.{after_slash}, Prelude.{[], below_none, Decides-eqb, None, Some, strip_prefix_is, sym}}
use Rattle.load_path.proofs.texts.after_directory.Goals as goal

pub returns-in_err-strip_prefix : goal.returns-in_err-strip_prefix
returns-in_err-strip_prefix c =
    let apart = strip_prefix_is Decides-eqb c.args.text.now c.args.directory.now None c.in_err-strip_prefix.ensures.cases in
    rw c.from_residual.ensures (record { below = sym (below_none c.args.directory.now c.args.text.now (λ rest. apart (47 ∷ rest))) })

pub returns : goal.returns
returns c =
    let prefix = strip_prefix_is Decides-eqb c.args.text.now c.args.directory.now (Some c.in_ok-strip_prefix.field-0) c.in_ok-strip_prefix.ensures.cases in
    let slash = strip_prefix_is Decides-eqb c.in_ok-strip_prefix.field-0.now (47 ∷ []) c.strip_prefix-2.result c.strip_prefix-2.ensures.cases in
    record { below = after_slash c.args.directory.now c.args.text.now c.in_ok-strip_prefix.field-0.now c.strip_prefix-2.result prefix slash }
