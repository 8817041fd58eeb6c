use Rattle.std.proofs.Common.{ap, List, ℕ, ◌∙◌}
use Rattle.std.specs.Str.{bytes_eq}
use Rattle.store_bytes.proofs.heads.has_sum.Goals as goal

pub returns : goal.returns
returns c = record { sum = c.eq.ensures ∙ ap (λ (l : List ℕ). bytes_eq l c.args.sum.now) (c.as_slice.ensures ∙ c.digest-own.ensures) }
