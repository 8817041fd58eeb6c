use Rattle.chunked_pairs.proofs.{Prelude.{ap, arith, without_last, ◌∙◌}, Views.{without_popped}}
use Rattle.chunked_pairs.proofs.chunks.Chunks.drop_last.Goals as goal

pub returns : goal.returns
returns g c = record {
  left = without_popped c.self.inside.first.items c.self.inside.more.items _ c.self.inside.more.len (omega arith) c.pop-gone.ensures.rest ∙ ap (λ v. without_last v.0 v.1) c.self.view_is;
}
