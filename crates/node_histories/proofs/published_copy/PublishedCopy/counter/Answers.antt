use Rattle.node_histories.proofs.Prelude.{ap, high_of, high_of-store_of, ◌∙◌}
use Rattle.node_histories.proofs.published_copy.PublishedCopy.counter.Goals as goal

pub returns : goal.returns
returns c = record { counter = c.high.ensures.high ∙ ap (λ r. high_of r.store) c.deref.ensures ∙ ap (λ r. high_of r.store) c.args.self.now.kept ∙ high_of-store_of c.args.self.now.seen.log }
