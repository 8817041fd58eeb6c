use mathlib.Core.List.{IsPrefix}
use Rattle.shared_node.proofs.Prelude.{latest, List, prefix_self, PublishedCopy, subst, sym}
use Rattle.shared_node.proofs.blank.shown_pair.Goals as goal

pub publish-writer-requires-clause-goes_on : goal.publish-writer-requires-clause-goes_on
publish-writer-requires-clause-goes_on g c =
    let seen = c.in_ok-writer.writer.desk.shown.value.seen in
    subst (λ (published_copies : List PublishedCopy). IsPrefix seen.log (latest (λ p. p.seen) seen published_copies).log)
    (sym c.in_ok-writer.ensures.1) (prefix_self seen.log)
