use Rattle.std.proofs.Common.{◌∷◌}
use Rattle.delta_pieces.proofs.{Gathers.{cut_at_more, cut_nowhere}, Prelude.{[], ap, cut, digest_of, join, Some, sym, ◌∙◌}}
use Rattle.delta_pieces.proofs.newer.newer_than_at.Goals as goal

pub loop-place-init : goal.loop-place-init
loop-place-init c = c.new-newer.ensures.empty ∙ sym (cut_nowhere c.args.store.now (digest_of c.args.other.now))

pub loop-place-preserved : goal.loop-place-preserved
loop-place-preserved c =
    c.in_ok-join_news.ensures.ok
    ∙ ap (λ g. join g (cut c.args.store.now (digest_of c.args.other.now) (Some (c.place-item.result ∷ [])))) c.loop-place.invariant
    ∙ cut_at_more c.args.store.now (digest_of c.args.other.now) c.args.places.now c.loop-place.place-index c.place-item.result c.loop-place-test.true c.place-item.is
