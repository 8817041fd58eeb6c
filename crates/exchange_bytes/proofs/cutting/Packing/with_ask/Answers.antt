use Rattle.exchange_bytes.proofs.Weighing.{ask_fits}
use Rattle.std.proofs.Common.{◌≡◌, ◌+◌, ◌*◌, length, min, refl, ap, subst, ◌∙◌}
use Rattle.exchange_bytes.specs.Cutting.{ask_weight, HasRoom, IsHeavier}
use Rattle.exchange_bytes.proofs.cutting.Packing.with_ask.Goals as goal

pub returns-clause-heavier : goal.returns-clause-heavier
returns-clause-heavier c =
    let weight : 1200 + 600 * c.min.result ≡ ask_weight c.args.ask = ap (λ k. 1200 + 600 * k) (c.min.ensures ∙ ap (λ vs. min (length vs) 1498) c.versions.ensures.versions) in
    subst (λ k. IsHeavier c.args.self c.in_ok-open.open k) weight c.in_ok-open.ensures.heavier

pub returns-clause-small : goal.returns-clause-small
returns-clause-small c room =
    let weight : 1200 + 600 * c.min.result ≡ ask_weight c.args.ask = ap (λ k. 1200 + 600 * k) (c.min.ensures ∙ ap (λ vs. min (length vs) 1498) c.versions.ensures.versions) in
    ask_fits c.in_ok-open.open _ c.args.ask (subst (λ k. HasRoom c.in_ok-open.open k) weight (c.in_ok-open.ensures.room room)) refl refl c.in_ok-push.ensures.items refl refl
