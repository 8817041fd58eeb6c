use Rattle.std.proofs.Common.{◌≡◌}
use Rattle.delta_pieces.proofs.Prelude.{ap, cut, digest_of, join, None, whole_answer, ◌∙◌}
use Rattle.delta_pieces.proofs.cuts.delta_between.Goals as goal

pub returns : goal.returns
returns c =
    let is : c.from_store.result ≡ cut c.args.from.now.store (digest_of c.args.to.now.store) None =
    c.from_store.ensures.store ∙ c.in_ok-newer_than.ensures.cut ∙ λ i. cut (c.store.ensures.store i) (digest_of (c.store-2.ensures.store i)) None
    in
    record { cut = is; whole = λ honest. ap (join c.args.to.now.store) is ∙ whole_answer c.args.to.now.store c.args.from.now.store honest }
