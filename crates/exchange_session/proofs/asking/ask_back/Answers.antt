use Rattle.exchange_session.proofs.Prelude.{ap, digest_of, inl, is_within, PlaceParts, Range, refl, subst, sym, true, ◌∙◌}
use Rattle.exchange_session.proofs.Telling.{entries_ascend}
use Rattle.exchange_session.specs.Told.{IsAskedAt}
use Rattle.exchange_session.proofs.asking.ask_back.Goals as goal

pub asks_for-requires : goal.asks_for-requires
asks_for-requires c = record { sorted = rw c.requires.own (entries_ascend (digest_of c.args.node.now.store)) }

pub returns-clause-all : goal.returns-clause-all
returns-clause-all c newer p inside = c.in_ok-asks_for.ensures.covered p (ap (λ (r : Range). is_within r p) c.into_range.ensures.range ∙ inside)

pub returns-clause-stays : goal.returns-clause-stays
returns-clause-stays c p it =
    (c.args.ask, (inl refl, (sym c.knows_more.ensures.more ∙ c.if-not-knows_more.false, ap (λ (r : Range). is_within r p) (sym c.into_range.ensures.range) ∙ c.in_ok-asks_for.ensures.stays p it)))
