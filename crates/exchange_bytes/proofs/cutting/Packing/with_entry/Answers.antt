use Rattle.exchange_bytes.proofs.Weighing.{edit_fits}
use Rattle.std.proofs.Common.{refl, subst}
use Rattle.exchange_bytes.specs.Cutting.{HasRoom, IsHeavier}
use Rattle.exchange_bytes.proofs.Packing.{edited_says}
use Rattle.exchange_bytes.proofs.cutting.Packing.with_entry.Goals as goal

pub returns-clause-says : goal.returns-clause-says
returns-clause-says c = edited_says c.args.self c.in_ok-open.open _ c.args.edit c.in_ok-open.ensures.says refl refl refl refl c.in_ok-join_edit.ensures.ok

pub returns-clause-heavier : goal.returns-clause-heavier
returns-clause-heavier c = subst (λ k. IsHeavier c.args.self c.in_ok-open.open k) c.weight_of.ensures.weight c.in_ok-open.ensures.heavier

pub returns-clause-small : goal.returns-clause-small
returns-clause-small c room =
    edit_fits c.in_ok-open.open _ c.args.edit (subst (λ k. HasRoom c.in_ok-open.open k) c.weight_of.ensures.weight (c.in_ok-open.ensures.room room)) refl refl refl c.in_ok-join_edit.ensures.ok refl
