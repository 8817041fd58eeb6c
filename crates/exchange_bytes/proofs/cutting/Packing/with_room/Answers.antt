use Rattle.std.proofs.Common.{[], sym, subst}
use Rattle.std.specs.FinMap as finmap
use Rattle.exchange_bytes.specs.Cutting.{SaysAlso}
use Rattle.exchange_bytes.specs.declared.cutting.Packing.{Packing}
use Rattle.exchange_bytes.proofs.Packing.{says_same}
use Rattle.exchange_bytes.proofs.cutting.Packing.with_room.Goals.{else-self-weight, then-self-weight+in_ok-open}
use Rattle.exchange_bytes.proofs.cutting.Packing.with_room.Goals as goal

pub returns-clause-says : goal.returns-clause-says
returns-clause-says c =
    let says : SaysAlso c.args.self c.if-self-weight.open [] [] finmap.empty = elim c.if-self-weight.branch as (λ _. SaysAlso c.args.self c.if-self-weight.open [] [] finmap.empty) [
      | then-self-weight+in_ok-open w ↦ subst (λ (p : Packing). SaysAlso c.args.self p [] [] finmap.empty) (sym w.open-is) w.in_ok-open.ensures.says
      | else-self-weight w ↦ subst (λ (p : Packing). SaysAlso c.args.self p [] [] finmap.empty) (sym w.open-is) (says_same c.args.self)
    ] in
    record { prints = says.prints; asks = says.asks; pieces = says.pieces; linked = says.linked }
