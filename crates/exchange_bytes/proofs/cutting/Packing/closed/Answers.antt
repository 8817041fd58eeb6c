use Rattle.std.proofs.Common.{All, List, refl, subst, sym, true}
use Rattle.std.proofs.lemmas.List.Elements.{All-push}
use Rattle.exchange_bytes.specs.Cutting.{IsSmall}
use Rattle.exchange_bytes.specs.declared.frames.Frame.{Frame}
use Rattle.exchange_bytes.proofs.Packing.{closed_says}
use Rattle.exchange_bytes.proofs.Weighing.{room_begins, small_frame}
use Rattle.exchange_bytes.proofs.cutting.Packing.closed.Goals as goal

pub returns-clause-says : goal.returns-clause-says
returns-clause-says c =
    closed_says c.args.self (record { hello = c.args.self.hello; prints = c.args.self.prints; asks = c.args.self.asks; piece = c.from_store.result; more = true })
    (record { hello = refl; prints = refl; asks = refl; piece = c.from_store.ensures.store }) _ refl c.in_ok-push.ensures.items c.begun-next.ensures.hello c.begun-next.ensures.prints c.begun-next.ensures.asks c.begun-next.ensures.store

pub returns-clause-small : goal.returns-clause-small
returns-clause-small c room =
    let frame : Frame = record { hello = c.args.self.hello; prints = c.args.self.prints; asks = c.args.self.asks; piece = c.from_store.result; more = true } in
    let is_small = small_frame c.args.self frame (record { hello = refl; prints = refl; asks = refl; piece = c.from_store.ensures.store }) room in
    room_begins _ (subst (λ (fs : List Frame). All IsSmall fs) (sym c.in_ok-push.ensures.items) (All-push IsSmall c.args.self.frames.items frame room.frames is_small)) c.begun-next.ensures.prints c.begun-next.ensures.asks c.begun-next.ensures.store
    c.begun-next.ensures.weight
