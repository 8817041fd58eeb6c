use Rattle.exchange_bytes.proofs.Weighing.{room_begins}
use Rattle.exchange_bytes.specs.declared.frames.Frame.{Frame}
use Rattle.std.proofs.Common.{All, List, ◌≡◌, ◌+◌, ◌≤◌, sym, ap, subst, ◌∙◌}
use Rattle.std.proofs.lemmas.List.Elements.{All-nil}
use Rattle.exchange_session.specs.Joined.{joined}
use Rattle.exchange_bytes.specs.Cutting.{ask_weight, frame_limit, IsSmall, message_weight, piece_weight, print_weight, total}
use Rattle.exchange_bytes.proofs.Packing.{all_sent, one_frame}
use Rattle.exchange_bytes.proofs.cutting.frames_of.Goals as goal

pub returns-clause-pieces : goal.returns-clause-pieces
returns-clause-pieces c s =
    let parts = c.into_parts-prints.result in
    ap (joined s) c.in_ok-frames.ensures.pieces
    ∙ all_sent c.begun-packing.result c.in_ok-packing.packing c.in_ok-packing-2.packing c.in_ok-packing-3.packing parts.0.items parts.1.items parts.2.items c.begun-packing.ensures.frames c.begun-packing.ensures.store c.in_ok-packing.ensures.says
    c.in_ok-packing-2.ensures.says c.in_ok-packing-3.ensures.pieces s
    ∙ ap (λ v. joined s v.items) c.into_parts-prints.ensures.pieces

pub returns-clause-one : goal.returns-clause-one
returns-clause-one c few =
    let parts = c.into_parts-prints.result in
    let told = c.into_parts-prints.ensures in
    let k = total print_weight parts.0.items in
    let l = total ask_weight parts.1.items in
    let m = total piece_weight parts.2.items in
    let same : k + (l + m) ≡ message_weight c.args.message = (λ i. total print_weight (told.prints i).items + (total ask_weight (told.asks i).items + total piece_weight (told.pieces i).items)) in
    one_frame c.begun-packing.result c.in_ok-packing.packing c.in_ok-packing-2.packing c.in_ok-packing-3.packing k l m _ c.begun-packing.ensures.frames c.begun-packing.ensures.weight c.in_ok-packing.ensures.heavier.weighs
    c.in_ok-packing-2.ensures.heavier.weighs c.in_ok-packing-3.ensures.heavier.weighs c.in_ok-frames.ensures.count (subst (λ n. n ≤ frame_limit) (sym same) few)

pub returns-clause-small : goal.returns-clause-small
returns-clause-small c =
    let begun = c.begun-packing.ensures in
    let none : All IsSmall c.begun-packing.result.frames.items = subst (λ (fs : List Frame). All IsSmall fs) (sym begun.frames) (All-nil IsSmall) in
    let room = room_begins c.begun-packing.result none begun.prints begun.asks begun.store begun.weight in
    c.in_ok-frames.ensures.small (c.in_ok-packing-3.ensures.small (c.in_ok-packing-2.ensures.small (c.in_ok-packing.ensures.small room)))
