use Rattle.std.proofs.Common.{◌∷◌, [], List, rules, subst, sym}
use Rattle.std.specs.Io.KnownBytes.{Appends}
use Rattle.exchange_bytes.specs.declared.frames.Frame.{Frame}
use Rattle.node_exchange.specs.Streams.{on_stream}
use Rattle.node_exchange.proofs.Talking.{taken_last, written_more}
use Rattle.node_exchange.proofs.saying.write_frames.Goals as goal
use Rattle.std.proofs.Common.{take}

pub loop-frame-preserved : goal.loop-frame-preserved
loop-frame-preserved g c =
    let start = g.K.Sink.contents c.args.sink.now in
    let mid = g.K.Sink.contents c.loop-frame.sink in
    let end = g.K.Sink.contents c.write_frame.new.sink in
    let before = take c.loop-frame.frame-index c.args.frames.now in
    subst (λ (fs : List Frame). Appends start end (on_stream fs)) (sym (taken_last c.args.frames.now c.loop-frame.frame-index c.frame-item.result (search rules) c.frame-item.is))
    (written_more start mid end before (c.frame-item.result ∷ []) c.loop-frame.invariant c.in_ok-write_frame.ensures.written)
